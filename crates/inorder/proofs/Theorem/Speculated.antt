-- What follows of speculation, and that nobody of a shared unit speculates.
use Rattle.std.proofs.Common.{◌≡◌, ℕ, List, ◌∷◌, Some, ap, ◌∙◌, subst}
use Rattle.std.specs.List.{AllByRecursion}
use Rattle.instructions.specs.Programs.{Program}
use Rattle.instructions.specs.declared.op.Kind.TheVariants.{Loads}
use Rattle.inorder.specs.declared.history.Act.TheVariants.{Speculate}
use Rattle.inorder.specs.declared.history.Entry.{Entry}
use Rattle.inorder.specs.declared.history.Speculation.TheVariants.{Flush}
use Rattle.inorder.specs.declared.history.Step.TheVariants.{On}
use Rattle.inorder.specs.Legal.{Allowed, AreAllowed, Taken, applied, reached}
use Rattle.inorder.specs.SpeculationLaws.{DoneIsSure, FlushRestores, GuessStays, NobodySpeculates}
use Rattle.inorder.specs.Steps.{CanRetire, squashed}
use Rattle.inorder.specs.Tenants.{Guessed, IsNotLive, Live, Tenant, computed, instr, kind_of}
use Rattle.inorder.specs.Unit.{Sizes, at, creator, front_pc, older, younger}
use Rattle.inorder.proofs.Basics.{split_at}
use Rattle.inorder.proofs.Grows.{sound_mid}
use Rattle.inorder.proofs.Kept.{parts, sound}
use Rattle.inorder.proofs.Shared.{never_guessed}
use Rattle.inorder.proofs.Sound.{HasSureRead, IsSound, IsSoundAt, LoadIs}
use Rattle.inorder.proofs.Theorem.Forbidden.{IsOff, all_off, creator_skips, front_skips, same_tenant}

pub guess_stays : (P : Program) (C : Sizes) (history : List Taken) → GuessStays P C history
guess_stays P C history by p n v t e m a =
    let same = same_tenant (reached P C history).tenants p a.tenant t a.is e in
    let f : a.tenant.fate ≡ Guessed v = ap (λ u. u.fate) same ∙ m in
    subst (CanRetire (kind_of P a.tenant) a.tenant.second.value) f a.may.can

pub done_is_sure : (P : Program) (C : Sizes) (history : List Taken) → DoneIsSure P C history
done_is_sure P C history allowed p v t is on loads done =
    let ts = (reached P C history).tenants in
    let s : IsSoundAt P (older ts p) t = sound_mid P t (older ts p) (younger ts p) (subst (IsSound P) (split_at ts p t is) (sound P C history allowed)) in
    let one : LoadIs P (older ts p) (instr P t) (computed P t) Loads t.fate = subst (λ k. LoadIs P (older ts p) (instr P t) (computed P t) k t.fate) loads (s.placed on).load in
    let r : HasSureRead P (older ts p) (instr P t) (computed P t) v = subst (LoadIs P (older ts p) (instr P t) (computed P t) Loads) done one in
    record { a = r.a; bytes = r.n; computes = r.computes; read = r.sure; value = r.value }

pub flush_restores : (P : Program) (C : Sizes) (history : List Taken) → FlushRestores P C history
flush_restores P C history = record { creators = creators; goes_on = goes_on }
  where
    ts : List Tenant
    ts = (reached P C history).tenants

    off : (p : ℕ) (t : Tenant) → AreAllowed P C history → at ts p ≡ Some t → t.standing ≡ Live →
        AllByRecursion IsNotLive (younger ts p) → AllByRecursion IsOff (younger ts p)
    off p t allowed e live last =
        all_off P t (older ts p) (younger ts p) live last (subst (IsSound P) (split_at ts p t e)
        (sound P C history allowed))

    creators : (by p r : ℕ) → AreAllowed P C history → Allowed P C (reached P C history) by (On p (Speculate Flush)) →
        creator P (applied P C (reached P C history) by (On p (Speculate Flush))).tenants r ≡ creator P (older ts p) r
    creators by p r allowed a =
        ap (λ us. creator P us r) (parts P ts by p (Speculate Flush) a.tenant a.is)
        ∙ creator_skips P (younger ts p) (squashed a.tenant ∷ older ts p) r
        (off p a.tenant allowed a.is a.may.live a.may.youngest)

    goes_on : (by p : ℕ) → AreAllowed P C history → Allowed P C (reached P C history) by (On p (Speculate Flush)) →
        front_pc (applied P C (reached P C history) by (On p (Speculate Flush))).tenants ≡ front_pc (older ts p)
    goes_on by p allowed a =
        ap front_pc (parts P ts by p (Speculate Flush) a.tenant a.is)
        ∙ front_skips (younger ts p) (squashed a.tenant ∷ older ts p)
        (off p a.tenant allowed a.is a.may.live a.may.youngest)

pub nobody_speculates : (P : Program) (C : Sizes) (h : List Entry) → NobodySpeculates P C h
nobody_speculates P C h = record { adds = λ by p s m. m.0; guesses = λ legal p v t is. never_guessed P C h legal p t is v }
