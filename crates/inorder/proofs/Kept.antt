-- Each allowed step keeps a unit sound.
use Rattle.std.proofs.Common.{◌≡◌, ℕ, List, [], ◌∷◌, ◌++◌, Some, refl, sym, ap, ◌∙◌, subst}
use Rattle.instructions.specs.Programs.{Program}
use Rattle.inorder.specs.declared.history.Act.{Act}
use Rattle.inorder.specs.declared.history.Act.TheVariants.{Claim, Deliver, Finish, Link, Load, Mend, Retire, Speculate, Squash}
use Rattle.inorder.specs.declared.history.Step.{Step}
use Rattle.inorder.specs.declared.history.Step.TheVariants.{Let, On, Renew}
use Rattle.inorder.specs.Legal.{Allowed, AreAllowed, May, Taken, applied, change_at, changed, reached}
use Rattle.inorder.specs.Steps.{mended_as}
use Rattle.inorder.specs.Tenants.{Done, Tenant, computed}
use Rattle.inorder.specs.Unit.{Sizes, UpdateUnit, at, older, younger}
use Rattle.inorder.proofs.Basics.{replaced_split, split_at}
use Rattle.inorder.proofs.Theorem.DeliveryKept.{deliver_sound, link_sound}
use Rattle.inorder.proofs.Theorem.FinishKept.{claim_sound, finish_sound, load_may}
use Rattle.inorder.proofs.Grows.{end_sound, grow_sound, sound_mid}
use Rattle.inorder.proofs.Theorem.LeaveKept.{mend_sound, retire_sound, squash_sound}
use Rattle.inorder.proofs.Theorem.LetKept.{let_sound}
use Rattle.inorder.proofs.Theorem.SpeculationKept.{confirm_sound, guess_sound}
use Rattle.inorder.proofs.Sound.{IsSound}
pub use Rattle.inorder.proofs.Theorem.DeliveryKept.{deliver_grows, link_grows}
pub use Rattle.inorder.proofs.Theorem.FinishKept.{claim_grows, finish_grows, load_may_grow}
pub use Rattle.inorder.proofs.Theorem.LeaveKept.{retire_grows}
pub use Rattle.inorder.proofs.Theorem.SpeculationKept.{confirm_grows, guess_grows}
use Rattle.inorder.specs.declared.history.Speculation.TheVariants.{Confirm, Flush, Guess}

-- Any step

-- an act on a tenant
Keeps : Program → ℕ → Act → Type 0
Keeps P by act =
    (ys : List Tenant) (t : Tenant) (ts : List Tenant) → May P by act ys t ts → IsSound P (ys ++ t ∷ ts) →
    IsSound P (ys ++ changed P by act t ts ∷ ts)

act_keeps : (P : Program) (by : ℕ) (act : Act) → Keeps P by act
unfolding Keeps
act_keeps P by (Link k) ys t ts m s =
    grow_sound P t _ ts ys (link_grows P ts t k) (link_sound P ts t k (sound_mid P t ts ys s)) s
act_keeps P by (Deliver k) ys t ts m s =
    grow_sound P t _ ts ys (deliver_grows P ts t k m) (deliver_sound P ts t k m (sound_mid P t ts ys s)) s
act_keeps P by Claim ys t ts m s =
    grow_sound P t _ ts ys (claim_grows P t by m) (claim_sound P ts t by m (sound_mid P t ts ys s)) s
act_keeps P by Finish ys t ts m s =
    let q = sound_mid P t ts ys s in
    grow_sound P t _ ts ys (finish_grows P ts t by (computed P t) refl m q) (finish_sound P ts t by
    (computed P t) refl m q) s
act_keeps P by Load ys t ts m s =
    let q = sound_mid P t ts ys s in
    grow_sound P t _ ts ys (load_may_grow P ts t m q) (load_may P ts t m q) s
act_keeps P by (Retire n) ys t ts m s =
    let q = sound_mid P t ts ys s in
    grow_sound P t _ ts ys (retire_grows P ts t n m q) (retire_sound P ts t n m q) s
act_keeps P by Squash ys t ts m s =
    end_sound P t _ ts ys (λ v e. e) m.live m.youngest (squash_sound P ts t m.live (sound_mid P t ts ys s)) s
act_keeps P by (Speculate (Guess v)) ys t ts m s =
    let q = sound_mid P t ts ys s in
    grow_sound P t _ ts ys (guess_grows P ts t v m q) (guess_sound P ts t v m q) s
act_keeps P by (Speculate Confirm) ys t ts m s =
    let q = sound_mid P t ts ys s in
    grow_sound P t _ ts ys (confirm_grows P ts t m q) (confirm_sound P ts t m q) s
act_keeps P by (Speculate Flush) ys t ts m s =
    end_sound P t _ ts ys (λ v e. e) m.live m.youngest (squash_sound P ts t m.live (sound_mid P t ts ys s)) s
act_keeps P by Mend ys t ts m s =
    let new = end_sound P t (record t { fate = Done m.x; next = m.x }) ts ys (λ v e. e) m.live m.youngest
    (mend_sound P ts t m.x m.live m.fate (sound_mid P t ts ys s)) s in
    subst (λ f. IsSound P (ys ++ mended_as t f ∷ ts)) (sym m.fate) new

-- a step on a tenant, in parts
pub parts : (P : Program) (ts : List Tenant) (by p : ℕ) (act : Act) (t : Tenant) → at ts p ≡ Some t →
    change_at P ts by p act (at ts p) ≡ younger ts p ++ changed P by act t (older ts p) ∷ older ts p
parts P ts by p act t e =
    ap (change_at P ts by p act) e ∙ replaced_split ts p t (changed P by act t (older ts p)) e

pub kept : (P : Program) (C : Sizes) (U : UpdateUnit) (by : ℕ) (s : Step) → Allowed P C U by s →
    IsSound P U.tenants → IsSound P (applied P C U by s).tenants
unfolding Keeps
kept P C U by (Let index predicted first second) a s = (let_sound P C U index predicted first second a, s)
kept P C U by (On p act) a s =
    let ts = U.tenants in
    let before = subst (IsSound P) (split_at ts p a.tenant a.is) s in
    let after = act_keeps P by act (younger ts p) a.tenant (older ts p) a.may before in
    subst (IsSound P) (sym (parts P ts by p act a.tenant a.is)) after
kept P C U by Renew a s = s

pub sound : (P : Program) (C : Sizes) (ss : List Taken) → AreAllowed P C ss → IsSound P (reached P C ss).tenants
sound P C [] a = tt
sound P C (s ∷ ss) a = kept P C (reached P C ss) s.by s.step a.1 (sound P C ss a.0)
