-- A load that guesses its value, or whose guess is confirmed, stays sound, and grows.
use Rattle.std.proofs.Common.{◌≡◌, ℕ, List, Option, None, Some, refl, sym, ap, ◌∙◌, subst}
use Rattle.std.specs.Prelude.{unwrap_or}
use Rattle.instructions.specs.Programs.{Program}
use Rattle.instructions.specs.declared.op.Kind.TheVariants.{Loads}
use Rattle.instructions.specs.declared.stop.Outcome.{Outcome}
use Rattle.inorder.specs.Speculation.{CanGuess, MayConfirm, MayGuess, confirmed, guessed}
use Rattle.inorder.specs.Tenants.{Addr, Busy, Done, Fate, Guessed, Miss, Open, Standing, Stopped, Tenant, computed, instr, kind_of}
use Rattle.inorder.proofs.Theorem.DeliveryKept.{fresh_grows}
use Rattle.inorder.proofs.Theorem.FinishKept.{needed, remade}
use Rattle.inorder.proofs.Grows.{Grows}
use Rattle.inorder.proofs.Sound.{DoneBy, FateBy, FateIs, HasSureRead, IsSoundAt, LoadIs}

-- a load that can guess has made nothing
guesses_unmade : (o : Outcome) (pc predicted next : ℕ) (made a b : Option ℕ) (st : Standing) (f : Fate) → CanGuess f →
    FateBy Loads o pc predicted next made a b st f → made ≡ None
guesses_unmade o pc predicted next made a b st Open c h = h.0
guesses_unmade o pc predicted next made a b st (Addr q) c h = h.0
guesses_unmade o pc predicted next made a b st (Busy by) c h = absurd c
guesses_unmade o pc predicted next made a b st (Done v) c h = absurd c
guesses_unmade o pc predicted next made a b st (Guessed v) c h = absurd c
guesses_unmade o pc predicted next made a b st (Miss x) c h = absurd c
guesses_unmade o pc predicted next made a b st (Stopped x) c h = absurd c

module _ (P : Program) (ts : List Tenant) (t : Tenant) (v : ℕ) (m : MayGuess P t v) (s : IsSoundAt P ts t) where
  unmade : t.made ≡ None
  unmade =
      guesses_unmade (computed P t) t.pc t.predicted t.next t.made t.first.value t.second.value t.standing t.fate m.fate
      (subst (λ k. FateBy k (computed P t) t.pc t.predicted t.next t.made t.first.value t.second.value t.standing t.fate)
      m.kind s.own.fate)

  pub guess_sound : IsSoundAt P ts (guessed t v)
  guess_sound =
      remade P ts t (Guessed v) (Some v) m.live (m.kind, refl)
      (subst (λ k. LoadIs P ts (instr P t) (computed P t) k (Guessed v)) (sym m.kind) tt) s

  pub guess_grows : Grows P t (guessed t v)
  guess_grows =
      fresh_grows P t _ m.live (λ h st. let k = m.kind in
      cc) refl refl refl refl (λ w x. let none : t.made ≡ None = unmade in absurd (cc))

module _ (P : Program) (ts : List Tenant) (t : Tenant) (m : MayConfirm P ts t) (s : IsSoundAt P ts t) where
  guess : FateIs P t (Guessed m.v)
  guess = subst (FateIs P t) m.fate s.own.fate

  worth : unwrap_or t.made 0 ≡ m.v
  worth = ap (λ z. unwrap_or z 0) guess.1

  read : HasSureRead P ts (instr P t) (computed P t) (unwrap_or t.made 0)
  read = record { a = m.a; n = m.bytes; computes = m.computes; sure = m.read; value = worth ∙ m.right }

  pub confirm_sound : IsSoundAt P ts (confirmed t)
  confirm_sound =
      remade P ts t (Done (unwrap_or t.made 0)) t.made m.live (
        subst (DoneBy (computed P t) t.pc t.next t.made (unwrap_or t.made 0)) (sym guess.0)
            ((m.a, m.computes), guess.1 ∙ ap Some (sym worth)),
        needed (kind_of P t) t.first.value t.second.value m.needs,
      ) (subst (λ k. LoadIs P ts (instr P t) (computed P t) k (Done (unwrap_or t.made 0))) (sym guess.0) read) s

  pub confirm_grows : Grows P t (confirmed t)
  confirm_grows = fresh_grows P t _ m.live (λ h st. let k = guess.0 in cc) refl refl refl refl (λ w x. x)
