-- In a legal history of a shared unit nobody speculates, so that no tenant has guessed.
use Rattle.std.proofs.Common.{◌≡◌, ◌≢◌, ℕ, Bool, true, false, cond, eqb, List, [], ◌∷◌, Some, sym, subst}
use Rattle.std.specs.List.{AllByRecursion}
use Rattle.instructions.specs.Programs.{Program}
use Rattle.instructions.specs.declared.stop.Outcome.{Outcome}
use Rattle.instructions.specs.declared.stop.Outcome.TheVariants.{Address, Next, Pair, Stop as Stops, Value}
use Rattle.inorder.specs.declared.history.Act.{Act}
use Rattle.inorder.specs.declared.history.Act.TheVariants.{Claim, Deliver, Finish, Link, Load, Mend, Retire, Speculate, Squash}
use Rattle.inorder.specs.declared.history.Entry.{Entry}
use Rattle.inorder.specs.declared.history.Event.{Event}
use Rattle.inorder.specs.declared.history.Event.TheVariants.{Does, Marks, Refuses}
use Rattle.inorder.specs.declared.history.Source.TheVariants.{First, Second}
use Rattle.inorder.specs.declared.history.Step.{Step}
use Rattle.inorder.specs.declared.history.Step.TheVariants.{Let, On, Renew}
use Rattle.inorder.specs.History.{IsLegal, IsTheirAct, IsTheirs, MayAdd, entry, unit_of}
use Rattle.inorder.specs.Legal.{Allowed, May, applied, changed}
use Rattle.inorder.specs.Plain.{IsPlainAct}
use Rattle.inorder.specs.Steps.{finished, mended_as}
use Rattle.inorder.specs.Tenants.{Done, Guessed, Miss, Tenant, computed}
use Rattle.inorder.specs.Unit.{Sizes, UpdateUnit, at, older, younger}
use Rattle.inorder.proofs.Basics.{split_at}
use Rattle.inorder.proofs.Grows.{all_grows}
use Rattle.inorder.proofs.Kept.{parts}
use Rattle.inorder.proofs.Positions.{all_at}

abbrev pub IsNoGuess : Tenant → Type 0
IsNoGuess t = (v : ℕ) → t.fate ≢ Guessed v

finish_guesses_not : (t : Tenant) (o : Outcome) → IsNoGuess (finished t o)
finish_guesses_not t (Value w) v e = cc e
finish_guesses_not t (Next x) v e = go (eqb x t.predicted) e
  where
    go : (b : Bool) → cond b (Done x) (Miss x) ≡ Guessed v → ⊥
    go true e = cc e
    go false e = cc e
finish_guesses_not t (Address a) v e = cc e
finish_guesses_not t (Stops c) v e = cc e
finish_guesses_not t (Pair l h) v e = cc e

theirs_plain : (by : ℕ) (act : Act) → IsTheirAct by act → IsPlainAct act
theirs_plain by (Link k) w = tt
theirs_plain by (Deliver k) w = tt
theirs_plain by Claim w = tt
theirs_plain by Finish w = tt
theirs_plain by Load w = tt
theirs_plain by (Retire n) w = tt
theirs_plain by Squash w = tt
theirs_plain by Mend w = tt
theirs_plain by (Speculate s) w = absurd w

pub act_guesses_not : (P : Program) (by : ℕ) (act : Act) (ys : List Tenant) (t : Tenant) (ts : List Tenant) → IsPlainAct act → May P by act ys t ts → IsNoGuess t → IsNoGuess (changed P by act t ts)
act_guesses_not P by (Link First) ys t ts w m n = n
act_guesses_not P by (Link Second) ys t ts w m n = n
act_guesses_not P by (Deliver First) ys t ts w m n = n
act_guesses_not P by (Deliver Second) ys t ts w m n = n
act_guesses_not P by Claim ys t ts w m n = λ v e. cc e
act_guesses_not P by Finish ys t ts w m n = finish_guesses_not t (computed P t)
act_guesses_not P by Load ys t ts w m n = λ v e. cc e
act_guesses_not P by (Retire r) ys t ts w m n = n
act_guesses_not P by Squash ys t ts w m n = n
act_guesses_not P by Mend ys t ts w m n = subst (λ f. IsNoGuess (mended_as t f)) (sym m.fate) (λ v e. cc e)
act_guesses_not P by (Speculate s) ys t ts w m n = absurd w

step_guesses_not : (P : Program) (C : Sizes) (U : UpdateUnit) (by : ℕ) (s : Step) → IsTheirs C U by s → Allowed P C U by s → AllByRecursion IsNoGuess U.tenants →
    AllByRecursion IsNoGuess (applied P C U by s).tenants
step_guesses_not P C U by (Let index predicted first second) w a all = ((λ v e. cc e), all)
step_guesses_not P C U by (On p act) w a all =
    let us = U.tenants in
    let t = a.tenant in
    let t' = changed P by act t (older us p) in
    subst (AllByRecursion IsNoGuess) (sym (parts P us by p act t a.is))
    (all_grows IsNoGuess t t' (older us p) (younger us p) (act_guesses_not P by act (younger us p) t (older us p) (theirs_plain by act w) a.may) (subst (AllByRecursion IsNoGuess) (split_at us p t a.is) all))
step_guesses_not P C U by Renew w a all = all

module _ (P : Program) (C : Sizes) where
  none_guess : (h : List Entry) → IsLegal P C h → AllByRecursion IsNoGuess (unit_of P C h).tenants
  none_guess [] legal = tt
  none_guess (e ∷ h) legal = go e.by e.event legal.1 (none_guess h legal.0)
    where
      go : (by : ℕ) (x : Event) → MayAdd P C h by x → AllByRecursion IsNoGuess (unit_of P C h).tenants → AllByRecursion IsNoGuess (unit_of P C (entry by x ∷ h)).tenants
      go by (Does s) may all = step_guesses_not P C (unit_of P C h) by s may.0 may.1 all
      go by (Refuses r) may all = all
      go by (Marks k) may all = all

  pub never_guessed : (h : List Entry) → IsLegal P C h → (p : ℕ) (t : Tenant) → at (unit_of P C h).tenants p ≡ Some t → (v : ℕ) → t.fate ≢ Guessed v
  never_guessed h legal p t is = all_at IsNoGuess (unit_of P C h).tenants (none_guess h legal) p t is
