-- A source that was known at the let has its value, and where nobody speculates nobody has guessed.
use Rattle.std.proofs.Common.{◌≡◌, ℕ, List, [], ◌∷◌, Option, Some, refl, sym, subst}
use Rattle.std.specs.List.{AllByRecursion}
use Rattle.instructions.specs.Programs.{Program}
use Rattle.instructions.specs.declared.stop.Outcome.{Outcome}
use Rattle.instructions.specs.declared.stop.Outcome.TheVariants.{Address, Next, Pair, Stop as Stops, Value}
use Rattle.inorder.specs.declared.history.Act.{Act}
use Rattle.inorder.specs.declared.history.Act.TheVariants.{Claim, Deliver, Finish, Link, Load, Mend, Retire, Speculate, Squash}
use Rattle.inorder.specs.declared.history.Source.{Source}
use Rattle.inorder.specs.declared.history.Source.TheVariants.{First, Second}
use Rattle.inorder.specs.declared.history.Speculation.TheVariants.{Confirm, Flush, Guess}
use Rattle.inorder.specs.declared.history.Step.{Step}
use Rattle.inorder.specs.declared.history.Step.TheVariants.{Let, On, Renew}
use Rattle.inorder.specs.declared.history.Supply.{Supply}
use Rattle.inorder.specs.declared.history.Supply.TheVariants.{From, Known}
use Rattle.inorder.specs.Legal.{Allowed, AreAllowed, May, Taken, applied, changed, reached}
use Rattle.inorder.specs.Plain.{IsPlain, WasPlain}
use Rattle.inorder.specs.Steps.{finished, let_operand, mended_as}
use Rattle.inorder.specs.Tenants.{AtLet, IsThere, Operand, Tenant, computed, operand}
use Rattle.inorder.specs.Unit.{Sizes, UpdateUnit, older, younger}
use Rattle.inorder.proofs.Basics.{split_at}
use Rattle.inorder.proofs.Grows.{all_grows}
use Rattle.inorder.proofs.Kept.{parts}
use Rattle.inorder.proofs.Shared.{IsNoGuess, act_guesses_not}

-- Known at the let

abbrev pub IsSupplied : Operand → Type 0
IsSupplied o = o.way ≡ AtLet → IsThere o.value

abbrev pub AreSupplied : Tenant → Type 0
AreSupplied t = (k : Source) → IsSupplied (operand k t)

let_supplied : (c : Option ℕ) (s : Supply) → IsSupplied (let_operand c s)
let_supplied c (Known v) w = (v, refl)
let_supplied c From w = absurd (cc w)

act_supplied : (P : Program) (by : ℕ) (act : Act) (ys : List Tenant) (t : Tenant) (ts : List Tenant) →
    May P by act ys t ts → AreSupplied t → AreSupplied (changed P by act t ts)
act_supplied P by (Link First) ys t ts m h First w = absurd (cc w)
act_supplied P by (Link First) ys t ts m h Second w = h Second w
act_supplied P by (Link Second) ys t ts m h First w = h First w
act_supplied P by (Link Second) ys t ts m h Second w = absurd (cc w)
act_supplied P by (Deliver First) ys t ts m h First w = (m.value, m.is_made)
act_supplied P by (Deliver First) ys t ts m h Second w = h Second w
act_supplied P by (Deliver Second) ys t ts m h First w = h First w
act_supplied P by (Deliver Second) ys t ts m h Second w = (m.value, m.is_made)
act_supplied P by Claim ys t ts m h First w = h First w
act_supplied P by Claim ys t ts m h Second w = h Second w
act_supplied P by Finish ys t ts m h k w = go (computed P t) k w
  where
    go : (o : Outcome) (k : Source) → IsSupplied (operand k (finished t o))
    go (Value v) First w = h First w
    go (Value v) Second w = h Second w
    go (Next x) First w = h First w
    go (Next x) Second w = h Second w
    go (Address a) First w = h First w
    go (Address a) Second w = h Second w
    go (Stops c) First w = h First w
    go (Stops c) Second w = h Second w
    go (Pair l g) First w = h First w
    go (Pair l g) Second w = h Second w
act_supplied P by Load ys t ts m h First w = h First w
act_supplied P by Load ys t ts m h Second w = h Second w
act_supplied P by (Retire n) ys t ts m h First w = h First w
act_supplied P by (Retire n) ys t ts m h Second w = h Second w
act_supplied P by Squash ys t ts m h First w = h First w
act_supplied P by Squash ys t ts m h Second w = h Second w
act_supplied P by (Speculate (Guess v)) ys t ts m h First w = h First w
act_supplied P by (Speculate (Guess v)) ys t ts m h Second w = h Second w
act_supplied P by (Speculate Confirm) ys t ts m h First w = h First w
act_supplied P by (Speculate Confirm) ys t ts m h Second w = h Second w
act_supplied P by (Speculate Flush) ys t ts m h First w = h First w
act_supplied P by (Speculate Flush) ys t ts m h Second w = h Second w
act_supplied P by Mend ys t ts m h k w = subst (λ f. IsSupplied (operand k (mended_as t f))) (sym m.fate) (go k) w
  where
    go : (k : Source) → IsSupplied (operand k (mended_as t (Rattle.inorder.specs.Tenants.Miss m.x)))
    go First w = h First w
    go Second w = h Second w

-- a fact of each tenant that lets begin with, and that these acts keep
module _ (P : Program) (C : Sizes) (Fact : Tenant → Type 0) (Fits : Step → Type 0) where
  step_keeps : (U : UpdateUnit) (by : ℕ) (s : Step) → Allowed P C U by s → AllByRecursion Fact U.tenants →
      ((index predicted : ℕ) (first second : Supply) → Fact (Rattle.inorder.specs.Steps.new_tenant P C U index predicted first second)) →
      ((by p : ℕ) (act : Act) (ys : List Tenant) (t : Tenant) (ts : List Tenant) → Fits (On p act) → May P by act ys t ts → Fact t → Fact (changed P by act t ts)) →
      Fits s → AllByRecursion Fact (applied P C U by s).tenants
  step_keeps U by (Let index predicted first second) a all new keeps f = (new index predicted first second, all)
  step_keeps U by (On p act) a all new keeps f =
      let us = U.tenants in
      let t = a.tenant in
      let t' = changed P by act t (older us p) in
      subst (AllByRecursion Fact) (sym (parts P us by p act t a.is))
      (all_grows Fact t t' (older us p) (younger us p) (keeps by p act (younger us p) t (older us p) f a.may)
      (subst (AllByRecursion Fact) (split_at us p t a.is) all))
  step_keeps U by Renew a all new keeps f = all

pub are_supplied : (P : Program) (C : Sizes) (history : List Taken) → AreAllowed P C history →
    AllByRecursion AreSupplied (reached P C history).tenants
are_supplied P C [] a = tt
are_supplied P C (s ∷ ss) a =
    step_keeps P C AreSupplied (λ _. Unit {0}) (reached P C ss) s.by s.step a.1 (are_supplied P C ss a.0) new
    (λ by p act ys t ts f m h. act_supplied P by act ys t ts m h) tt
  where
    new : (index predicted : ℕ) (first second : Supply) → AreSupplied (Rattle.inorder.specs.Steps.new_tenant P C (reached P C ss) index predicted first second)
    new index predicted first second First w = let_supplied _ first w
    new index predicted first second Second w = let_supplied _ second w

-- Without speculation

pub plain_guesses_not : (P : Program) (C : Sizes) (history : List Taken) → AreAllowed P C history → WasPlain history →
    AllByRecursion IsNoGuess (reached P C history).tenants
plain_guesses_not P C [] a w = tt
plain_guesses_not P C (s ∷ ss) a w =
    step_keeps P C IsNoGuess IsPlain (reached P C ss) s.by s.step a.1 (plain_guesses_not P C ss a.0 w.1)
    (λ index predicted first second v e. cc e)
    (λ by p act ys t ts f m h. act_guesses_not P by act ys t ts f m h) w.0
