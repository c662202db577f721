-- Events that are taken in turn are a legal history.
use Rattle.std.proofs.Common.{◌≡◌, ℕ, List, [], ◌∷◌, ◌++◌, length, refl, sym, ap, ◌∙◌, subst}
use Rattle.instructions.specs.Programs.{Program}
use Rattle.inorder.specs.declared.history.Step.{Step as UnitStep}
use Rattle.inorder.specs.declared.history.Step.TheVariants.{Let as UnitLet, On as UnitOn, Renew}
use Rattle.inorder.specs.Legal.{Allowed, AreAllowed, Taken, applied, reached}
use Rattle.inorder.specs.Moves.{Leads, MayRun, MayTake, run_on}
use Rattle.inorder.specs.Tenants.{Tenant}
use Rattle.inorder.specs.Theorem.{IsInOrder, IsRight}
use Rattle.inorder.specs.Unit.{Sizes, UpdateUnit, empty_unit}
use Rattle.replay.specs.declared.step.Step.{Step}
use Rattle.replay.specs.declared.tenant.Tenant.{Tenant as HeldTenant}
use Rattle.replay.specs.declared.unit.Unit.{Unit as Held}
use Rattle.replay.specs.Lets.{sizes_of, unit_of}
use Rattle.replay.specs.Shown.{shown}
use Rattle.events.specs.declared.event.Event.{Event}
use Rattle.events.specs.Following.{AreTold, Follows}
use Rattle.events.specs.Logs.{AreTaken, IsHistoryOf, Say, steps_of}
use Rattle.events.proofs.Follow.{stays, then}

-- steps of one caller, as a history
abbrev pub by_one : List UnitStep → List Taken
by_one [] = []
by_one (s ∷ ss) = record { by = 0; step = s } ∷ by_one ss

same_steps : (ss : List UnitStep) → steps_of (by_one ss) ≡ ss
same_steps [] = refl
same_steps (s ∷ ss) = ap (λ ts. s ∷ ts) (same_steps ss)

pub run_reached : (P : Program) (C : Sizes) (ss : List UnitStep) → reached P C (by_one ss) ≡ run_on P C 0 empty_unit ss
run_reached P C [] = refl
run_reached P C (s ∷ ss) = ap (λ U. applied P C U 0 s) (run_reached P C ss)

taken_allowed : (P : Program) (C : Sizes) (U : UpdateUnit) (s : UnitStep) → MayTake P C U 0 s → Allowed P C U 0 s
taken_allowed P C U (UnitLet i p f g) m = m
taken_allowed P C U (UnitOn q act) m = m
taken_allowed P C U Renew m = absurd m

pub run_allowed : (P : Program) (C : Sizes) (ss : List UnitStep) → MayRun P C 0 empty_unit ss → AreAllowed P C (by_one ss)
run_allowed P C [] m = tt
run_allowed P C (s ∷ ss) m = (
  run_allowed P C ss m.0,
  subst (λ U. Allowed P C U 0 s) (sym (run_reached P C ss)) (taken_allowed P C (run_on P C 0 empty_unit ss) s m.1),
)

-- what the events say, one after another
pub record AreSaid (u : Held) (events : List Event) (v : Held) : Type 0 where
  pub told : List Step
  pub say : Say events told
  pub follows : Follows u told v

pub said : (u v : Held) (events : List Event) → AreTaken u events v → AreSaid u events v
said u v [] same = record { told = []; say = refl; follows = subst (Follows u []) (sym same) (stays u) }
said u v (e ∷ es) t =
    let one = t.1.0 in
    let more = said t.0 v es t.1.1 in
    record {
      told = more.told ++ one.told;
      say = record { first = one.told; rest = more.told; is = refl; says = one.says; others = more.say };
      follows = then u t.0 v one.told more.told one.follows more.follows;
    }

pub begins_empty : (u : Held) → u.tenants.items ≡ [] → unit_of u ≡ empty_unit
begins_empty u none = ap as_unit none
  where
    as_unit : List HeldTenant → UpdateUnit
    as_unit hs = record { tenants = shown hs; fresh = length hs }

pub history_of : ((P : Program) (C : Sizes) (history : List Taken) → IsRight P C history) → (u v : Held) (events : List Event) →
    u.tenants.items ≡ [] → AreTaken u events v → IsHistoryOf u.program.now (sizes_of u) events (unit_of v)
history_of right u v events none taken =
    let P = u.program.now in
    let C = sizes_of u in
    let all = said u v events taken in
    let steps = all.follows.steps in
    let leads : Leads P C 0 empty_unit steps (unit_of v) = subst (λ U. Leads P C 0 U steps (unit_of v)) (begins_empty u none) all.follows.leads in
    let allowed = run_allowed P C steps leads.may in
    let reaches : reached P C (by_one steps) ≡ unit_of v = run_reached P C steps ∙ leads.is in
    record {
      history = by_one steps;
      allowed = allowed;
      reaches = reaches;
      told = all.told;
      say = all.say;
      are = subst (AreTold all.told) (sym (same_steps steps)) all.follows.are;
      in_order = subst (λ U. IsInOrder P U.tenants) reaches (right P C (by_one steps) allowed);
    }
