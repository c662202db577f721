-- Sequences of allowed steps, put one after another; acts on a tenant in the midst of a unit.
use Rattle.std.proofs.Common.{◌≡◌, List, [], ◌∷◌, ◌++◌, length, refl, subst}
use Rattle.instructions.specs.Programs.{Program}
use Rattle.inorder.specs.declared.history.Act.{Act}
use Rattle.inorder.specs.declared.history.Act.TheVariants.{Claim, Finish}
use Rattle.inorder.specs.declared.history.Step.{Step}
use Rattle.inorder.specs.declared.history.Step.TheVariants.{On}
use Rattle.inorder.specs.Legal.{May, changed}
use Rattle.inorder.specs.Moves.{MayTake, with_tenants}
use Rattle.inorder.specs.Plain.{IsPlain}
use Rattle.inorder.specs.Steps.{MayClaim, finished}
use Rattle.inorder.specs.Tenants.{Busy, Tenant, computed}
use Rattle.inorder.specs.Legal.{applied}
use Rattle.inorder.specs.Unit.{Sizes, UpdateUnit}
use Rattle.inorder.proofs.OneCaller.Middle.{allowed_middle, changed_middle}
use Rattle.inorder.proofs.OneCaller.Sequences.{all_more, all_weaker, leads_more, leads_nowhere, leads_once, sound_on}
use Rattle.inorder.proofs.Sound.{IsSound}
use Rattle.own_model.specs.Transitions.{MovesTo, Reaches}

module _ {IsOne : Step → Type 0} {P : Program} {C : Sizes} where
  -- no step
  pub stays : (U : UpdateUnit) → Reaches IsOne P C U U
  stays U = record { steps = []; are = tt; leads = leads_nowhere P C 0 U }

  -- one step
  pub once : (U V : UpdateUnit) (s : Step) → IsOne s → MayTake P C U 0 s → applied P C U 0 s ≡ V → Reaches IsOne P C U V
  once U V s one may is = record { steps = s ∷ []; are = (one, tt); leads = leads_once P C 0 U V s may is }

  -- these steps, and then those
  pub then_on : {U V W : UpdateUnit} → Reaches IsOne P C U V → Reaches IsOne P C V W → Reaches IsOne P C U W
  then_on {U} {V} {W} a b = record {
    steps = b.steps ++ a.steps;
    are = all_more IsOne b.steps a.steps b.are a.are;
    leads = leads_more P C 0 U V W b.steps a.steps a.leads b.leads;
  }

  -- steps to a unit from which more steps lead on
  pub then_moves : {U V : UpdateUnit} {Later : UpdateUnit → Type 0} → Reaches IsOne P C U V → MovesTo IsOne P C V Later → MovesTo IsOne P C U Later
  then_moves a m = record { unit = m.unit; reaches = then_on a m.reaches; stands = m.stands }

  -- an act on a tenant, with ys after it and ts before it
  pub act_on : (W : UpdateUnit) (ys : List Tenant) (t : Tenant) (ts : List Tenant) (act : Act) → IsOne (On (length ts) act) → May P 0 act ys t ts →
      Reaches IsOne P C (with_tenants W (ys ++ t ∷ ts)) (with_tenants W (ys ++ changed P 0 act t ts ∷ ts))
  act_on W ys t ts act one may =
      once (with_tenants W (ys ++ t ∷ ts)) (with_tenants W (ys ++ changed P 0 act t ts ∷ ts)) (On (length ts) act) one
      (allowed_middle P C 0 W act ys t ts may) (changed_middle P C 0 W act ys t ts)

-- they keep a unit sound
pub sound_after : {IsOne : Step → Type 0} {P : Program} {C : Sizes} {U V : UpdateUnit} → Reaches IsOne P C U V → IsSound P U.tenants → IsSound P V.tenants
sound_after {IsOne} {P} {C} {U} r sound = subst (λ X. IsSound P X.tenants) r.leads.is (sound_on P C 0 U r.steps r.leads.may sound)

-- steps without speculation, where steps of another form may be taken too
pub loosened : {IsOne : Step → Type 0} {P : Program} {C : Sizes} {U V : UpdateUnit} → ((s : Step) → IsPlain s → IsOne s) → Reaches IsPlain P C U V → Reaches IsOne P C U V
loosened {IsOne} weaker r = record { steps = r.steps; are = all_weaker IsPlain IsOne weaker r.steps r.are; leads = r.leads }

pub loosened_moves : {IsOne : Step → Type 0} {P : Program} {C : Sizes} {U : UpdateUnit} {Later : UpdateUnit → Type 0} → ((s : Step) → IsPlain s → IsOne s) → MovesTo IsPlain P C U Later → MovesTo IsOne P C U Later
loosened_moves weaker m = record { unit = m.unit; reaches = loosened weaker m.reaches; stands = m.stands }

-- a tenant that may be claimed is claimed and finished
pub runs_on : (P : Program) (C : Sizes) (W : UpdateUnit) (ys : List Tenant) (t : Tenant) (ts : List Tenant) → MayClaim P t →
    Reaches IsPlain P C (with_tenants W (ys ++ t ∷ ts)) (with_tenants W (ys ++ finished (record t { fate = Busy 0 }) (computed P t) ∷ ts))
runs_on P C W ys t ts may =
    then_on (act_on W ys t ts Claim tt may) (act_on W ys (record t { fate = Busy 0 }) ts Finish tt (record { live = may.live; fate = refl }))
