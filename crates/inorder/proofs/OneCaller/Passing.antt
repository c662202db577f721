-- A load that is done though older stores have no address yet: it guesses the value that they cannot change, and is confirmed.
use Rattle.std.proofs.Common.{◌≡◌, ℕ, List, [], ◌∷◌, ◌++◌, length, None, Some, refl}
use Rattle.std.specs.List.{AllByRecursion}
use Rattle.instructions.specs.Operations.{loaded}
use Rattle.instructions.specs.Programs.{Program}
use Rattle.instructions.specs.declared.stop.Outcome.TheVariants.{Address}
use Rattle.inorder.specs.declared.history.Act.TheVariants.{Speculate}
use Rattle.inorder.specs.declared.history.Speculation.TheVariants.{Confirm, Guess}
use Rattle.inorder.specs.declared.history.Step.{Step}
use Rattle.inorder.specs.declared.history.Step.TheVariants.{On}
use Rattle.inorder.specs.Memory.{sure_raw_at}
use Rattle.inorder.specs.Moves.{Leads, with_tenants}
use Rattle.inorder.specs.Speculation.{MayConfirm, MayGuess, guessed}
use Rattle.inorder.specs.Steps.{IsNoRetiredStop}
use Rattle.inorder.specs.Quiescent.{AreQuiescent}
use Rattle.inorder.specs.Tenants.{Done, Tenant, computed, instr, missing}
use Rattle.inorder.specs.Unit.{Sizes, UpdateUnit}
use Rattle.inorder.proofs.OneCaller.Execution.{ActRun, act_run}
use Rattle.inorder.proofs.OneCaller.Middle.{allowed_middle, changed_middle}
use Rattle.inorder.proofs.OneCaller.Sequences.{leads_more, leads_once}
use Rattle.inorder.proofs.Sound.{IsSound}

abbrev pub pass_steps : List Tenant → ℕ → List Step
pass_steps ts v = On (length ts) (Speculate Confirm) ∷ On (length ts) (Speculate (Guess v)) ∷ []

pub passed_run : (P : Program) (C : Sizes) (by : ℕ) (U : UpdateUnit) (ys : List Tenant) (t : Tenant) (ts : List Tenant) → IsSound P (ys ++ t ∷ ts) → AreQuiescent (ys ++ t ∷ ts) →
    AllByRecursion IsNoRetiredStop (ys ++ t ∷ ts) → (v a bytes : ℕ) → MayGuess P t v → missing P t ≡ None → computed P t ≡ Address a → sure_raw_at P ts (instr P t) a ≡ Some bytes →
    v ≡ loaded (instr P t).op bytes → ActRun P C by U ys t (record t { fate = Done v; made = Some v }) ts (pass_steps ts v)
passed_run P C by U ys t ts s h ns v a bytes m needs computes read right =
    act_run P C by U ys t u ts (pass_steps ts v) s h ns m.live (record { standing = refl; first = refl; second = refl; free = tt }) both
  where
    u : Tenant
    u = record t { fate = Done v; made = Some v }

    guess : Leads P C by (with_tenants U (ys ++ t ∷ ts)) (On (length ts) (Speculate (Guess v)) ∷ []) (with_tenants U (ys ++ guessed t v ∷ ts))
    guess = leads_once P C by (with_tenants U (ys ++ t ∷ ts)) (with_tenants U (ys ++ guessed t v ∷ ts)) (On (length ts) (Speculate (Guess v)))
        (allowed_middle P C by U (Speculate (Guess v)) ys t ts m) (changed_middle P C by U (Speculate (Guess v)) ys t ts)

    may : MayConfirm P ts (guessed t v)
    may = record { live = m.live; v = v; fate = refl; needs = needs; a = a; computes = computes; bytes = bytes; read = read; right = right }

    confirm : Leads P C by (with_tenants U (ys ++ guessed t v ∷ ts)) (On (length ts) (Speculate Confirm) ∷ []) (with_tenants U (ys ++ u ∷ ts))
    confirm = leads_once P C by (with_tenants U (ys ++ guessed t v ∷ ts)) (with_tenants U (ys ++ u ∷ ts)) (On (length ts) (Speculate Confirm))
        (allowed_middle P C by U (Speculate Confirm) ys (guessed t v) ts may) (changed_middle P C by U (Speculate Confirm) ys (guessed t v) ts)

    both : Leads P C by (with_tenants U (ys ++ t ∷ ts)) (pass_steps ts v) (with_tenants U (ys ++ u ∷ ts))
    both = leads_more P C by (with_tenants U (ys ++ t ∷ ts)) (with_tenants U (ys ++ guessed t v ∷ ts)) (with_tenants U (ys ++ u ∷ ts)) (On (length ts) (Speculate Confirm) ∷ [])
        (On (length ts) (Speculate (Guess v)) ∷ []) guess confirm
