-- The oldest live tenant retires.
use Rattle.std.proofs.Common.{ℕ, List, [], ◌∷◌, ◌++◌, length}
use Rattle.instructions.specs.Programs.{Program}
use Rattle.inorder.specs.declared.history.Act.TheVariants.{Retire}
use Rattle.inorder.specs.declared.history.Step.TheVariants.{On}
use Rattle.inorder.specs.Steps.{MayRetire, retired}
use Rattle.inorder.specs.Tenants.{Tenant}
use Rattle.inorder.specs.Unit.{Sizes, UpdateUnit}
use Rattle.inorder.specs.Moves.{Leads, with_tenants}
use Rattle.inorder.proofs.OneCaller.Middle.{allowed_middle, changed_middle}
use Rattle.inorder.proofs.OneCaller.Sequences.{leads_once}

pub retire_run : (P : Program) (C : Sizes) (by n : ℕ) (U : UpdateUnit) (ys : List Tenant) (t : Tenant) (ts : List Tenant) → MayRetire P n ts t →
    Leads P C by (with_tenants U (ys ++ t ∷ ts)) (On (length ts) (Retire n) ∷ []) (with_tenants U (ys ++ retired t n ∷ ts))
retire_run P C by n U ys t ts m =
    leads_once P C by (with_tenants U (ys ++ t ∷ ts)) (with_tenants U (ys ++ retired t n ∷ ts)) (On (length ts) (Retire n))
    (allowed_middle P C by U (Retire n) ys t ts m) (changed_middle P C by U (Retire n) ys t ts)
