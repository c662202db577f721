-- Settled units: all tenants have left, and none that has retired is a stop.
use Rattle.std.specs.Prelude.{◌≡◌, List}
use Rattle.std.specs.List.{AllByRecursion}
use Rattle.instructions.specs.Programs.{Program}
use Rattle.inorder.specs.Committed.{ahead, ahead_by, committed}
use Rattle.inorder.specs.Steps.{IsNoRetiredStop}
use Rattle.inorder.specs.Tenants.{IsNotLive, Tenant}
use Rattle.inorder.specs.Unit.{front_half}
use Rattle.own_model.specs.State.{half_in}
use Rattle.own_model.specs.declared.state.ArchitecturalState.{ArchitecturalState}

-- All these tenants have left, the program goes on, and a model has the state that they leave
pub record Settled (P : Program) (a : ArchitecturalState) (ts : List Tenant) : Type 0 where
  pub nobody : AllByRecursion IsNotLive ts
  pub goes_on : AllByRecursion IsNoRetiredStop ts
  pub state : a.committed ≡ committed P ts
  pub low : ahead_by a.low a.committed ≡ ahead P ts
  pub half : half_in a ≡ front_half P ts
