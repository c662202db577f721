-- The units that the fields stand for.
use Rattle.std.specs.Prelude.{◌≡◌, ◌%◌, ◌<◌, ◌≤◌, ℕ, List, length, Option, Some, None, slice_get}
use Rattle.std.specs.List.{AllByRecursion}
use Rattle.instructions.specs.declared.stop.Stop.{Stop}
use Rattle.inorder.specs.Callers.{is_retired}
use Rattle.inorder.specs.Committed.{committed}
use Rattle.inorder.specs.Steps.{IsNoRetiredStop}
use Rattle.inorder.specs.Tenants.{Retired, Stopped, Tenant}
use Rattle.inorder.specs.Unit.{Sizes, UpdateUnit, at, how_many}
use Rattle.one_thread.specs.declared.pipeline.Pipeline.{Pipeline}
use Rattle.one_thread.specs.Ahead.{low_of}
use Rattle.one_thread.specs.Decoding.{IsDecoded}
use Rattle.one_thread.specs.Leavers.{leaver}
use Rattle.one_thread.specs.Window.{window}
use Rattle.inorder.specs.Moves.{IsReached}
use Rattle.inorder.specs.Plain.{WasPlain}
use Rattle.inorder.specs.Quiescent.{AreQuiescent}

-- The sizes of the fields, as those of a unit
abbrev pub sizes : Pipeline → Sizes
sizes b = record { ring = b.ring; queue = b.queue; first_tag = b.first_tag }

-- A stop with this code has retired
pub record HasStopped (ts : List Tenant) (c : Stop) : Type 0 where
  pub p : ℕ
  pub tenant : Tenant
  pub is : at ts p ≡ Some tenant
  pub retired : tenant.standing ≡ Retired
  pub fate : tenant.fate ≡ Stopped c

-- No stop has retired: the unit goes on
abbrev pub NoStopRetired : List Tenant → Type 0
NoStopRetired ts = AllByRecursion IsNoRetiredStop ts

-- The unit goes on, and every delivery that is due was made; or it has ended with a code
abbrev pub OverIs : List Tenant → Option Stop → Type 0
OverIs ts None = NoStopRetired ts × AreQuiescent ts
OverIs ts (Some c) = HasStopped ts c

-- The fields are those of the unit U
pub record StandsFor (b : Pipeline) (U : UpdateUnit) : Type 0 where
  pub window : b.window ≡ window b.program.now U.tenants
  pub committed : b.committed ≡ committed b.program.now U.tenants
  pub leavers : (s : ℕ) → s < b.ring → slice_get b.leavers s ≡ Some (leaver b.program.now U.tenants s)
  pub over : OverIs U.tenants b.over
  pub low : b.low ≡ low_of b.program.now U.tenants
  pub oldest : b.oldest ≡ how_many is_retired U.tenants % b.ring

-- Some unit that legal steps reach, none of which speculates, stands behind the fields
pub record StandsForSome (b : Pipeline) : Type 0 where
  pub unit : UpdateUnit
  pub reached : IsReached b.program.now (sizes b) unit
  pub plain : WasPlain reached.history
  pub stands : StandsFor b unit
  pub room : 0 < b.ring
  pub ring : b.ring ≤ 32
  pub least : 2 ≤ b.queue
  pub leavers : length b.leavers ≡ 32
  pub oldest : b.oldest < b.ring
  pub code : IsDecoded b.code.items b.program.now
