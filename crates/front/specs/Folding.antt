-- What the front knows while its records go to the base registers.
use Rattle.std.specs.Prelude.{⊤, ◌≡◌, [], List}
use Rattle.inorder.specs.declared.history.Entry.{Entry}
use Rattle.inorder.specs.History.{unit_of}
use Rattle.station.specs.Seats.{TheCore}
use Rattle.front.specs.declared.answers.Rest.{Rest}
use Rattle.front.specs.declared.answers.Rest.TheVariants.{Idle, Live}
use Rattle.front.specs.declared.path.Path.{Path}
use Rattle.front.specs.declared.path.record.Record.{Record}
use Rattle.front.specs.Knows.{GoesOnAt, Stands}

-- The tenants before the records have retired, whether or not their stations were let again, and the
-- base says where the path goes on
pub record IsFolding (core : TheCore) (seen : List Entry) (path : Path) : Type 0 where
  pub stands : Stands core.program core.sizes (unit_of core.program core.sizes seen) path.records path.base (λ n. ⊤)
  pub goes : GoesOnAt core.program core.sizes (unit_of core.program core.sizes seen) path.base

-- Where nobody was live no record is left, and else all are
abbrev pub LeavesRecords : Rest → List Record → List Record → Type 0
LeavesRecords Idle old new = new ≡ []
LeavesRecords Live old new = new ≡ old
