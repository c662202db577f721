-- A turn that makes a step of the unit.
use Rattle.std.proofs.Common.{◌≡◌, Option}
use Rattle.inorder.specs.Moves.{IsReached}
use Rattle.inorder.specs.Unit.{UpdateUnit}
use Rattle.one_thread.specs.declared.bench.Turn.{Turn}
use Rattle.one_thread.specs.declared.pipeline.Pipeline.{Pipeline}
use Rattle.one_thread.specs.Choices.{step_made}
use Rattle.one_thread.specs.Possible.{Possible}
use Rattle.one_thread.specs.StandsFor.{StandsFor, sizes}
use Rattle.one_thread.specs.Turns.{Does, Moves}

-- From the unit U a turn makes this step, and leads to one that the later fields stand for
pub record MovedAs (b : Pipeline) (U : UpdateUnit) (step : Option Possible) (answer : Turn) (later : Pipeline) : Type 0 where
  pub unit : UpdateUnit
  pub reached : IsReached b.program.now (sizes b) unit
  pub stands : StandsFor later unit
  pub does : Does b.program.now (sizes b) U unit answer
  pub is : step_made b.program.now (sizes b) U unit answer does ≡ step

abbrev pub MovesAs : Pipeline → Option Possible → Turn → Pipeline → Type 0
MovesAs b step answer later = (U : UpdateUnit) → IsReached b.program.now (sizes b) U → StandsFor b U → MovedAs b U step answer later

pub moves_as : (b later : Pipeline) (step : Option Possible) (answer : Turn) → MovesAs b step answer later → Moves b answer later
moves_as b later step answer m U r s = let x = m U r s in record { unit = x.unit; reached = x.reached; stands = x.stands; does = x.does }
