-- What the code computes of the tenant after the oldest, with no word of units.
use Rattle.std.specs.Prelude.{◌==◌, if◌then◌else◌, None}
use Rattle.instructions.specs.Programs.{Program}
use Rattle.instructions.specs.declared.instr.Instr.{Instr}
use Rattle.instructions.specs.declared.stop.Outcome.TheVariants.{Value}
use Rattle.own_model.specs.Flight.{IsSecond, after_turn}
use Rattle.own_model.specs.State.{left}
use Rattle.own_model.specs.declared.state.ArchitecturalState.{ArchitecturalState}
use Rattle.lookahead.specs.declared.station.Early.{Early}
use Rattle.lookahead.specs.declared.station.Lookahead.{Lookahead}

-- The early one comes after the oldest, reads nothing that this writes, and has made its value
pub record IsEarly (P : Program) (a : ArchitecturalState) (e : Early) : Type 0 where
  pub oldest : Instr
  pub second : IsSecond P a oldest e.pc e.instr (Value e.value)

-- What comes of the early one, where this is the state after the oldest: it retires if the oldest has gone on to it
abbrev pub rest : Early → ArchitecturalState → ArchitecturalState
rest e a = if a.committed.pc == e.pc then left a e.instr (Value e.value) else a

-- The model after the early one, if there is one
abbrev pub retired_early : Lookahead → Lookahead
retired_early b = record b { state = after_turn rest b.early b.state; early = None }
