-- What the code computes of the load that reads ahead, with no word of units.
use Rattle.std.specs.Prelude.{⊤, ◌≡◌, ◌==◌, ◌&&◌, ◌+◌, ◌^◌, ◌<◌, ◌≤◌, if◌then◌else◌, length, Option, Some, None}
use Rattle.instructions.specs.Instruction.{kind, pc_plus_4, width}
use Rattle.instructions.specs.Programs.{Program}
use Rattle.instructions.specs.declared.instr.Instr.{Instr}
use Rattle.instructions.specs.declared.op.Kind.TheVariants.{Loads}
use Rattle.instructions.specs.declared.stop.Outcome.TheVariants.{Address}
use Rattle.own_model.specs.Flight.{IsSecond, after_turn}
use Rattle.own_model.specs.State.{advanced, half_in, loaded_at}
use Rattle.own_model.specs.declared.state.ArchitecturalState.{ArchitecturalState}
use Rattle.load_ahead.specs.declared.station.Ahead.{Ahead}
use Rattle.load_ahead.specs.declared.station.LoadAhead.{LoadAhead}

-- The load comes after the oldest, reads no register that this writes, and has its address; any word is a guess
pub record IsAhead (P : Program) (a : ArchitecturalState) (l : Ahead) : Type 0 where
  pub oldest : Instr
  pub second : IsSecond P a oldest l.pc l.instr (Address l.address)
  pub loads : kind l.instr.op ≡ Loads
  pub inside : l.address + width l.instr.op ≤ length P.bytes
  pub word : l.guess < 2 ^ 32

-- The bytes of the load are inside the memory, if one reads ahead
abbrev pub FitsIn : Option Ahead → ArchitecturalState → Type 0
FitsIn None a = ⊤
FitsIn (Some l) a = l.address + width l.instr.op ≤ length a.committed.memory

-- What comes of the load, where this is the state after the oldest: it retires if the path has gone on to it and memory
-- still holds what it has read
abbrev pub rest : Ahead → ArchitecturalState → ArchitecturalState
rest l a =
    if a.committed.pc == l.pc && loaded_at a l.instr l.address == l.guess
    then advanced a l.instr (half_in a) a.committed.memory l.guess (pc_plus_4 a.committed.pc)
    else a

-- The model after the load that has read ahead, if there is one
abbrev pub checked : LoadAhead → LoadAhead
checked b = record b { state = after_turn rest b.ahead b.state; ahead = None }
