-- The units that the model stands for, and its transitions.
use Rattle.std.specs.Prelude.{◌≡◌, ◌+◌, ◌<◌, ℕ, None, Result, Ok, Err}
use Rattle.instructions.specs.Programs.{Program}
use Rattle.instructions.specs.declared.instr.Instr.{Instr}
use Rattle.instructions.specs.declared.stop.Outcome.TheVariants.{Value}
use Rattle.instructions.specs.declared.stop.Stop.{Stop}
use Rattle.inorder.specs.Plain.{IsPlain}
use Rattle.inorder.specs.Unit.{Sizes, UpdateUnit}
use Rattle.own_model.specs.Flight.{StandsBy, TwoFly, done_with}
use Rattle.own_model.specs.Runs.{held}
use Rattle.own_model.specs.Transitions.{Goes, HasStopped, StandsForSome}
use Rattle.own_model.specs.declared.state.ArchitecturalState.{ArchitecturalState}
use Rattle.lookahead.specs.declared.station.Early.{Early}
use Rattle.lookahead.specs.declared.station.Lookahead.{Lookahead}

-- Two stations
abbrev pub two : Sizes
two = record { ring = 2; queue = 2; first_tag = 1 }

-- In the unit U two are live: the oldest is let, and the one after it is done before it
pub record Flies (P : Program) (a : ArchitecturalState) (e : Early) (U : UpdateUnit) : Type 0 where
  pub oldest : Instr
  pub fly : TwoFly P two a oldest e.pc e.instr (Value e.value) (done_with e.value) U

-- The model stands for U: all have left, or two are in flight
abbrev pub ModelStandsFor : Lookahead → UpdateUnit → Type 0
ModelStandsFor b U = StandsBy (Flies b.program.now b.state) b.early b.program.now b.state U

-- The model stands for some unit that allowed steps reach, none of which speculates
abbrev pub ModelStandsForSome : Lookahead → Type 0
ModelStandsForSome b = StandsForSome IsPlain b.program.now two (ModelStandsFor b)

-- To look ahead is some allowed steps that do not speculate, and commits nothing; where none was ahead, all that may retire then are below the limit
pub record LooksOn (b : Lookahead) (limit : ℕ) (later : Lookahead) : Type 0 where
  pub goes : Goes IsPlain b.program.now two (ModelStandsFor b) (ModelStandsFor later)
  pub program : later.program ≡ b.program
  pub state : later.state ≡ b.state
  pub room : b.early ≡ None → later.state.committed.count + held later.early < limit

-- A step goes on by allowed steps that do not speculate; or they lead to a stop, and nothing changes
abbrev pub StepGoes : Result (Unit {0}) Stop → Lookahead → Lookahead → Type 0
StepGoes (Ok u) b later =
    Goes IsPlain b.program.now two (ModelStandsFor b) (ModelStandsFor later) × (later.program ≡ b.program)
StepGoes (Err c) b later =
    Goes IsPlain b.program.now two (ModelStandsFor b) (HasStopped b.program.now b.state.committed c) × (later ≡ b)
