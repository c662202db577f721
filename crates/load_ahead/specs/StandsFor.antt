-- The units that the model stands for, and its transitions.
use Rattle.std.specs.Prelude.{◌≡◌, ◌+◌, ◌<◌, ℕ, None, Result, Ok, Err}
use Rattle.instructions.specs.Programs.{Program}
use Rattle.instructions.specs.declared.instr.Instr.{Instr}
use Rattle.instructions.specs.declared.stop.Outcome.TheVariants.{Address}
use Rattle.instructions.specs.declared.stop.Stop.{Stop}
use Rattle.inorder.specs.Speculation.{guessed}
use Rattle.inorder.specs.Unit.{Sizes, UpdateUnit}
use Rattle.own_model.specs.Flight.{StandsBy, TwoFly}
use Rattle.own_model.specs.Runs.{held}
use Rattle.own_model.specs.Transitions.{Goes, HasStopped, IsAny, StandsForSome}
use Rattle.own_model.specs.declared.state.ArchitecturalState.{ArchitecturalState}
use Rattle.load_ahead.specs.Ahead.{IsAhead}
use Rattle.load_ahead.specs.declared.station.Ahead.{Ahead}
use Rattle.load_ahead.specs.declared.station.LoadAhead.{LoadAhead}

-- Two stations
abbrev pub two : Sizes
two = record { ring = 2; queue = 2; first_tag = 1 }

-- In the unit U two are live: the oldest is let, and the load after it has guessed its value
pub record Flies (P : Program) (a : ArchitecturalState) (l : Ahead) (U : UpdateUnit) : Type 0 where
  pub oldest : Instr
  pub fly : TwoFly P two a oldest l.pc l.instr (Address l.address) (λ t. guessed t l.guess) U
  pub ahead : IsAhead P a l

-- The model stands for U: all have left, or two are in flight
abbrev pub ModelStandsFor : LoadAhead → UpdateUnit → Type 0
ModelStandsFor b U = StandsBy (Flies b.program.now b.state) b.ahead b.program.now b.state U

-- The model stands for some unit that allowed steps reach; some of them speculate
abbrev pub ModelStandsForSome : LoadAhead → Type 0
ModelStandsForSome b = StandsForSome IsAny b.program.now two (ModelStandsFor b)

-- To look ahead is some allowed steps, and commits nothing; where none was ahead, all that may retire then are below the limit
pub record LooksOn (b : LoadAhead) (limit : ℕ) (later : LoadAhead) : Type 0 where
  pub goes : Goes IsAny b.program.now two (ModelStandsFor b) (ModelStandsFor later)
  pub program : later.program ≡ b.program
  pub state : later.state ≡ b.state
  pub room : b.ahead ≡ None → later.state.committed.count + held later.ahead < limit

-- A step goes on by allowed steps; or they lead to a stop, and nothing changes
abbrev pub StepGoes : Result (Unit {0}) Stop → LoadAhead → LoadAhead → Type 0
StepGoes (Ok u) b later =
    Goes IsAny b.program.now two (ModelStandsFor b) (ModelStandsFor later) × (later.program ≡ b.program)
StepGoes (Err c) b later =
    Goes IsAny b.program.now two (ModelStandsFor b) (HasStopped b.program.now b.state.committed c) × (later ≡ b)
