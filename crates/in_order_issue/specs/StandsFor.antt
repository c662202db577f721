-- The units that the model stands for, and its transition.
use Rattle.std.specs.Prelude.{◌≡◌, Result, Ok, Err}
use Rattle.instructions.specs.declared.stop.Stop.{Stop}
use Rattle.inorder.specs.Plain.{IsPlain}
use Rattle.inorder.specs.Unit.{Sizes, UpdateUnit}
use Rattle.own_model.specs.Settled.{Settled}
use Rattle.own_model.specs.Transitions.{Goes, HasStopped, StandsForSome}
use Rattle.in_order_issue.specs.declared.station.OneStation.{OneStation}

-- One station: one tenant can be live
abbrev pub one : Sizes
one = record { ring = 1; queue = 1; first_tag = 1 }

-- In the unit U all have left, and the model has what they leave
abbrev pub ModelStandsFor : OneStation → UpdateUnit → Type 0
ModelStandsFor b U = Settled b.program.now b.state U.tenants

-- The model stands for some unit that allowed steps reach, none of which speculates
abbrev pub ModelStandsForSome : OneStation → Type 0
ModelStandsForSome b = StandsForSome IsPlain b.program.now one (ModelStandsFor b)

-- A step goes on by allowed steps that do not speculate; or they lead to a stop, and nothing changes
abbrev pub StepGoes : Result (Unit {0}) Stop → OneStation → OneStation → Type 0
StepGoes (Ok u) b later =
    Goes IsPlain b.program.now one (ModelStandsFor b) (ModelStandsFor later) × (later.program ≡ b.program)
StepGoes (Err c) b later =
    Goes IsPlain b.program.now one (ModelStandsFor b) (HasStopped b.program.now b.state.committed c) × (later ≡ b)
