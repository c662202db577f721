-- The run of a whole program by a chooser.
use Rattle.std.specs.Prelude.{◌≡◌, ℕ, List}
use Rattle.instructions.specs.Programs.{Program}
use Rattle.instructions.specs.Settings.{Settings}
use Rattle.instructions.specs.declared.end.Ending.{Ending}
use Rattle.instructions.specs.declared.instr.Instr.{Instr}
use Rattle.inorder.specs.Machine.{State}
use Rattle.inorder.specs.Unit.{empty_unit}
use Rattle.one_thread.specs.Choices.{HasRunBy}
use Rattle.one_thread.specs.Possible.{Possible}
use Rattle.one_thread.specs.StandsFor.{StandsFor, sizes}
use Rattle.one_thread.specs.Turns.{BenchFields}

-- a bench before its first turn, with this program, the sizes of a configuration and this predictor
pub record IsAtStart {S : Type 0} (P : Program) (config : Settings) (predictor : S) (b : BenchFields S) : Type 0 where
  pub program : b.pipeline.program.now ≡ P
  pub sizes : sizes b.pipeline ≡ record { ring = config.ring; queue = config.queue; first_tag = config.first_tag }
  pub unit : StandsFor b.pipeline empty_unit
  pub predicts : b.predictor ≡ predictor

-- whole runs, by what a predictor and a chooser say of being asked and told
module _ {S Q : Type 0} (Predicts : S → ℕ → Instr → ℕ → S → Type 0) (Learns : S → ℕ → ℕ → S → Type 0)
    (Chooses : Q → List Possible → ℕ → Q → Type 0) where
  -- a run by the choices of a chooser, from the start of a program up to the limit of the configuration, has ended so
  pub record HasRunFromStart (P : Program) (config : Settings) (predictor : S) (old new : Q)
      (end : Ending × State) : Type 0 where
    pub bench : BenchFields S
    pub starts : IsAtStart P config predictor bench
    pub runs : HasRunBy Predicts Learns Chooses config.limit bench old new end
