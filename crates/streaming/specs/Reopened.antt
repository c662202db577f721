-- Tenants that were let in a row, as they were let.
use Rattle.std.specs.Prelude.{ℕ, zero, suc, List, [], ◌∷◌}
use Rattle.instructions.specs.Instruction.{kind}
use Rattle.inorder.specs.Tenants.{made_at_let}
use Rattle.one_thread.specs.declared.pipeline.Pipeline.{Pipeline}
use Rattle.one_thread.specs.declared.station.Stage.TheVariants.{Open}
use Rattle.one_thread.specs.declared.station.Station.{Station}

-- A station as it was let
abbrev pub as_let : Station → Station
as_let w = record w { stage = Open; made = made_at_let (kind w.instr.op) w.pc }

-- All but the oldest n as they were let
abbrev pub reopened : ℕ → List Station → List Station
reopened n [] = []
reopened zero (w ∷ W) = as_let w ∷ reopened zero W
reopened (suc n) (w ∷ W) = w ∷ reopened n W

-- The fields with all but the oldest n tenants as they were let
abbrev pub with_reopened : ℕ → Pipeline → Pipeline
with_reopened n b = record b { window = reopened n b.window }
