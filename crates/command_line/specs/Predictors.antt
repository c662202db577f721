-- The predictor that a command line asks for.
use Rattle.std.specs.Prelude.{◌≡◌, ℕ, List, replicate}
use Rattle.instructions.specs.declared.instr.Instr.{Instr}
use Rattle.instructions.specs.Instruction.{pc_plus_4}
use Rattle.instructions.specs.Prediction.{taken_target, trained, two_bit}
use Rattle.command_line.specs.declared.chosen.Chosen.{Chosen}
use Rattle.command_line.specs.declared.request.BranchPredictor.{BranchPredictor}
use Rattle.command_line.specs.declared.request.BranchPredictor.TheVariants.{NotTaken, Taken, Bimod}

-- the pc after an instruction, as it is predicted
abbrev pub answer_of : BranchPredictor → (counters : List ℕ) → (pc : ℕ) → Instr → ℕ
answer_of NotTaken counters pc i = pc_plus_4 pc
answer_of Taken counters pc i = taken_target pc i
answer_of Bimod counters pc i = two_bit counters pc i

-- the chosen predictor answers so, and stays
abbrev pub PredictsAs : Chosen → (pc : ℕ) → Instr → (answer : ℕ) → Chosen → Type 0
PredictsAs old pc instr answer new = (answer ≡ answer_of old.which old.bimod.counters pc instr) × (new ≡ old)

-- the counters of the chosen predictor learn from the pc that followed a branch
abbrev pub LearnsAs : Chosen → (pc next : ℕ) → Chosen → Type 0
LearnsAs old pc next new =
    (new.which ≡ old.which) × (new.bimod.counters ≡ trained old.bimod.counters pc next)

-- the one that is asked for, which has learnt nothing: each counter is 1, weakly not taken
pub record IsChosen (which : BranchPredictor) (predictor : Chosen) : Type 0 where
  pub is : predictor.which ≡ which
  pub counters : predictor.bimod.counters ≡ replicate 2048 1
