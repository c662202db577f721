-- How a predictor is trained and asked when an instruction is dispatched.
use Rattle.std.specs.Prelude.{◌≡◌, ℕ, Option, Some, None}
use Rattle.instructions.specs.declared.guessing.Leaver.{Leaver}
use Rattle.instructions.specs.declared.instr.Instr.{Instr}
use Rattle.instructions.specs.declared.op.Half.{Half}
use Rattle.instructions.specs.Instruction.{fixed_next}

-- a predictor is trained with an instruction that has left, if there is one
abbrev pub IsTold : {S : Type 0} → (S → ℕ → ℕ → S → Type 0) → Option Leaver → S → S → Type 0
IsTold Learns None old new = new ≡ old
IsTold Learns (Some l) old new = Learns old l.pc l.next new

-- a predictor is asked for the pc after an instruction, unless that is fixed
abbrev pub IsAsked : {S : Type 0} → (S → ℕ → Instr → ℕ → S → Type 0) →
    Option ℕ → ℕ → Instr → ℕ → S → S → Type 0
IsAsked Predicts None pc i predicted old new = Predicts old pc i predicted new
IsAsked Predicts (Some x) pc i predicted old new = (predicted ≡ x) × (new ≡ old)

-- a predictor is trained with an instruction that has left, and then asked about another one
pub record Guesses {S : Type 0} (Predicts : S → ℕ → Instr → ℕ → S → Type 0)
    (Learns : S → ℕ → ℕ → S → Type 0) (left : Option Leaver) (i : Instr) (half : Half)
    (pc predicted : ℕ) (old new : S) : Type 0 where
  pub middle : S
  pub told : IsTold Learns left old middle
  pub asked : IsAsked Predicts (fixed_next i half pc) pc i predicted middle new
