-- The answers of the predictors, and how they are trained.
use Rattle.std.specs.Prelude.{ℕ, ◌+◌, ◌-◌, ◌/◌, ◌%◌, min, List, ◌==◌, nat_le, if◌then◌else◌, slice_index, slice_set}
use Rattle.instructions.specs.declared.instr.Instr.{Instr}
use Rattle.instructions.specs.Instruction.{pc_plus_4, is_branch}

-- the target of a conditional branch, else the address after the instruction
abbrev pub taken_target : ℕ → Instr → ℕ
taken_target pc i = if is_branch i.op then i.number else pc_plus_4 pc

-- the number of the counter of a pc
abbrev pub counter_at : ℕ → ℕ
counter_at pc = pc / 4 % 2048

-- the target of a conditional branch whose counter is 2 or 3, else the address after the instruction
abbrev pub two_bit : List ℕ → ℕ → Instr → ℕ
two_bit counters pc i =
    if nat_le 2 (slice_index counters (counter_at pc)) then taken_target pc i else pc_plus_4 pc

-- a counter after a branch: one more, up to 3, where the branch was taken, else one less, down to 0
abbrev pub moved : ℕ → ℕ → ℕ → ℕ
moved pc next counter = if next == pc_plus_4 pc then counter - 1 else min (counter + 1) 3

-- the counters after a branch or jump at pc that went on at next
abbrev pub trained : List ℕ → ℕ → ℕ → List ℕ
trained counters pc next =
    slice_set counters (counter_at pc) (moved pc next (slice_index counters (counter_at pc)))
