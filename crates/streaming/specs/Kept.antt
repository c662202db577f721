-- What completed instructions keep: what each found in its register, and what each store writes.
use Rattle.std.specs.Prelude.{◌≡◌, ℕ, Bool, List, [], ◌∷◌, Option, Some, None, if◌then◌else◌, slice_get, slice_index, unwrap_or}
use Rattle.instructions.specs.Instruction.{destination, kind, second_of}
use Rattle.instructions.specs.Programs.{Program}
use Rattle.instructions.specs.Registers.{lo}
use Rattle.instructions.specs.declared.guessing.Leaver.{Leaver}
use Rattle.instructions.specs.declared.instr.Instr.{Instr}
use Rattle.instructions.specs.declared.op.Half.{Half}
use Rattle.inorder.specs.Loads.{is_store}
use Rattle.inorder.specs.Machine.{write}
use Rattle.streaming.specs.CompletedRing.{instr_there, station_in}
use Rattle.one_thread.specs.Leavers.{LeavesAs, LeavesCounted, told_if}
use Rattle.one_thread.specs.Window.{source_in}
use Rattle.streaming.specs.declared.completed_ring.Completed.{Completed}

-- What an instruction keeps that finds these registers, and this in its source 2
abbrev pub kept_with : Instr → Half → ℕ → List ℕ → ℕ
kept_with i half content registers =
    if is_store (kind i.op) then content else slice_index registers (destination i half)

-- What an instruction keeps that finds these registers
abbrev pub kept_of : Instr → Half → List ℕ → ℕ
kept_of i half registers =
    kept_with i half (unwrap_or (source_in registers [] (second_of i)) 0) registers

-- The oldest of these leaves with its number of accesses and goes on there, and there is nothing to do but to count it and
-- to tell a predictor this
pub record OldestIsCounted (cs : List Completed) (n next : ℕ) (told : Option Leaver) : Type 0 where
  pub oldest : Completed
  pub is : slice_get cs 0 ≡ Some oldest
  pub tells : Bool
  pub leaves : (i : Instr) → LeavesAs oldest.leaves i → LeavesCounted n tells i
  pub goes_on : next ≡ oldest.next
  pub told_is : told ≡ told_if tells oldest.pc oldest.next

-- A completed instruction keeps what it has to, where it found these registers, and says how it leaves
pub record HasKept (i : Instr) (c : Completed) (registers : List ℕ) : Type 0 where
  pub kept : c.kept ≡ kept_of i c.half registers
  pub leaves : LeavesAs c.leaves i

-- The registers after a completed instruction
abbrev pub registers_with : Program → Completed → List ℕ → List ℕ
registers_with P c registers = write registers (station_in P c).destination c.value

-- Each of these keeps what it has to, from these registers to those
abbrev pub HaveKept : Program → List ℕ → List Completed → List ℕ → Type 0
HaveKept P registers [] values = registers ≡ values
HaveKept P registers (c ∷ cs) values =
    HasKept (instr_there P c.pc) c registers × HaveKept P (registers_with P c registers) cs values

-- The registers that the first of these found
abbrev pub registers_before : Program → List Completed → List ℕ → List ℕ
registers_before P [] values = values
registers_before P (c ∷ cs) values = write (registers_before P cs values) (station_in P c).destination c.kept

-- The registers with what LO holds, where a value waits for it
abbrev pub with_held : Option ℕ → ℕ → List ℕ → List ℕ
with_held None held registers = registers
with_held (Some v) held registers = write registers lo held
