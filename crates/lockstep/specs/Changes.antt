-- What a step over a text of words has changed.
use Rattle.std.specs.Prelude.{ℕ, ◌%◌, ◌==◌, Bool, true, false, List, Option, None, Some, slice_index, if◌then◌else◌}
use Rattle.instructions.specs.declared.instr.Instr.{Instr}
use Rattle.instructions.specs.declared.op.Half.TheVariants.{Low}
use Rattle.instructions.specs.declared.op.Kind.{Kind}
use Rattle.instructions.specs.declared.op.Kind.TheVariants.{Loads, Stores}
use Rattle.instructions.specs.Instruction.{destination, first_of, is_pair, kind, second_of, width}
use Rattle.instructions.specs.Operations.{sum}
use Rattle.instructions.specs.Registers.{hi, lo}
use Rattle.inorder.specs.Machine.{State, Ran, Goes, Halts}
use Rattle.encoding.specs.Words.{decode}
use Rattle.lockstep.specs.declared.change.Change.{Change}
use Rattle.lockstep.specs.Step.{step_over, word_at}

-- nothing
abbrev pub no_change : Change
no_change = record { registers = 0; first = 0; first_value = 0; second = 0; second_value = 0; width = 0; address = 0; is_store = 0; stored = 0 }

-- a register, unless it is register 0, which never changes
abbrev pub register_change : ℕ → List ℕ → Change
register_change r after =
    if r == 0 then no_change else record no_change { registers = 1; first = r; first_value = slice_index after r }

-- the address of a load or store, by the registers before it
abbrev pub address_of : Instr → List ℕ → ℕ
address_of i before = sum (slice_index before (first_of i)) i.number

-- the low bytes of a number, as many as a store of this width writes
abbrev pub low_bytes : (width value : ℕ) → ℕ
low_bytes width value = if width == 1 then value % 256 else (if width == 2 then value % 65536 else value)

-- the change by an instruction of a kind that writes at most one register, by the registers before and after it
abbrev pub change_by : Kind → Instr → (before after : List ℕ) → Change
change_by Loads i before after =
    record (register_change (destination i Low) after) { width = width i.op; address = address_of i before }
change_by Stores i before after =
    record no_change {
      width = width i.op;
      address = address_of i before;
      is_store = 1;
      stored = low_bytes (width i.op) (slice_index before (second_of i));
    }
change_by _ i before after = register_change (destination i Low) after

-- the change by an instruction; a multiplication or division writes LO and HI
abbrev pub change_if : Bool → Instr → (before after : List ℕ) → Change
change_if true i before after =
    record no_change {
      registers = 2;
      first = lo;
      first_value = slice_index after lo;
      second = hi;
      second_value = slice_index after hi;
    }
change_if false i before after = change_by (kind i.op) i before after

-- the change by a step of an instruction; none of a step that does not go on
abbrev pub change_of : State → Option Instr → Option Ran → Change
change_of s (Some i) (Some (Goes t)) = change_if (is_pair i.op) i s.registers t.registers
change_of s i r = no_change

-- the instruction of a word at an address, if it is one
abbrev pub said_at : ℕ → Option ℕ → Option Instr
said_at pc None = None
said_at pc (Some w) = decode pc w

-- the change by the step of the word at the pc
abbrev pub change_over : List ℕ → State → Change
change_over text s = change_of s (said_at s.pc (word_at text s.pc)) (step_over text s)
