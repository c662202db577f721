-- What is kept of a decoded instruction.
use Rattle.std.specs.Prelude.{◌≡◌, ◌+◌, ◌%◌, ◌≤◌, ℕ, List, length, Some, if◌then◌else◌}
use Rattle.std.specs.Int.{rotate_right, w32}
use Rattle.instructions.specs.Instruction.{destination, first_of, is_access, is_branch, is_pair, kind, second_of}
use Rattle.instructions.specs.Programs.{Program, instr_at}
use Rattle.instructions.specs.declared.instr.Instr.{Instr}
use Rattle.instructions.specs.declared.op.Half.TheVariants.{Low, High}
use Rattle.instructions.specs.declared.op.Kind.{Kind}
use Rattle.instructions.specs.declared.op.Kind.TheVariants.{Loads}
use Rattle.instructions.specs.declared.op.Op.{Op}
use Rattle.instructions.specs.declared.op.Op.TheVariants.{J, Jal, Jr, Jalr}
use Rattle.one_thread.specs.declared.leaves.Leaves.{Leaves}
use Rattle.one_thread.specs.declared.leaves.Leaves.TheVariants.{Any, Load, Nothing, Told}
use Rattle.one_thread.specs.declared.decoded.Decoded.TheInside.{Inside}
use Rattle.one_thread.specs.declared.leaves.Goes.{Goes}
use Rattle.one_thread.specs.declared.leaves.Goes.TheVariants.{Behind, Pair, Plain, To, Varies}

-- Where an operation goes on, as far as it tells
abbrev pub goes_of : Op → Goes
goes_of J = To
goes_of Jal = To
goes_of Jr = Varies
goes_of Jalr = Varies
goes_of op = if is_branch op then Varies else (if is_pair op then Pair else (if is_access (kind op) then Behind else Plain))

-- What there is to do when an instruction leaves, by where it goes on and its kind
abbrev pub leaves_by : Goes → Kind → Leaves
leaves_by Plain k = Nothing
leaves_by To k = Nothing
leaves_by Behind Loads = Load
leaves_by Behind k = Any
leaves_by Varies k = Told
leaves_by Pair k = Any

-- An instruction, and what is asked of it
abbrev pub decode : Instr → Inside
decode i =
    record {
      instr = i;
      kind = kind i.op;
      access = is_access (kind i.op);
      first = first_of i;
      second = second_of i;
      low = destination i Low;
      high = destination i High;
      goes = goes_of i.op;
      leaves = leaves_by (goes_of i.op) (kind i.op);
    }

-- These are the decoded instructions of a program
pub record IsDecoded (code : List Instr) (P : Program) : Type 0 where
  pub is : code ≡ P.code
  pub few : length code ≤ 16384

-- Where the instruction of an address stands among them: one that is no multiple of 4 comes far after the last
abbrev pub text_index : ℕ → ℕ
text_index pc = rotate_right w32 ((pc + 4290772992) % 4294967296) 2

-- The decoded instructions have one at this address
pub record HasInstr (code : List Instr) (pc : ℕ) : Type 0 where
  pub program : Program
  pub decoded : IsDecoded code program
  pub instr : Instr
  pub is : instr_at program pc ≡ Some instr
