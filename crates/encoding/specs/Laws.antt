-- Laws of every word and every operation.
use Rattle.std.specs.Prelude.{◌≡◌, ℕ, ◌<◌, ◌^◌, Some}
use Rattle.instructions.specs.declared.op.Op.{Op}
use Rattle.instructions.specs.declared.instr.Instr.{Instr}
use Rattle.isa.specs.InstrText.{IsWritable}
use Rattle.encoding.specs.Words.{decode}

-- two words that say one instruction at an address are one word
abbrev pub OneWordForEachInstruction : Type 0
OneWordForEachInstruction =
    (pc word other : ℕ) (i : Instr)
    → decode pc word ≡ Some i → decode pc other ≡ Some i → word ≡ other

-- some word says an instruction of the operation at any address
pub record HasWord (op : Op) (pc : ℕ) : Type 0 where
  pub word : ℕ
  pub fits : word < 2 ^ 32
  pub says : Instr
  pub is : decode pc word ≡ Some says
  pub of : says.op ≡ op

-- some word says an instruction of each operation, at each address
abbrev pub EachOperationHasAWord : Type 0
EachOperationHasAWord = (op : Op) (pc : ℕ) → HasWord op pc

-- the instruction of a word at an address can be written in a listing
abbrev pub EachWordIsWritten : Type 0
EachWordIsWritten =
    (pc word : ℕ) (i : Instr) → decode pc word ≡ Some i → IsWritable i
