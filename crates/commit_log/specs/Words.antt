-- The machine word of an instruction, where MIPS I has one.
use Rattle.std.specs.Prelude.{◌≡◌, ◌≢◌, ◌<◌, ℕ, ◌^◌, ◌==◌, ◌&&◌, Bool, false, nat_lt, Option, Some, None, if◌then◌else◌}
use Rattle.instructions.specs.declared.instr.Instr.{Instr}
use Rattle.encoding.specs.Layouts.{has_layout, layout}
use Rattle.encoding.specs.Words.{decode, packed}

-- whether two instructions are equal: in their operation, by its layout, and in their registers and number
abbrev pub are_equal : Instr → Instr → Bool
are_equal i j =
    has_layout (layout j.op).opcode (layout j.op).select i.op
    && ((i.target == j.target) && ((i.first == j.first) && ((i.second == j.second) && (i.number == j.number))))

-- whether a word that was decoded says this instruction
abbrev pub is_said : Instr → Option Instr → Bool
is_said i None = false
is_said i (Some j) = are_equal j i

-- whether this word of 32 bits says an instruction at pc
abbrev pub says : ℕ → ℕ → Instr → Bool
says pc word i = nat_lt word (2 ^ 32) && is_said i (decode pc word)

-- the word of an instruction at pc: the only one that can say the instruction, if there is one
unfoldable pub word_of : ℕ → Instr → Option ℕ
word_of pc i = if says pc (packed pc i) i then Some (packed pc i) else None

-- `word_of` is the word of 32 bits that says the instruction, and none where no word does
pub record IsWordOf (pc : ℕ) (i : Instr) : Type 0 where
  pub some : (word : ℕ) → word_of pc i ≡ Some word → (word < 2 ^ 32) × (decode pc word ≡ Some i)
  pub none : word_of pc i ≡ None → (word : ℕ) → word < 2 ^ 32 → decode pc word ≢ Some i

-- each instruction at each address has its word, or none
abbrev pub AWordSaysItsInstruction : Type 0
AWordSaysItsInstruction = (pc : ℕ) (i : Instr) → IsWordOf pc i
