-- Words as lines.
use Rattle.std.specs.Prelude.{ℕ, ◌+◌, List, [], ◌∷◌, ◌++◌, codes}
use Rattle.std.specs.Int.{w32, from_le_bytes}
use Rattle.isa.specs.Report.{hexadecimal, newline}

-- the line of a word, after its address
abbrev pub word_line : (address word : ℕ) → List ℕ
word_line address word = hexadecimal address ++ (codes " " ++ (hexadecimal word ++ newline))

-- the lines of words, from an address on
abbrev pub word_lines : (address : ℕ) → List ℕ → List ℕ
word_lines address [] = []
word_lines address (word ∷ words) = word_line address word ++ word_lines (address + 4) words

-- the lines of the words of bytes, which are little endian, from an address on
abbrev pub data_lines : (address : ℕ) → List ℕ → List ℕ
data_lines address (a ∷ b ∷ c ∷ d ∷ bs) =
    word_line address (from_le_bytes w32 (a ∷ b ∷ c ∷ d ∷ [])) ++ data_lines (address + 4) bs
data_lines address _ = []

-- the lines of a text and of data memory
abbrev pub text_for : (words bytes : List ℕ) → List ℕ
text_for words bytes = word_lines 0x00400000 words ++ data_lines 0 bytes
