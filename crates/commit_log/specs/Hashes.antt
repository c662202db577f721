-- The hash of a state: FNV-1a in 64 bits, over words in place of bytes.
use Rattle.std.specs.Prelude.{ℕ, ◌*◌, ◌/◌, ◌%◌, ◌^◌, List, [], ◌∷◌, ◌++◌, bit_xor}
use Rattle.std.specs.Int.{w32, from_le_bytes}
use Rattle.isa.specs.Report.{hex8, hexadecimal}

-- the hash of nothing
abbrev pub hash_start : ℕ
hash_start = 0xcbf29ce484222325

-- the number by which each word multiplies a hash
abbrev pub prime : ℕ
prime = 0x100000001b3

-- a hash after one more word
abbrev pub mixed : (hash word : ℕ) → ℕ
mixed hash word = bit_xor hash word * prime % 2 ^ 64

-- a hash after words
abbrev pub mixed_words : (hash : ℕ) → List ℕ → ℕ
mixed_words hash [] = hash
mixed_words hash (word ∷ words) = mixed_words (mixed hash word) words

-- a hash after the words of bytes, which are little endian
abbrev pub mixed_bytes : (hash : ℕ) → List ℕ → ℕ
mixed_bytes hash (a ∷ b ∷ c ∷ d ∷ bs) =
    mixed_bytes (mixed hash (from_le_bytes w32 (a ∷ b ∷ c ∷ d ∷ []))) bs
mixed_bytes hash _ = hash

-- the hash of registers and data memory
abbrev pub hash_of : (registers memory : List ℕ) → ℕ
hash_of registers memory = mixed_bytes (mixed_words hash_start registers) memory

-- a hash with its sixteen hexadecimal digits
abbrev pub hash_text : ℕ → List ℕ
hash_text hash = hexadecimal (hash / 2 ^ 32) ++ hex8 (hash % 2 ^ 32)
