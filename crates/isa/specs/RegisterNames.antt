-- Registers as a listing names them.
use Rattle.std.specs.Prelude.{ℕ, nat_lt, List, [], ◌∷◌, drop, Option, Some, None, Result, Err, ok_or, if◌then◌else◌, codes}
use Rattle.std.specs.Map.{lookup}
use Rattle.std.specs.Option.{option_or}
use Rattle.std.specs.Str.{bytes_eq}
use Rattle.lexical.specs.Number.{first_is, decimal_in}
use Rattle.isa.specs.declared.listing.fault.FaultKind.{FaultKind}
use Rattle.isa.specs.declared.listing.fault.FaultKind.TheVariants.{BadOperands, BadRegister}
use Rattle.instructions.specs.Registers.{general_count}

-- the names of registers, by the conventions of MIPS
abbrev pub register_names : List (List ℕ × ℕ)
register_names =
    (codes "zero", 0) ∷ (codes "at", 1) ∷ (codes "v0", 2) ∷ (codes "v1", 3)
    ∷ (codes "a0", 4) ∷ (codes "a1", 5) ∷ (codes "a2", 6) ∷ (codes "a3", 7)
    ∷ (codes "t0", 8) ∷ (codes "t1", 9) ∷ (codes "t2", 10) ∷ (codes "t3", 11)
    ∷ (codes "t4", 12) ∷ (codes "t5", 13) ∷ (codes "t6", 14) ∷ (codes "t7", 15)
    ∷ (codes "s0", 16) ∷ (codes "s1", 17) ∷ (codes "s2", 18) ∷ (codes "s3", 19)
    ∷ (codes "s4", 20) ∷ (codes "s5", 21) ∷ (codes "s6", 22) ∷ (codes "s7", 23)
    ∷ (codes "t8", 24) ∷ (codes "t9", 25) ∷ (codes "k0", 26) ∷ (codes "k1", 27)
    ∷ (codes "gp", 28) ∷ (codes "sp", 29) ∷ (codes "fp", 30) ∷ (codes "s8", 30)
    ∷ (codes "ra", 31) ∷ []

-- the number of a register: 0 to 31 without leading zeros, or a name in lower case
unfoldable pub register_number : List ℕ → Option ℕ
register_number text =
    option_or (decimal_in 31 text) (lookup (λ k. bytes_eq k text) register_names)

-- the register with a number, if there is one
abbrev pub existing : Option ℕ → Option ℕ
existing None = None
existing (Some n) = if nat_lt n general_count then Some n else None

-- the register of an operand: `$`, and a number or a name
unfoldable pub register : List ℕ → Result ℕ FaultKind
register text =
    if first_is 36 text then ok_or (existing (register_number (drop 1 text))) BadRegister
    else Err BadOperands
