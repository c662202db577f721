-- The names of units: A to Z, and then AA to BL.
use Rattle.std.specs.Prelude.{ℕ, ◌+◌, ◌-◌, ◌*◌, ◌&&◌, nat_le, nat_lt, List, [], ◌∷◌, Option, Some, None, if◌then◌else◌}

-- How many units there can be
abbrev pub unit_count : ℕ
unit_count = 64

-- Where a letter stands in the alphabet, from 0 on, as a capital or a small one
abbrev pub letter : ℕ → Option ℕ
letter b =
    if nat_le 65 b && nat_le b 90 then Some (b - 65)
    else if nat_le 97 b && nat_le b 122 then Some (b - 97) else None

-- The place behind two letters, if there is such a unit
abbrev pub both_letters : Option ℕ → Option ℕ → Option ℕ
both_letters None second = None
both_letters (Some first) None = None
both_letters (Some first) (Some second) =
    if nat_lt (26 * (first + 1) + second) unit_count then Some (26 * (first + 1) + second) else None

-- The place of the unit with this name, from 0 on
abbrev pub unit_named : List ℕ → Option ℕ
unit_named [] = None
unit_named (a ∷ []) = letter a
unit_named (a ∷ b ∷ []) = both_letters (letter a) (letter b)
unit_named (a ∷ b ∷ c ∷ more) = None
