-- The sizes and limits of a core and its run.
use Rattle.std.specs.Prelude.{◌≡◌, ℕ, ◌-◌, ◌^◌, Bool, ◌&&◌, ◌||◌, ◌==◌, nat_le, if◌then◌else◌, Option, Some, None}
use Rattle.instructions.specs.declared.config.BadConfig.{BadConfig}
use Rattle.instructions.specs.declared.config.BadConfig.TheVariants.{Ring, Queue, Units, Places, Tag, Limit, Turns}

-- a configuration
pub record Settings : Type 0 where
  pub ring : ℕ
  pub queue : ℕ
  pub units : ℕ
  pub places : ℕ
  pub first_tag : ℕ
  pub limit : ℕ
  pub turns : ℕ

-- whether the ring can have this number of stations
abbrev pub is_ring : ℕ → Bool
is_ring n = n == 2 || n == 4 || n == 8 || n == 16 || n == 32

-- whether a number is from the least to the most
abbrev pub is_from_to : ℕ → ℕ → ℕ → Bool
is_from_to least most n = nat_le least n && nat_le n most

-- the first argument, in their order, that is out of its range
abbrev pub first_bad : (ring queue units places first_tag limit turns : ℕ) → Option BadConfig
first_bad ring queue units places first_tag limit turns =
    if is_ring ring then
    if is_from_to 2 ring queue then
    if is_from_to 1 64 units then
    if is_from_to 1 64 places then
    if is_from_to 1 (2 ^ 28 - 2) first_tag then
    if is_from_to 0 (2 ^ 32 - 1) limit then
    if is_from_to 1 (2 ^ 32 - 1) turns then None
    else Some Turns else Some Limit else Some Tag else Some Places else Some Units
    else Some Queue else Some Ring

-- whether each argument is in its range
abbrev pub IsValid : (ring queue units places first_tag limit turns : ℕ) → Type 0
IsValid ring queue units places first_tag limit turns =
    first_bad ring queue units places first_tag limit turns ≡ None
