-- The one-thread unit: all tenants ever let, the youngest first, so that the tenants before one are
-- the rest of the list from it on. A tenant's position is how many are before it.
use Rattle.std.specs.Prelude.{ℕ, zero, suc, ◌+◌, ◌%◌, Bool, true, false, ◌&&◌, List, [], ◌∷◌, length, Option, Some, None, ◌==◌, nat_lt, if◌then◌else◌}
use Rattle.instructions.specs.declared.op.Half.{Half}
use Rattle.instructions.specs.declared.op.Half.TheVariants.{High, Low}
use Rattle.instructions.specs.Programs.{Program}
use Rattle.instructions.specs.Registers.{register_count}
use Rattle.inorder.specs.Tenants.{Tenant, destination_of, is_first, on_path}

-- The register update unit, as the list of all its tenants
pub record UpdateUnit : Type 0 where
  pub tenants : List Tenant
  pub fresh : ℕ  -- how many were let since the last renewal

-- Before the first let
abbrev pub empty_unit : UpdateUnit
empty_unit = record { tenants = []; fresh = 0 }

-- As many of the youngest tenants
abbrev pub newest_of : ℕ → List Tenant → List Tenant
newest_of zero ts = []
newest_of (suc n) [] = []
newest_of (suc n) (t ∷ ts) = t ∷ newest_of n ts

-- The tenants that stations and tags are counted by: those let since the last renewal
abbrev pub recent : UpdateUnit → List Tenant
recent U = newest_of U.fresh U.tenants

-- The tenant at this position was let before the last renewal
abbrev pub is_old : UpdateUnit → ℕ → Bool
is_old U p = nat_lt (p + U.fresh) (length U.tenants)

-- Positions

-- The tenant at position p
abbrev pub at : List Tenant → ℕ → Option Tenant
at [] p = None
at (t ∷ ts) p = if p == length ts then Some t else at ts p

-- The tenants before position p
abbrev pub older : List Tenant → ℕ → List Tenant
older [] p = []
older (t ∷ ts) p = if p == length ts then ts else older ts p

-- The tenants after position p
abbrev pub younger : List Tenant → ℕ → List Tenant
younger [] p = []
younger (t ∷ ts) p = if p == length ts then [] else t ∷ younger ts p

-- The list with another tenant at position p
abbrev pub replaced : List Tenant → ℕ → Tenant → List Tenant
replaced [] p u = []
replaced (t ∷ ts) p u = if p == length ts then u ∷ ts else t ∷ replaced ts p u

-- How many tenants pass a test
abbrev pub how_many : (Tenant → Bool) → List Tenant → ℕ
how_many test [] = 0
how_many test (t ∷ ts) = if test t then suc (how_many test ts) else how_many test ts

-- Station and tag

-- The configuration of a unit: the stations, the most live loads and stores, and the tag of each
-- station's first tenant
pub record Sizes : Type 0 where
  pub ring : ℕ
  pub queue : ℕ
  pub first_tag : ℕ

-- A new tenant takes the station of its place on the path, modulo the ring size
abbrev pub next_station : Sizes → List Tenant → ℕ
next_station C ts = how_many on_path ts % C.ring

-- A station's next tag is the first one and the number of its earlier tenants
abbrev pub tag_after : Sizes → List Tenant → ℕ → ℕ
tag_after C ts s = C.first_tag + how_many (λ t. t.station == s) ts

-- The tag of a new tenant
abbrev pub next_tag : Sizes → List Tenant → ℕ
next_tag C ts = tag_after C ts (next_station C ts)

-- What a tenant finds before it

-- What a tenant has made, if there is one and it has made something
abbrev pub value_made : Option Tenant → Option ℕ
value_made None = None
value_made (Some t) = t.made

-- The value of a source: what its creator has made, or 0 without a creator
abbrev pub value_of : List Tenant → Option ℕ → Option ℕ
value_of ts None = Some 0
value_of ts (Some p) = value_made (at ts p)

-- The last tenant of the path that writes a register
abbrev pub last_writer : Program → List Tenant → ℕ → Option ℕ
last_writer P [] r = None
last_writer P (t ∷ ts) r =
    if on_path t && destination_of P t == r then Some (length ts) else last_writer P ts r

-- Register 0 is never written
abbrev pub can_be_written : ℕ → Bool
can_be_written zero = false
can_be_written (suc r) = nat_lt (suc r) register_count

-- The create vector: who makes a register's newest value, or none
abbrev pub creator : Program → List Tenant → ℕ → Option ℕ
creator P ts r = if can_be_written r then last_writer P ts r else None

-- Where the path goes on
abbrev pub front_pc : List Tenant → ℕ
front_pc [] = 0x00400000
front_pc (t ∷ ts) = if on_path t then t.next else front_pc ts

-- The half that comes after a tenant: after a first half its second
abbrev pub half_after : Bool → Half
half_after true = High
half_after false = Low

-- The half that comes next on the path
abbrev pub front_half : Program → List Tenant → Half
front_half P [] = Low
front_half P (t ∷ ts) = if on_path t then half_after (is_first P t) else front_half P ts
