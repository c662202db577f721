-- Tenants that are dropped: nothing asks for them any more.
use Rattle.std.specs.Prelude.{⊤, ◌≡◌, ◌⊎◌, ℕ, ◌<◌, ◌≤◌, List, Option, Some, None, IfSome, length, slice_get, take}
use Rattle.instructions.specs.Instruction.{first_of, second_of}
use Rattle.instructions.specs.Programs.{Program}
use Rattle.instructions.specs.declared.instr.Instr.{Instr}
use Rattle.inorder.specs.declared.history.Source.{Source}
use Rattle.inorder.specs.Steps.{MayDeliver, MayLink}
use Rattle.inorder.specs.Tenants.{operand}
use Rattle.inorder.specs.Unit.{creator, older, value_of}
use Rattle.replay.specs.declared.supply.Supplied.{Supplied}
use Rattle.replay.specs.declared.supply.Supplied.TheVariants.{From, Known}
use Rattle.replay.specs.declared.supply.Supplies.{Supplies}
use Rattle.replay.specs.declared.tenant.Tenant.{Tenant as Held}
use Rattle.replay.specs.Shown.{shown, tenant_of}

-- Source k of the tenant h at position q gets no link and no value any more
pub record IsClosed (hs : List Held) (q : ℕ) (h : Held) (k : Source) : Type 0 where
  pub unlinked : ¬ MayLink (tenant_of h) k
  pub undelivered : ¬ MayDeliver (shown (take q hs)) (tenant_of h) k

-- Nor does any source of the tenant at position q
abbrev pub AreClosed : List Held → ℕ → Type 0
AreClosed hs q = (h : Held) (k : Source) → slice_get hs q ≡ Some h → IsClosed hs q h k

-- Who makes source k of the tenant h at position q is at n or after it, if the source is not closed
abbrev pub NeedsFrom : List Held → ℕ → Held → Source → ℕ → Type 0
NeedsFrom hs q h k n = (c : ℕ) → ¬ IsClosed hs q h k → (operand k (tenant_of h)).creator ≡ Some c → n ≤ c

abbrev pub NeedsFromBoth : List Held → ℕ → ℕ → Type 0
NeedsFromBoth hs q n = (h : Held) (k : Source) → slice_get hs q ≡ Some h → NeedsFrom hs q h k n

-- The tenants before position n have left and are closed, and no other waits for one of them
pub record IsDropped (hs : List Held) (n upto : ℕ) : Type 0 where
  pub within : n ≤ upto
  pub closed : (q : ℕ) → q < n → AreClosed hs q
  pub needs : (q : ℕ) → n ≤ q → NeedsFromBoth hs q n

-- A new tenant waits for none of those before position n
abbrev pub WaitsForKept : List Held → ℕ → Held → Type 0
WaitsForKept hs n h = (k : Source) → NeedsFrom hs (length hs) h k n

-- A source of a tenant stays as it is; or it is not closed, and still comes from its creator
abbrev pub TurnsTo : List Held → ℕ → Held → Held → Source → Type 0
TurnsTo hs q t h k =
    (operand k (tenant_of h) ≡ operand k (tenant_of t))
    ⊎ ((¬ IsClosed hs q t k) × ((operand k (tenant_of h)).creator ≡ (operand k (tenant_of t)).creator))

-- What the creator has made, of those before position q, if it is at n or after it; else nothing
pub record IsValueIfKept (hs : List Held) (n q : ℕ) (c : Option ℕ) (value : Option ℕ) : Type 0 where
  pub kept : IfSome c (λ p. n ≤ p) → value ≡ value_of (older (shown hs) q) c
  pub gone : (p : ℕ) → c ≡ Some p → p < n → value ≡ None

-- The creator is at n or after it
abbrev pub IsLate : ℕ → Option ℕ → Type 0
IsLate n None = ⊥
IsLate n (Some p) = n ≤ p

-- A source that waits comes from such a creator
abbrev pub ComesLate : ℕ → Option ℕ → Supplied → Type 0
ComesLate n c (Known v) = ⊤
ComesLate n c From = IsLate n c

-- So do both sources of an instruction
pub record ComeLate (P : Program) (hs : List Held) (n : ℕ) (i : Instr) (s : Supplies) : Type 0 where
  pub first : ComesLate n (creator P (shown hs) (first_of i)) s.first
  pub second : ComesLate n (creator P (shown hs) (second_of i)) s.second
