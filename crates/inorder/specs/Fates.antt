-- What the fate of a tenant says of its outcome, of what it made and of where it goes on.
use Rattle.std.specs.Prelude.{◌≡◌, ⊤, ℕ, ◌<◌, List, length, Some, None}
use Rattle.instructions.specs.Instruction.{pc_plus_4}
use Rattle.instructions.specs.Programs.{Program, address}
use Rattle.instructions.specs.declared.op.Kind.{Kind}
use Rattle.instructions.specs.declared.op.Kind.TheVariants.{Computes, Jumps, Links, Loads, Stores}
use Rattle.instructions.specs.declared.stop.Outcome.TheVariants.{Address, Next, Stop as Stops, Value}
use Rattle.instructions.specs.declared.stop.Stop.{Stop}
use Rattle.inorder.specs.Legal.{AreAllowed, Taken, reached}
use Rattle.inorder.specs.Tenants.{Addr, Done, Fate, Guessed, Miss, Open, Operand, Stopped, Tenant, computed, computed_next, kind_of, missing}
use Rattle.inorder.specs.Unit.{Sizes, at, older, value_of}

-- A tenant of each kind that is done with v: its outcome, and what it made
abbrev pub DoneSays : Program → Tenant → ℕ → Kind → Type 0
DoneSays P t v Computes = (computed P t ≡ Value v) × (t.made ≡ Some v)
DoneSays P t v Jumps = computed P t ≡ Next v
DoneSays P t v Links = (computed P t ≡ Next v) × (t.made ≡ Some (pc_plus_4 t.pc))
DoneSays P t v Loads = ((a : ℕ) × (computed P t ≡ Address a)) × (t.made ≡ Some v)
DoneSays P t v Stores = ⊥

-- A tenant of this fate was claimed; one that has guessed need not be
abbrev pub WasClaimed : Fate → Type 0
WasClaimed Open = ⊥
WasClaimed (Guessed v) = ⊥
WasClaimed _ = ⊤

-- What each fate says
pub record FateSays (P : Program) (t : Tenant) : Type 0 where
  pub address : (a : ℕ) → t.fate ≡ Addr a → computed P t ≡ Address a
  pub done : (v : ℕ) → t.fate ≡ Done v → DoneSays P t v (kind_of P t)
  pub goes_on : (v : ℕ) → t.fate ≡ Done v → computed_next P t ≡ t.next
  pub miss : (x : ℕ) → t.fate ≡ Miss x → computed P t ≡ Next x
  pub stop : (c : Stop) → t.fate ≡ Stopped c → computed P t ≡ Stops c
  -- one that was claimed had its needed sources, and each delivered value is what its creator made
  pub claimed : WasClaimed t.fate → missing P t ≡ None

-- Each delivered value is what the source's creator has made
abbrev pub HasItsValue : List Tenant → Operand → Type 0
HasItsValue ts o = (v : ℕ) → o.value ≡ Some v → value_of ts o.creator ≡ Some v

-- The tenant t, with ts before it: fate, sources, and pc
pub record FollowsFrom (P : Program) (ts : List Tenant) (t : Tenant) : Type 0 where
  pub fate : FateSays P t
  pub first : HasItsValue ts t.first
  pub second : HasItsValue ts t.second
  pub pc : t.pc ≡ address t.index
  pub inside : t.index < length P.code

-- The fate of each tenant says this in the unit that these steps reach, if each was allowed
abbrev pub FatesFollow : Program → Sizes → List Taken → Type 0
FatesFollow P C history =
    (p : ℕ) (t : Tenant) → AreAllowed P C history → at (reached P C history).tenants p ≡ Some t →
    FollowsFrom P (older (reached P C history).tenants p) t
