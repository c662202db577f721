-- What a load has to read: each byte from the last older store to it.
use Rattle.std.specs.Prelude.{◌≡◌, ℕ, ◌+◌, ◌-◌, ◌<◌, ◌^◌, ◌⊎◌, Bool, true, false, ◌&&◌, IsTrue, IsSome, IsNone, List, [], ◌∷◌, Option, Some, nat_lt, nat_le, if◌then◌else◌, slice_get, option_map}
use Rattle.std.specs.List.{AllByRecursion}
use Rattle.lsq.specs.declared.entry.Entry.{Entry}
use Rattle.lsq.specs.Bytes.{byte_of, little_endian_if_there}
use Rattle.lsq.specs.Entries.{bytes}
use Rattle.lsq.specs.LoadRule.{has_all_of, overlaps}

-- the byte at an address after a store to it: its own, or none while it has no data; else as before
abbrev pub byte_by : Bool → Option ℕ → ℕ → Option ℕ → ℕ → Option ℕ → Option ℕ
byte_by true (Some base) stored content at before =
    if nat_le base at && nat_lt at (base + stored)
    then option_map (byte_of (at - base)) content
    else before
byte_by _ _ stored content at before = before

-- the byte at an address after an entry
abbrev pub byte_by_entry : Entry → ℕ → Option ℕ → Option ℕ
byte_by_entry e at before = byte_by e.store e.address (bytes e.width) e.content at before

-- the byte at an address after each entry of a list in turn, the oldest first
abbrev pub byte_left : List Entry → ℕ → Option ℕ → Option ℕ
byte_left [] at before = before
byte_left (e ∷ es) at before = byte_left es at (byte_by_entry e at before)

-- what a load reads after the entries of a list, from what each byte was before
abbrev pub number_left : List Entry → (ℕ → Option ℕ) → ℕ → ℕ → Option ℕ
number_left es before address width =
    little_endian_if_there (λ at. byte_left es at (before at)) address width

-- an entry that is a store has its address
abbrev pub EntryHasAddress : Entry → Type 0
EntryHasAddress e = IsTrue e.store → IsSome e.address

-- the load reads this number, whatever the bytes were before
pub record ReadsStores (older : List Entry) (address width raw : ℕ) : Type 0 where
  pub known : AllByRecursion EntryHasAddress older
  pub bytes : (k : ℕ) → k < width → (before : Option ℕ)
      → byte_left older (address + k) before ≡ Some (byte_of k raw)
  pub number : (before : ℕ → Option ℕ) → number_left older before address width ≡ Some raw
  pub fits : raw < 256 ^ width

-- no older store writes a byte of the load
pub record ReadsMemory (older : List Entry) (address width : ℕ) : Type 0 where
  pub known : AllByRecursion EntryHasAddress older
  pub bytes : (k : ℕ) → k < width → (before : Option ℕ)
      → byte_left older (address + k) before ≡ before
  pub number : (before : ℕ → Option ℕ)
      → number_left older before address width ≡ little_endian_if_there before address width

-- a store that has not all bytes of a load
abbrev pub LacksBytes : Entry → ℕ → ℕ → Type 0
LacksBytes e address width =
    (base : ℕ) → e.address ≡ Some base → has_all_of base (bytes e.width) address width ≡ false

-- the store at a place has a byte in common with the load, and is the youngest that has, but cannot
-- give the load its bytes: it has no data yet, or not all of them
pub record CannotGive (older : List Entry) (address width place : ℕ) (e : Entry) : Type 0 where
  pub known : AllByRecursion EntryHasAddress older
  pub meets : IsTrue (overlaps address width e)
  pub youngest : (k : ℕ) (other : Entry) → place < k → slice_get older k ≡ Some other
      → overlaps address width other ≡ false
  pub lacks : IsNone e.content ⊎ LacksBytes e address width

-- at a place stands an older store that has no address, or where each has one the youngest that has
-- a byte in common with the load and cannot give it
pub record WaitsFor (older : List Entry) (address width place : ℕ) : Type 0 where
  pub entry : Entry
  pub there : slice_get older place ≡ Some entry
  pub store : IsTrue entry.store
  pub why : IsNone entry.address ⊎ CannotGive older address width place entry
