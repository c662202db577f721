-- The entries of a queue, the oldest first.
use Rattle.std.specs.Prelude.{ℕ, zero, suc, Bool, false, List, [], ◌∷◌, Option, Some, None, slice_get, option_and_then}
use Rattle.lsq.specs.declared.entry.Entry.{Entry}
use Rattle.lsq.specs.declared.entry.Width.{Width}
use Rattle.lsq.specs.declared.entry.Width.TheVariants.{Byte, Half, Word}

-- what a queue holds, and how much it can hold
pub record HeldEntries : Type 0 where
  pub capacity : ℕ
  pub entries : List Entry

-- how many bytes an access moves
abbrev pub bytes : Width → ℕ
bytes Byte = 1
bytes Half = 2
bytes Word = 4

-- n bytes from an address on
pub record Access : Type 0 where
  pub address : ℕ
  pub width : ℕ

-- what a load with its address accesses, by whether it is a store, its address and its width
abbrev pub load_by : Bool → Option ℕ → Width → Option Access
load_by false (Some address) width = Some (record { address = address; width = bytes width })
load_by _ _ width = None

-- what the entry at a place accesses, where it is a load with its address
abbrev pub load_entry_at : List Entry → ℕ → Option Access
load_entry_at entries at =
    option_and_then (λ e. load_by e.store e.address e.width) (slice_get entries at)

-- the entries with the one at a place changed
abbrev pub changed_at : (Entry → Entry) → List Entry → ℕ → List Entry
changed_at change [] at = []
changed_at change (e ∷ es) zero = change e ∷ es
changed_at change (e ∷ es) (suc at) = e ∷ changed_at change es at

-- an entry that has got its address
abbrev pub with_address : ℕ → Entry → Entry
with_address address e = record e { address = Some address }

-- an entry that has got its data
abbrev pub with_content : ℕ → Entry → Entry
with_content content e = record e { content = Some content }
