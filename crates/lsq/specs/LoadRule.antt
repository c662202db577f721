-- The rule for one load over the older stores.
use Rattle.std.specs.Prelude.{ℕ, ◌+◌, ◌-◌, Bool, false, ◌&&◌, List, [], ◌∷◌, Option, Some, None, nat_lt, nat_le, is_none, if◌then◌else◌, take}
use Rattle.lsq.specs.declared.entry.Entry.{Entry}
use Rattle.lsq.specs.declared.answer.Answer.{Answer}
use Rattle.lsq.specs.declared.answer.Answer.TheVariants.{Forward, Memory, Blocked}
use Rattle.lsq.specs.Bytes.{byte_of, little_endian}
use Rattle.lsq.specs.Entries.{Access, bytes, load_entry_at}

-- the younger of two finds, where the first is from the younger part of the list
abbrev pub or_older : Option (ℕ × Entry) → Option (ℕ × Entry) → Option (ℕ × Entry)
or_older (Some found) older = Some found
or_older None older = older

-- the youngest entry that passes a test, with its place, where the places begin with this one
abbrev pub youngest_from : ℕ → (Entry → Bool) → List Entry → Option (ℕ × Entry)
youngest_from at test [] = None
youngest_from at test (e ∷ es) =
    or_older (youngest_from (at + 1) test es) (if test e then Some (at, e) else None)

-- the youngest entry that passes a test, with its place
abbrev pub youngest : (Entry → Bool) → List Entry → Option (ℕ × Entry)
youngest test es = youngest_from 0 test es

-- a store without its address
abbrev pub lacks_address : Entry → Bool
lacks_address e = e.store && is_none e.address

-- bytes from a base on, if it is known, have one in common with those of a load; no sum wraps
abbrev pub meets : Option ℕ → ℕ → ℕ → ℕ → Bool
meets None stored address width = false
meets (Some base) stored address width =
    nat_lt base (address + width) && nat_lt address (base + stored)

-- a store that has a byte in common with a load
abbrev pub overlaps : ℕ → ℕ → Entry → Bool
overlaps address width e = e.store && meets e.address (bytes e.width) address width

-- stored bytes from a base on have all of a load among them
abbrev pub has_all_of : ℕ → ℕ → ℕ → ℕ → Bool
has_all_of base stored address width =
    nat_le base address && nat_le (address + width) (base + stored)

-- what a load reads in the bytes of a store, from its base, width and data, if it has them all
abbrev pub taken_from : Option ℕ → ℕ → Option ℕ → ℕ → ℕ → Option ℕ
taken_from (Some base) stored (Some content) address width =
    if has_all_of base stored address width
    then Some (little_endian (λ x. byte_of (x - base) content) address width)
    else None
taken_from _ stored _ address width = None

-- an answer with these bytes of the store at a place, if it has them
abbrev pub forwarded : ℕ → Option ℕ → Answer
forwarded place (Some raw) = Forward raw
forwarded place None = Blocked place

-- the answer where this is the youngest store that overlaps the load
abbrev pub by_overlap : Option (ℕ × Entry) → ℕ → ℕ → Answer
by_overlap None address width = Memory
by_overlap (Some (place, e)) address width =
    forwarded place (taken_from e.address (bytes e.width) e.content address width)

-- the answer where this is the youngest store without its address
abbrev pub by_lacking : Option (ℕ × Entry) → List Entry → ℕ → ℕ → Answer
by_lacking (Some (place, e)) older address width = Blocked place
by_lacking None older address width =
    by_overlap (youngest (overlaps address width) older) address width

-- the answer for a load of n bytes from an address on, over the entries older than it
abbrev pub answer_over : List Entry → ℕ → ℕ → Answer
answer_over older address width = by_lacking (youngest lacks_address older) older address width

-- the answer for what a load accesses; what is no load with its address waits for itself
abbrev pub answer_to : Option Access → List Entry → ℕ → Answer
answer_to None entries at = Blocked at
answer_to (Some load) entries at = answer_over (take at entries) load.address load.width

-- the answer for the entry at a place
abbrev pub answer : List Entry → ℕ → Answer
answer entries at = answer_to (load_entry_at entries at) entries at
