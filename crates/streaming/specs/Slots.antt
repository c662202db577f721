-- Items in a ring of slots, the oldest first.
use Rattle.std.specs.Prelude.{ℕ, ◌+◌, ◌%◌, List, ◌++◌, take, drop}

-- n items from a slot on, around the end
abbrev pub ring_of : {X : Type 0} → List X → ℕ → ℕ → List X
ring_of slots start len = take len (drop start (slots ++ slots))

-- The slot of the item at i, of n slots, from that of the oldest on
abbrev pub slot_in : ℕ → ℕ → ℕ → ℕ
slot_in n start i = (start + i) % n
