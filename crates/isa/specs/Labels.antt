-- The labels of a listing as its reader holds them: names in the order of their last bytes, then of all bytes, each with an address.
use Rattle.std.specs.Prelude.{◌≡◌, ℕ, ◌*◌, ◌-◌, ◌%◌, ◌^◌, bit_or, List, drop, fold, length, map, Option}
use Rattle.std.specs.Borrow.{Bor}
use Rattle.std.specs.BTreeMap.{BTreeMap, get}
use Rattle.std.specs.Cmp.Lexicographic.{slice_cmp}
use Rattle.std.specs.Ordering.{nat_cmp, ordering_then}
use Rattle.std.specs.declared.cmp.Ordering.{Ordering}
use Rattle.std.specs.Map.{lookup}
use Rattle.std.specs.Str.{bytes_eq}

-- a name after the number of its last bytes
abbrev pub Key : Type 0
Key = ℕ × Bor (List ℕ)

abbrev pub LabelMap : Type 0
LabelMap = BTreeMap Key ℕ

abbrev pub key_cmp : Key → Key → Ordering
key_cmp x y = ordering_then (nat_cmp x.0 y.0) (slice_cmp nat_cmp x.1.now y.1.now)

-- the last eight bytes of a name, or all of a shorter one, as a number, the first byte the highest
unfoldable pub ending_of : List ℕ → ℕ
ending_of name = fold (λ number b. bit_or (number * 2 ^ 8 % 2 ^ 64) b) 0 (drop (length name - 8) name)

abbrev pub key_of : List ℕ → Key
key_of name = (ending_of name, record { ref_ptr = (0, 0); now = name })

-- the address of a name, where it is held
abbrev pub address_of : LabelMap → List ℕ → Option ℕ
address_of held name = get key_cmp held (key_of name)

-- the names of labels
abbrev pub names_of : List (List ℕ × ℕ) → List (List ℕ)
names_of labels = map (λ p. p.0) labels

-- these labels are held, each name with its first address, and no other
abbrev pub AreHeld : LabelMap → List (List ℕ × ℕ) → Type 0
AreHeld held labels = (name : List ℕ) → address_of held name ≡ lookup (λ k. bytes_eq k name) labels
