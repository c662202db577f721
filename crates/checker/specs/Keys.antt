-- A set of names: the keys of a map.
use Rattle.std.specs.Prelude.{◌≡◌, ℕ, Bool, List, is_some}
use Rattle.std.specs.Borrow.{Bor}
use Rattle.std.specs.BTreeMap.{BTreeMap, get_by}
use Rattle.std.specs.Cmp.Lexicographic.{slice_cmp}
use Rattle.std.specs.Ordering.{nat_cmp}
use Rattle.isa.specs.Listing.{stands_in}

-- whether a name is a key of a map
abbrev pub has_key : BTreeMap (Bor (List ℕ)) ℕ → List ℕ → Bool
has_key map name = is_some (get_by (λ k. slice_cmp nat_cmp name k.now) map)

-- the keys of a map are these names
abbrev pub AreNames : BTreeMap (Bor (List ℕ)) ℕ → List (List ℕ) → Type 0
AreNames map names = (name : List ℕ) → has_key map name ≡ stands_in names name
