-- One byte more than a listing may have is enough to know its outcome.
use Rattle.std.proofs.Common.{◌≡◌, ℕ, List, length, take, refl, ap, arith, inl, inr}
use Rattle.std.proofs.lemmas.Bool.{cases_lt, lt-ltb}
use Rattle.std.proofs.lemmas.List.{length-take, take_all}
use Rattle.isa.specs.Listing.{listing}
use Rattle.answers.specs.Answer.{most_taken}

-- the listing that a part of the input is, is that of the whole
pub listing_taken : (input : List ℕ) → listing (take most_taken input) ≡ listing input
unfolding listing
listing_taken input = elim (cases_lt 4194304 (length input)) [
  | inl more ↦ rw (lt-ltb 4194304 (length input) more, lt-ltb 4194304 (length (take most_taken input)) (omega (arith, length-take most_taken input))) refl
  | inr less ↦ ap listing (take_all most_taken input (omega arith))
]
