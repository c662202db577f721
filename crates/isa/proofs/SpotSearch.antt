-- The part of a statement that is at fault, found from the left.
use Rattle.std.proofs.Common.{◌≡◌, ◌≢◌, ℕ, Bool, true, false, List, [], ◌∷◌, length, Option, Some, None, Err, refl, ap, ◌∙◌}
use Rattle.std.specs.Prelude.{ok_or, if◌then◌else◌, codes}
use Rattle.isa.specs.declared.listing.fault.FaultKind.{FaultKind}
use Rattle.isa.specs.declared.listing.fault.FaultKind.TheVariants.{BadOperands, UnknownOp}
use Rattle.isa.specs.declared.listing.slot.Slot.{Slot}
use Rattle.isa.specs.declared.listing.spot.Spot.TheVariants.{Whole}
use Rattle.isa.specs.declared.listing.spot.Spot.{Spot}
use Rattle.isa.specs.Forms.{Form, form_of, form_with, is_operation}
use Rattle.isa.specs.Spots.{count_spot, most_operands, operands_spot, spot_with}
use Rattle.isa.specs.Statement.{is_word}

pub none_left : (n : ℕ) (ss : List Slot) → operands_spot n ss [] ≡ Whole
none_left n [] = refl
none_left n (s ∷ ss) = refl

-- the word is an operation, and none of its forms has that number of operands
pub no_form : (is : Bool) (o : Option Form) (k : FaultKind) → (if is then ok_or o BadOperands else Err UnknownOp) ≡ Err k → k ≢ UnknownOp
    → (is ≡ true) × (o ≡ None)
no_form true None k e apart = (refl, refl)
no_form true (Some form) k e apart = absurd cc
no_form false o k e apart = absurd (apart cc)

-- none of the forms of an operation has that number of operands
pub spot_of_other : (word : List ℕ) (parts : List (List ℕ)) (n most : ℕ) (k : FaultKind) (at : Spot) → is_word (codes ".space") word ≡ false
    → is_word (codes ".word") word ≡ false → n ≡ length parts → form_of word n ≡ Err k → k ≢ UnknownOp → most ≡ most_operands word
    → at ≡ count_spot most n → at ≡ spot_with word parts
spot_of_other word parts n most k at no_space no_words count e apart is_most is =
    let none = no_form (is_operation word) (form_with word n) k e apart in
    rw (no_space, no_words, none.0, ← count, none.1) (is ∙ ap (λ (m : ℕ). count_spot m n) is_most ∙ ap (λ (j : ℕ). count_spot (most_operands word) j) count)
