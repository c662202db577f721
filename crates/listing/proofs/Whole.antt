-- A file that is not too long is taken whole.
use Rattle.std.proofs.Common.{◌≡◌, ◌∙◌, ℕ, List, Option, None, Some, IfSome, length, take, subst, arith, inl, inr}
use Rattle.std.proofs.lemmas.Bool.{cases_lt}
use Rattle.std.proofs.lemmas.List.{length-take, take_all}
use Rattle.counted_io.specs.Counted.{known_by}
use Rattle.counted_io.specs.Replies.{HasNoReply}
use Rattle.counted_io.specs.declared.counted.Counted.{Counted}
use Rattle.listing.specs.declared.no_listing.NoListing.{NoListing}
use Rattle.listing.specs.declared.no_listing.NoListing.TheVariants.{Failed, Refused, TooLong}
use Rattle.listing.specs.Listings.{IsListingOf, IsReasonFor, IsUnlisted, most_of_file}

-- a beginning of a file that is shorter than it may be is the file
whole : (file text : List ℕ) → IsListingOf (take most_of_file file) text → IsListingOf file text
whole file text is = elim (cases_lt (length file) most_of_file) [
  | inl below ↦ subst (λ (bytes : List ℕ). IsListingOf bytes text) (take_all most_of_file file (omega arith)) is
  | inr above ↦ absurd (omega (arith, length-take most_of_file file, is.short, above))
]

-- so is what was taken of a file, where a listing was made of that
pub whole_taken : (bytes slice text : List ℕ) → slice ≡ bytes → IsListingOf slice text
    → (file : List ℕ) → bytes ≡ take most_of_file file → IsListingOf file text
whole_taken bytes slice text same is file taken =
    whole file text (subst (λ (part : List ℕ). IsListingOf part text) (same ∙ taken) is)

-- why a beginning of a file has no listing is why the file has none
reason_whole : (file : List ℕ) (why : NoListing) → IsReasonFor (take most_of_file file) why → IsReasonFor file why
reason_whole file (Failed fault) is = is
reason_whole file (Refused why) is = elim (cases_lt (length file) most_of_file) [
  | inl below ↦ subst (λ (bytes : List ℕ). IsReasonFor bytes (Refused why)) (take_all most_of_file file (omega arith)) is
  | inr above ↦ absurd (omega (arith, length-take most_of_file file, is.0, above))
]
reason_whole file TooLong is = omega (arith, length-take most_of_file file, is)

reason_known : (known : Option (List ℕ)) (bytes slice : List ℕ) (why : NoListing)
    → IfSome known (λ input. bytes ≡ take most_of_file input) → slice ≡ bytes → IsReasonFor slice why
    → IfSome known (λ input. IsReasonFor input why)
reason_known None bytes slice why taken same is = tt
reason_known (Some input) bytes slice why taken same is =
    reason_whole input why (subst (λ (part : List ℕ). IsReasonFor part why) (same ∙ taken) is)

-- the input was taken and has no listing
pub unlisted : {R W : Type 0} (remaining : R → Option (List ℕ)) (contents : W → Option (List ℕ))
    (reader reader_new : Counted R) (writer writer_new : Counted W) (bytes slice : List ℕ) (why : NoListing)
    → HasNoReply 0 remaining most_of_file reader reader_new writer writer_new
    → IfSome (known_by remaining reader) (λ input. bytes ≡ take most_of_file input) → slice ≡ bytes → IsReasonFor slice why
    → IsUnlisted remaining contents reader reader_new writer writer_new why
unlisted remaining contents r r' w w' bytes slice (Failed fault) left taken same is = absurd is
unlisted remaining contents r r' w w' bytes slice (Refused why) left taken same is =
    record { left = left; reason = reason_known (known_by remaining r) bytes slice (Refused why) taken same is }
unlisted remaining contents r r' w w' bytes slice TooLong left taken same is =
    record { left = left; reason = reason_known (known_by remaining r) bytes slice TooLong taken same is }
