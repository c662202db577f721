-- The outcome of a listing of which enough was taken.
use Rattle.std.proofs.Common.{◌≡◌, ◌∙◌, ℕ, List, take, ap, sym, subst, Option, Some, None, IfSome, Result}
use Rattle.isa.specs.declared.listing.fault.FaultKind.{FaultKind}
use Rattle.isa.specs.Listing.{listing}
use Rattle.instructions.specs.Programs.{Program}
use Rattle.counted_io.proofs.Replied.{has_begun}
use Rattle.counted_io.specs.Replies.{HasRead, IsUnread}
use Rattle.counted_io.specs.declared.counted.Counted.{Counted}
use Rattle.counted_io.specs.declared.fault.Fault.{Fault}
use Rattle.counted_io.specs.declared.fault.Fault.TheVariants.{Memory}
use Rattle.answers.specs.Answer.{most_taken}
use Rattle.answers.specs.Enough.{listing_taken}

-- what holds of the listing that was taken holds of the whole
pub found_taken : (F : Result Program (ℕ × FaultKind) → Type 0) (known : Option (List ℕ)) (bytes slice : List ℕ)
    → IfSome known (λ input. bytes ≡ take most_taken input) → slice ≡ bytes → F (listing slice) → IfSome known (λ input. F (listing input))
found_taken F None bytes slice read same is = tt
found_taken F (Some input) bytes slice read same is = subst F (ap listing (same ∙ read) ∙ listing_taken input) is

-- no memory was left for what was taken
pub no_room : {R : Type 0} (remaining : R → Option (List ℕ)) (r r' : Counted R) (fault : Fault) → fault ≡ Memory
    → HasRead remaining most_taken r r' → IsUnread remaining most_taken r r' fault
no_room remaining r r' fault is read =
    subst (IsUnread remaining most_taken r r') (sym is) (has_begun remaining most_taken r r' read)
