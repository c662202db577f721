-- Which text is a listing of a file, and how the devices are left without one.
use Rattle.std.specs.Prelude.{◌≡◌, ◌≢◌, ℕ, List, Option, IfSome, Err, length, ◌<◌, ◌≤◌}
use Rattle.counted_io.specs.Counted.{known_by}
use Rattle.counted_io.specs.Replies.{HasNoReply, IsUnanswered}
use Rattle.counted_io.specs.declared.counted.Counted.{Counted}
use Rattle.disassembly.specs.Conversion.{IsSaid, program_in}
use Rattle.disassembly.specs.declared.refusal.Refusal.TheVariants.{Memory}
use Rattle.listing.specs.declared.no_listing.NoListing.{NoListing}
use Rattle.listing.specs.declared.no_listing.NoListing.TheVariants.{Failed, Refused, TooLong}

-- one byte more than a file may have
abbrev pub most_of_file : ℕ
most_of_file = 16777217

-- the file is not too long, and the text means its program
pub record IsListingOf (file text : List ℕ) : Type 0 where
  pub short : length file < most_of_file
  pub said : IsSaid file text

-- why a file has no listing: it is too long, its program is refused, or memory was short
abbrev pub IsReasonFor : (file : List ℕ) → NoListing → Type 0
IsReasonFor file (Failed fault) = ⊥
IsReasonFor file (Refused why) = (length file < most_of_file) × (why ≢ Memory → program_in file ≡ Err why)
IsReasonFor file TooLong = most_of_file ≤ length file

-- the input was taken, nothing was written, and this is why the input has no listing, if the reader tells it
pub record IsWithout {R W : Type 0} (remaining : R → Option (List ℕ)) (reader reader_new : Counted R)
    (writer writer_new : Counted W) (why : NoListing) : Type 0 where
  pub left : HasNoReply 0 remaining most_of_file reader reader_new writer writer_new
  pub reason : IfSome (known_by remaining reader) (λ input. IsReasonFor input why)

-- how the devices are left where there is no listing: one that failed is blamed for one failed call, and only then
abbrev pub IsUnlisted : {R W : Type 0} → (R → Option (List ℕ)) → (W → Option (List ℕ))
    → (reader reader_new : Counted R) → (writer writer_new : Counted W) → NoListing → Type 0
IsUnlisted remaining contents r r' w w' (Failed fault) = IsUnanswered remaining contents most_of_file r r' w w' IsListingOf fault
IsUnlisted remaining contents r r' w w' (Refused why) = IsWithout remaining r r' w w' (Refused why)
IsUnlisted remaining contents r r' w w' TooLong = IsWithout remaining r r' w w' TooLong
