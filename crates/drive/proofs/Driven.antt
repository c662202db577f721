-- What is told of a listing that is driven by hand.
use Rattle.std.proofs.Common.{◌≡◌, ◌∙◌, ℕ, List, take, ap, refl, subst, Option, Some, None, IfSome, Result, Ok, Err, IfOk, IfErr, option_map}
use Rattle.std.specs.Io.KnownBytes.{Appends}
use Rattle.isa.specs.declared.listing.fault.FaultKind.{FaultKind}
use Rattle.isa.specs.Listing.{listing}
use Rattle.instructions.specs.Programs.{Program}
use Rattle.isa.specs.Report.{fault_line}
use Rattle.counted_io.specs.declared.counted.Counted.{Counted}
use Rattle.answers.specs.Answer.{most_taken}
use Rattle.answers.specs.Enough.{listing_taken}
use Rattle.command_line.specs.declared.request.ByHand.{ByHand}
use Rattle.command_line.specs.declared.exit.Refusal.{Refusal}
use Rattle.command_line.specs.declared.exit.Refusal.TheVariants.{Open, Read, Memory, Thread, Write, Trace}
use Rattle.drive.specs.ByHand.{IsDriven}
use Rattle.drive.specs.Replies.{HasAnswered, IsUndrivenBy}

-- the line of a fault
pub fault_told : (hand : ByHand) (found : Result Program (ℕ × FaultKind)) (line : ℕ) (kind : FaultKind) (script before after : Option (List ℕ)) (bytes : List ℕ)
    → found ≡ Err (line, kind) → bytes ≡ fault_line line kind → Appends before after bytes → IsDriven hand found 2 script before after
fault_told hand found line kind script before after bytes is same wrote =
    rw is (refl, subst (λ (text : List ℕ). Appends before after text) same wrote)

-- what is told of the bytes that were taken is told of all, if less of it is told where none are known
of_all : (F : Option (Result Program (ℕ × FaultKind)) → Type 0) → ((found : Result Program (ℕ × FaultKind)) → F (Some found) → F None)
    → (known : Option (List ℕ)) (bytes slice : List ℕ) → IfSome known (λ input. bytes ≡ take most_taken input) → slice ≡ bytes
    → F (Some (listing slice)) → F (option_map listing known)
of_all F less None bytes slice read same is = less (listing slice) is
of_all F less (Some input) bytes slice read same is =
    subst (λ (found : Result Program (ℕ × FaultKind)). F (Some found)) (ap listing (same ∙ read) ∙ listing_taken input) is

module _ {W : Type 0} (contents : W → Option (List ℕ)) (hand : ByHand) (script : Option (List ℕ)) (w w' : Counted W)
    (known : Option (List ℕ)) (bytes slice : List ℕ) (read : IfSome known (λ input. bytes ≡ take most_taken input)) (same : slice ≡ bytes) where
  less_is_left : (refusal : Refusal) (found : Result Program (ℕ × FaultKind)) → IsUndrivenBy contents hand (Some found) script w w' refusal
      → IsUndrivenBy contents hand None script w w' refusal
  less_is_left Open found is = is
  less_is_left Read found is = record { some = tt; quiet = is.quiet }
  less_is_left Memory found is = record { some = tt; quiet = is.quiet }
  less_is_left Thread found is = is
  less_is_left Write found is = record { part = tt; failed = is.failed }
  less_is_left Trace found is = is

  -- an answer
  pub answers_all : (r : Result ℕ Refusal) → IfOk r (HasAnswered contents hand (Some (listing slice)) script w w')
      → IfOk r (HasAnswered contents hand (option_map listing known) script w w')
  answers_all (Ok status) is =
      of_all (λ found. HasAnswered contents hand found script w w' status) (λ found a. record { driven = tt; quiet = a.quiet })
      known bytes slice read same is
  answers_all (Err refusal) is = tt

  -- and how the writer is left without one
  pub leaves_all : (r : Result ℕ Refusal) → IfErr r (IsUndrivenBy contents hand (Some (listing slice)) script w w')
      → IfErr r (IsUndrivenBy contents hand (option_map listing known) script w w')
  leaves_all (Ok status) is = tt
  leaves_all (Err refusal) is =
      of_all (λ found. IsUndrivenBy contents hand found script w w' refusal) (less_is_left refusal) known bytes slice read same is
