-- How a writer is left where a listing was driven by hand, or that was refused.
use Rattle.std.specs.Prelude.{◌≡◌, ◌+◌, ℕ, List, Option, None, IfSome, Result, option_and_then, option_map}
use Rattle.isa.specs.declared.listing.fault.FaultKind.{FaultKind}
use Rattle.isa.specs.Listing.{listing}
use Rattle.instructions.specs.Programs.{Program}
use Rattle.counted_io.specs.Counted.{failures_of, known_by}
use Rattle.counted_io.specs.declared.counted.Counted.{Counted}
use Rattle.command_line.specs.declared.request.ByHand.{ByHand}
use Rattle.command_line.specs.declared.exit.Refusal.{Refusal}
use Rattle.command_line.specs.declared.exit.Refusal.TheVariants.{Open, Read, Memory, Thread, Write, Trace}
use Rattle.drive.specs.ByHand.{IsBroken, IsDriven, WasBrokenOff}

-- the listing that the reader has left, if there is a reader that tells its bytes
abbrev pub listing_from : {R : Type 0} → (R → Option (List ℕ)) → Option (Counted R) → Option (Result Program (ℕ × FaultKind))
listing_from remaining reader = option_map listing (option_and_then (known_by remaining) reader)

-- the script was answered whole, or the fault of the listing was, and no call of the writer failed
pub record HasAnswered {W : Type 0} (contents : W → Option (List ℕ)) (hand : ByHand) (found : Option (Result Program (ℕ × FaultKind)))
    (script : Option (List ℕ)) (writer writer_new : Counted W) (status : ℕ) : Type 0 where
  pub driven : IfSome found (λ f. IsDriven hand f status script (known_by contents writer) (known_by contents writer_new))
  pub quiet : failures_of writer_new ≡ failures_of writer

-- some commands were answered whole, or none, and no call of the writer failed
pub record HasAnsweredSome {W : Type 0} (contents : W → Option (List ℕ)) (hand : ByHand) (found : Option (Result Program (ℕ × FaultKind)))
    (script : Option (List ℕ)) (writer writer_new : Counted W) : Type 0 where
  pub some : IfSome found (λ f. WasBrokenOff hand f script (known_by contents writer) (known_by contents writer_new))
  pub quiet : failures_of writer_new ≡ failures_of writer

-- one call of the writer failed, behind a proper beginning of what was to be written next
pub record HasAnsweredPart {W : Type 0} (contents : W → Option (List ℕ)) (hand : ByHand) (found : Option (Result Program (ℕ × FaultKind)))
    (script : Option (List ℕ)) (writer writer_new : Counted W) : Type 0 where
  pub part : IfSome found (λ f. IsBroken hand f script (known_by contents writer) (known_by contents writer_new))
  pub failed : failures_of writer_new ≡ failures_of writer + 1

-- how the writer is left where a listing that was opened is not answered: it is blamed for one failed call, and only
-- then; there are no threads to refuse, and no log to blame
abbrev pub IsUndrivenBy : {W : Type 0} → (W → Option (List ℕ)) → ByHand → (found : Option (Result Program (ℕ × FaultKind)))
    → (script : Option (List ℕ)) → (writer writer_new : Counted W) → Refusal → Type 0
IsUndrivenBy contents hand found script w w' Open = ⊥
IsUndrivenBy contents hand found script w w' Read = HasAnsweredSome contents hand found script w w'
IsUndrivenBy contents hand found script w w' Memory = HasAnsweredSome contents hand found script w w'
IsUndrivenBy contents hand found script w w' Thread = ⊥
IsUndrivenBy contents hand found script w w' Write = HasAnsweredPart contents hand found script w w'
IsUndrivenBy contents hand found script w w' Trace = ⊥

-- how the writer is left by a refusal where the listing may not have opened: only then is opening blamed, and nothing
-- was written
abbrev pub IsLeftByHand : {R W : Type 0} → (R → Option (List ℕ)) → (W → Option (List ℕ)) → ByHand
    → (reader : Option (Counted R)) → (script : Option (List ℕ)) → (writer writer_new : Counted W) → Refusal → Type 0
IsLeftByHand remaining contents hand reader script w w' Open = (reader ≡ None) × (w' ≡ w)
IsLeftByHand remaining contents hand reader script w w' refusal =
    IsUndrivenBy contents hand (listing_from remaining reader) script w w' refusal
