-- What several reads take, one after the other.
use Rattle.std.proofs.Common.{◌≡◌, ℕ, ◌+◌, ◌≤◌, List, ◌++◌, length, Option, arith}
use Rattle.std.proofs.KnownBytes.{Consumes-trans}
use Rattle.std.proofs.lemmas.Grind.{common_steps}
use Rattle.std.specs.Io.KnownBytes.{Consumes}
use Rattle.counted_io.specs.Counted.{failures_of, Takes}
use Rattle.counted_io.specs.Replies.{HasBegunToRead, IsUnread}
use Rattle.counted_io.specs.declared.counted.Counted.{Counted}
use Rattle.counted_io.specs.declared.fault.Fault.{Fault}
use Rattle.counted_io.specs.declared.fault.Fault.TheVariants.{Memory, Read, Write}

-- some bytes, and then up to n more
consumes_then_up_to : (most more : ℕ) (a b c : Option (List ℕ)) (bytes : List ℕ)
    → length bytes + more ≤ most → Consumes a b bytes
    → (rest : List ℕ) × (length rest ≤ more) × Consumes b c rest
    → (all : List ℕ) × (length all ≤ most) × Consumes a c all
consumes_then_up_to most more a b c bytes room taken rest =
    (bytes ++ rest.0, grind (arith, common_steps, rest.1), Consumes-trans a b c bytes rest.0 taken rest.2)

module _ {R : Type 0} (remaining : R → Option (List ℕ)) (most more : ℕ) (first middle last : Counted R) (bytes : List ℕ)
    (room : length bytes + more ≤ most) (quiet : failures_of middle ≡ failures_of first) (taken : Takes remaining first middle bytes) where
  begun_before : (failed : ℕ) → HasBegunToRead failed remaining more middle last → HasBegunToRead failed remaining most first last
  begun_before failed is = record {
    taken = consumes_then_up_to most more _ _ _ bytes room taken is.taken;
    failures = omega (arith, is.failures, quiet);
  }

  -- a read that fails after others leaves the reader as one that fails at once
  pub unread_before : (fault : Fault) → IsUnread remaining more middle last fault → IsUnread remaining most first last fault
  unread_before Read is = begun_before 1 is
  unread_before Memory is = begun_before 0 is
  unread_before Write is = absurd is
