-- An input that is read, answered, and the answer written: how its devices are left.
use Rattle.std.proofs.Common.{◌≡◌, ◌≤◌, ◌+◌, ℕ, List, [], length, take, refl, arith, subst, Option, Some, None, IfSome}
use Rattle.std.proofs.lemmas.List.{length-take}
use Rattle.std.specs.Io.KnownBytes.{Consumes}
use Rattle.counted_io.specs.Counted.{failures_of, known_by, Gives, GivesPart}
use Rattle.counted_io.specs.Replies.{HasBegunToRead, HasNoReply, HasRead, HasReplied, HasReplyBegun, HasTextFor, IsUnanswered, IsUnread}
use Rattle.counted_io.specs.declared.counted.Counted.{Counted}
use Rattle.counted_io.specs.declared.fault.Fault.{Fault}
use Rattle.counted_io.specs.declared.fault.Fault.TheVariants.{Memory, Read, Write}

-- a text that answers each input of which so much is known
pub text_for : (known : Option (List ℕ)) (Known : List ℕ → Type 0) (A : List ℕ → List ℕ → Type 0) (P : List ℕ → Type 0)
    (text out : List ℕ) → IfSome known Known → ((input : List ℕ) → Known input → A input text) → out ≡ text → P out
    → HasTextFor known A P
text_for None Known A P text out is answers same holds = tt
text_for (Some input) Known A P text out is answers same holds =
    record { text = text; is = answers input is; holds = subst P same holds }

begun : (most : ℕ) (old new : Option (List ℕ)) → IfSome old (λ input. Consumes old new (take most input))
    → (bytes : List ℕ) × (length bytes ≤ most) × Consumes old new bytes
begun most None new taken = ([], omega arith, tt)
begun most (Some input) new taken = (take most input, omega (arith, length-take most input), taken)

-- an input that was taken to its end was begun
pub has_begun : {R : Type 0} (remaining : R → Option (List ℕ)) (most : ℕ) (r r' : Counted R) → HasRead remaining most r r'
    → HasBegunToRead 0 remaining most r r'
has_begun remaining most r r' is = record {
  taken = begun most (known_by remaining r) (known_by remaining r') is.taken;
  failures = omega (arith, is.quiet);
}

-- an input that was taken and left without an answer
pub not_answered : {R W : Type 0} (remaining : R → Option (List ℕ)) (most : ℕ) (r r' : Counted R) (w : Counted W)
    → HasRead remaining most r r' → HasNoReply 0 remaining most r r' w w
not_answered remaining most r r' w is = record { read = has_begun remaining most r r' is; silent = refl }

-- an input that was not taken is not answered
pub unread : {R W : Type 0} (remaining : R → Option (List ℕ)) (contents : W → Option (List ℕ)) (most : ℕ) (r r' : Counted R) (w : Counted W)
    (A : List ℕ → List ℕ → Type 0) (fault : Fault) → IsUnread remaining most r r' fault
    → IsUnanswered remaining contents most r r' w w A fault
unread remaining contents most r r' w A Read is = record { read = is; silent = refl }
unread remaining contents most r r' w A Memory is = record { read = is; silent = refl }
unread remaining contents most r r' w A Write is = absurd is

module _ {R W : Type 0} (remaining : R → Option (List ℕ)) (contents : W → Option (List ℕ)) (most : ℕ) (r r' : Counted R) (w w' : Counted W)
    (Known : List ℕ → Type 0) (A : List ℕ → List ℕ → Type 0) (text out : List ℕ) (read : HasRead remaining most r r')
    (is : IfSome (known_by remaining r) Known) (answers : (input : List ℕ) → Known input → A input text) (same : out ≡ text) where
  -- an input whose answer was written whole
  pub replied : Gives contents w w' out → failures_of w' ≡ failures_of w → HasReplied remaining contents most r r' w w' A
  replied wrote quiet = record {
    read = read;
    text = text_for (known_by remaining r) Known A (Gives contents w w') text out is answers same wrote;
    quiet = quiet;
  }

  -- an input of whose answer a part was written
  pub replied_in_part : GivesPart contents w w' out → failures_of w' ≡ failures_of w + 1
      → HasReplyBegun remaining contents most r r' w w' A
  replied_in_part wrote failed = record {
    read = read;
    part = text_for (known_by remaining r) Known A (GivesPart contents w w') text out is answers same wrote;
    failed = failed;
  }
