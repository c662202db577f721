-- An input that is read, answered, and the answer written.
use Rattle.std.specs.Prelude.{◌≡◌, ℕ, ◌+◌, Option, List, IfSome, take}
use Rattle.counted_io.specs.Counted.{failures_of, known_by, Gives, GivesPart, Takes, TakesUpTo}
use Rattle.counted_io.specs.declared.counted.Counted.{Counted}
use Rattle.counted_io.specs.declared.fault.Fault.{Fault}
use Rattle.counted_io.specs.declared.fault.Fault.TheVariants.{Memory, Read, Write}

-- P of some text of this kind
pub record HasText (Is P : List ℕ → Type 0) : Type 0 where
  pub text : List ℕ
  pub is : Is text
  pub holds : P text

-- P of some text that is one for the bytes that the reader has left, if it tells them
abbrev pub HasTextFor : (known : Option (List ℕ)) → (IsText : (input text : List ℕ) → Type 0)
    → (List ℕ → Type 0) → Type 0
HasTextFor known IsText P = IfSome known (λ input. HasText (IsText input) P)

-- the first n bytes of the input were taken, and no call of the reader failed
pub record HasRead {R : Type 0} (remaining : R → Option (List ℕ)) (most : ℕ) (old new : Counted R) : Type 0 where
  pub taken : IfSome (known_by remaining old) (λ input. Takes remaining old new (take most input))
  pub quiet : failures_of new ≡ failures_of old

-- only a beginning of the input was taken, and n calls failed
pub record HasBegunToRead {R : Type 0} (failed : ℕ) (remaining : R → Option (List ℕ)) (most : ℕ)
    (old new : Counted R) : Type 0 where
  pub taken : TakesUpTo most remaining old new
  pub failures : failures_of new ≡ failures_of old + failed

-- how a reader is left where its input was not taken: it is blamed for one failed call, and only then
abbrev pub IsUnread : {R : Type 0} → (R → Option (List ℕ)) → (most : ℕ) → (reader reader_new : Counted R) → Fault → Type 0
IsUnread remaining most r r' Read = HasBegunToRead 1 remaining most r r'
IsUnread remaining most r r' Memory = HasBegunToRead 0 remaining most r r'
IsUnread remaining most r r' Write = ⊥

-- a text for the input was written whole, and no call of a device failed
pub record HasReplied {R W : Type 0} (remaining : R → Option (List ℕ)) (contents : W → Option (List ℕ)) (most : ℕ)
    (reader reader_new : Counted R) (writer writer_new : Counted W)
    (IsText : (input text : List ℕ) → Type 0) : Type 0 where
  pub read : HasRead remaining most reader reader_new
  pub text : HasTextFor (known_by remaining reader) IsText (Gives contents writer writer_new)
  pub quiet : failures_of writer_new ≡ failures_of writer

-- one call of the writer failed, after a proper beginning of such a text
pub record HasReplyBegun {R W : Type 0} (remaining : R → Option (List ℕ)) (contents : W → Option (List ℕ)) (most : ℕ)
    (reader reader_new : Counted R) (writer writer_new : Counted W)
    (IsText : (input text : List ℕ) → Type 0) : Type 0 where
  pub read : HasRead remaining most reader reader_new
  pub part : HasTextFor (known_by remaining reader) IsText (GivesPart contents writer writer_new)
  pub failed : failures_of writer_new ≡ failures_of writer + 1

-- nothing was written, and n calls of the reader failed
pub record HasNoReply {R W : Type 0} (failed : ℕ) (remaining : R → Option (List ℕ)) (most : ℕ)
    (reader reader_new : Counted R) (writer writer_new : Counted W) : Type 0 where
  pub read : HasBegunToRead failed remaining most reader reader_new
  pub silent : writer_new ≡ writer

-- how reader and writer are left where an input was not answered
abbrev pub IsUnanswered : {R W : Type 0} → (R → Option (List ℕ)) → (W → Option (List ℕ)) → (most : ℕ)
    → (reader reader_new : Counted R) → (writer writer_new : Counted W)
    → (IsText : (input text : List ℕ) → Type 0) → Fault → Type 0
IsUnanswered remaining contents most r r' w w' IsText Read = HasNoReply 1 remaining most r r' w w'
IsUnanswered remaining contents most r r' w w' IsText Memory = HasNoReply 0 remaining most r r' w w'
IsUnanswered remaining contents most r r' w w' IsText Write =
    HasReplyBegun remaining contents most r r' w w' IsText
