-- What a call writes: all, or a beginning where it fails.
use Rattle.std.specs.Prelude.{◌≡◌, ℕ, ◌+◌, ◌≤◌, IfOk, IfSome, List, Option, Result, Ok, Err, String, length, string_bytes, take}
use Rattle.std.specs.Io.KnownBytes.{Appends}
use Rattle.std.specs.declared.alloc.Global.{Global}
use Rattle.std.specs.declared.alloc.AllocError.{AllocError}
use Rattle.counted_io.specs.Counted.{failures_of, known_by}
use Rattle.counted_io.specs.Replies.{HasBegunToRead, HasRead}
use Rattle.counted_io.specs.declared.counted.Counted.{Counted}
use Rattle.counted_io.specs.declared.fault.Fault.{Fault}
use Rattle.counted_io.specs.declared.fault.Fault.TheVariants.{Memory, Read, Write}

-- a beginning of a text was written, or all of it
pub record IsBeginning (text : List ℕ) (before after : Option (List ℕ)) : Type 0 where
  pub n : ℕ
  pub inside : n ≤ length text
  pub says : Appends before after (take n text)

-- a beginning was written of each text that this is, where it is one
abbrev pub IsBeginningOf : Result (String Global) AllocError → (before after : Option (List ℕ)) → Type 0
IsBeginningOf text before after =
    (bytes : List ℕ) → IfOk text (λ all. string_bytes all ≡ bytes) → IsBeginning bytes before after

-- this text was written, which is one
abbrev pub IsWritten : Result (String Global) AllocError → (before after : Option (List ℕ)) → Type 0
IsWritten (Ok text) before after = Appends before after (string_bytes text)
IsWritten (Err e) before after = ⊥

-- n calls of the writer failed, and this holds of its bytes before and after, if it tells them
pub record HasWritten {W : Type 0} (contents : W → Option (List ℕ)) (old new : Counted W) (n : ℕ)
    (Says : (before after : Option (List ℕ)) → Type 0) : Type 0 where
  pub says : Says (known_by contents old) (known_by contents new)
  pub failures : failures_of new ≡ failures_of old + n

-- how a writer is left by a call that only writes: with all, and no failed call; with a beginning, and one
-- failed call; or, for want of memory, with a beginning and none
abbrev pub Writes : {A W : Type 0} → (W → Option (List ℕ)) → (old new : Counted W)
    → (All : A → (before after : Option (List ℕ)) → Type 0)
    → (Begun : (before after : Option (List ℕ)) → Type 0) → Result A Fault → Type 0
Writes contents w w' All Begun (Ok a) = HasWritten contents w w' 0 (All a)
Writes contents w w' All Begun (Err Write) = HasWritten contents w w' 1 Begun
Writes contents w w' All Begun (Err Memory) = HasWritten contents w w' 0 Begun
Writes contents w w' All Begun (Err Read) = ⊥

-- n calls of the writer failed, and this holds of the input and the writer's bytes, if reader and writer tell them
abbrev pub HasWrittenFor : {R W : Type 0} → (R → Option (List ℕ)) → (W → Option (List ℕ))
    → (reader : Counted R) → (old new : Counted W) → (n : ℕ)
    → (Says : (input : List ℕ) → (before after : Option (List ℕ)) → Type 0) → Type 0
HasWrittenFor remaining contents r w w' n Says =
    HasWritten contents w w' n (λ before after. IfSome (known_by remaining r) (λ input. Says input before after))

-- how reader and writer are left by a call that reads an input of at most this many bytes, and then writes: each is
-- blamed for one failed call, and only then; nothing is written where reading failed
abbrev pub Answers : {A R W : Type 0} → (R → Option (List ℕ)) → (W → Option (List ℕ)) → (most : ℕ)
    → (reader reader_new : Counted R) → (writer writer_new : Counted W)
    → (All : A → (input : List ℕ) → (before after : Option (List ℕ)) → Type 0)
    → (Begun : (input : List ℕ) → (before after : Option (List ℕ)) → Type 0) → Result A Fault → Type 0
Answers remaining contents most r r' w w' All Begun (Ok a) =
    HasRead remaining most r r' × HasWrittenFor remaining contents r w w' 0 (All a)
Answers remaining contents most r r' w w' All Begun (Err Write) =
    HasRead remaining most r r' × HasWrittenFor remaining contents r w w' 1 Begun
Answers remaining contents most r r' w w' All Begun (Err Memory) =
    HasBegunToRead 0 remaining most r r' × HasWrittenFor remaining contents r w w' 0 Begun
Answers remaining contents most r r' w w' All Begun (Err Read) =
    HasBegunToRead 1 remaining most r r' × (w' ≡ w)
