-- How a program that reads a listing and writes leaves its reader, which may be missing, and its writer.
use Rattle.std.specs.Prelude.{◌≡◌, ℕ, None, Some, Option, List, Result, Ok, Err}
use Rattle.counted_io.specs.Replies.{HasNoReply, HasReplied, HasReplyBegun}
use Rattle.counted_io.specs.Writes.{Answers}
use Rattle.counted_io.specs.declared.counted.Counted.{Counted}
use Rattle.counted_io.specs.declared.fault.Fault.{Fault}
use Rattle.counted_io.specs.declared.fault.Fault.TheVariants as fault
use Rattle.command_line.specs.declared.exit.Line.{Line}
use Rattle.command_line.specs.declared.exit.Line.TheVariants.{Nothing, Tally, Refused}
use Rattle.command_line.specs.declared.exit.Refusal.{Refusal}
use Rattle.command_line.specs.declared.exit.Refusal.TheVariants.{Open, Read, Memory, Thread, Write, Trace}

-- there is a reader, and this holds of it before and after
pub record HasReader {R : Type 0} (reader reader_new : Option (Counted R)) (P : (old new : Counted R) → Type 0) : Type 0 where
  pub old : Counted R
  pub new : Counted R
  pub was : reader ≡ Some old
  pub is : reader_new ≡ Some new
  pub holds : P old new

-- there is no reader, and nothing was written
pub record HasNoReader {R W : Type 0} (reader : Option (Counted R)) (writer writer_new : Counted W) : Type 0 where
  pub none : reader ≡ None
  pub silent : writer_new ≡ writer

-- how a reader and a writer are left by a refusal of an answer: a device is blamed for one failed call, and only then; and
-- where it does not blame the writer, a refusal leaves nothing written. There is no trace to blame
abbrev pub IsUnansweredBy : {R W : Type 0} → (R → Option (List ℕ)) → (W → Option (List ℕ)) → (most : ℕ)
    → (reader reader_new : Counted R) → (writer writer_new : Counted W)
    → (IsText : (input text : List ℕ) → Type 0) → Refusal → Type 0
IsUnansweredBy remaining contents most r r' w w' IsText Open = ⊥
IsUnansweredBy remaining contents most r r' w w' IsText Read = HasNoReply 1 remaining most r r' w w'
IsUnansweredBy remaining contents most r r' w w' IsText Memory = HasNoReply 0 remaining most r r' w w'
IsUnansweredBy remaining contents most r r' w w' IsText Thread = HasNoReply 0 remaining most r r' w w'
IsUnansweredBy remaining contents most r r' w w' IsText Write = HasReplyBegun remaining contents most r r' w w' IsText
IsUnansweredBy remaining contents most r r' w w' IsText Trace = ⊥

-- how a program that makes its whole text before it writes leaves reader and writer, by the line that it ends with:
-- without a reader, and only then, opening is blamed
abbrev pub IsRepliedWith : {R W : Type 0} → (R → Option (List ℕ)) → (W → Option (List ℕ)) → (most : ℕ)
    → (reader reader_new : Option (Counted R)) → (writer writer_new : Counted W)
    → (IsText : (input text : List ℕ) → Type 0) → Line → Type 0
IsRepliedWith remaining contents most r r' w w' IsText (Refused Open) = HasNoReader r w w'
IsRepliedWith remaining contents most r r' w w' IsText (Refused refusal) =
    HasReader r r' (λ old new. IsUnansweredBy remaining contents most old new w w' IsText refusal)
IsRepliedWith remaining contents most r r' w w' IsText written =
    HasReader r r' (λ old new. HasReplied remaining contents most old new w w' IsText)

-- there is a reader, and it and the writer are left so by a call that reads an input and then writes
abbrev pub HasReaderThatAnswers : {R W : Type 0} → (R → Option (List ℕ)) → (W → Option (List ℕ)) → (most : ℕ)
    → (reader reader_new : Option (Counted R)) → (writer writer_new : Counted W)
    → (All : (input : List ℕ) → (before after : Option (List ℕ)) → Type 0)
    → (Begun : (input : List ℕ) → (before after : Option (List ℕ)) → Type 0) → Result (Unit {0}) Fault → Type 0
HasReaderThatAnswers remaining contents most r r' w w' All Begun result =
    HasReader r r' (λ old new. Answers remaining contents most old new w w' (λ (it : Unit {0}). All) Begun result)

-- how a program on one thread that writes as it runs leaves reader and writer, by the line that it ends with: without
-- a reader, and only then, opening is blamed, and nothing is written
abbrev pub IsAnsweredWith : {R W : Type 0} → (R → Option (List ℕ)) → (W → Option (List ℕ)) → (most : ℕ)
    → (reader reader_new : Option (Counted R)) → (writer writer_new : Counted W)
    → (All : (input : List ℕ) → (before after : Option (List ℕ)) → Type 0)
    → (Begun : (input : List ℕ) → (before after : Option (List ℕ)) → Type 0) → Line → Type 0
IsAnsweredWith remaining contents most r r' w w' All Begun (Refused Open) = HasNoReader r w w'
IsAnsweredWith remaining contents most r r' w w' All Begun Nothing =
    HasReaderThatAnswers remaining contents most r r' w w' All Begun (Ok tt)
IsAnsweredWith remaining contents most r r' w w' All Begun (Refused Read) =
    HasReaderThatAnswers remaining contents most r r' w w' All Begun (Err fault.Read)
IsAnsweredWith remaining contents most r r' w w' All Begun (Refused Memory) =
    HasReaderThatAnswers remaining contents most r r' w w' All Begun (Err fault.Memory)
IsAnsweredWith remaining contents most r r' w w' All Begun (Refused Write) =
    HasReaderThatAnswers remaining contents most r r' w w' All Begun (Err fault.Write)
IsAnsweredWith remaining contents most r r' w w' All Begun other = ⊥
