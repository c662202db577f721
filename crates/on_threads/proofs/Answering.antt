-- How a listing is answered that was read, and how its devices are left where it is not answered.
use Rattle.std.proofs.Common.{◌≡◌, ◌∙◌, ◌+◌, ℕ, Bool, true, false, List, Option, IfSome, Result, Ok, Err, String, ap, subst, string_bytes, sym}
use Rattle.std.specs.declared.alloc.Global.{Global}
use Rattle.instructions.specs.Programs.{Program}
use Rattle.isa.specs.declared.listing.fault.FaultKind.{FaultKind}
use Rattle.isa.specs.Listing.{listing}
use Rattle.counted_io.proofs.Replied.{not_answered, replied, replied_in_part}
use Rattle.counted_io.specs.Counted.{Gives, GivesPart, failures_of, known_by}
use Rattle.counted_io.specs.Replies.{HasRead, HasReplied, HasReplyBegun}
use Rattle.counted_io.specs.declared.counted.Counted.{Counted}
use Rattle.answers.specs.Answer.{most_taken}
use Rattle.answers.specs.Parsed.{IsParsed}
use Rattle.command_line.specs.Answered.{IsUnansweredBy}
use Rattle.command_line.specs.declared.exit.Exit.{Exit}
use Rattle.command_line.specs.declared.exit.Line.{Line}
use Rattle.command_line.specs.declared.exit.Line.TheVariants.{Nothing, Tally, Refused}
use Rattle.command_line.specs.declared.exit.Refusal.{Refusal}
use Rattle.command_line.specs.declared.exit.Refusal.TheVariants.{Open, Read, Memory, Thread, Write, Trace}
use Rattle.command_line.specs.declared.request.Asked.{Asked}
use Rattle.on_threads.specs.Answers.{IsAnswerFor, IsAnswerTo, IsLineWith, IsSomeAnswerTo, IsTold}
use Rattle.on_threads.specs.Runs.{IsOfRun, WasWritten}

-- a listing was read, and its run refused
pub not_run : {R W : Type 0} (remaining : R → Option (List ℕ)) (contents : W → Option (List ℕ)) (r r' : Counted R) (w : Counted W)
    (A : List ℕ → List ℕ → Type 0) (refusal : Refusal) → IsOfRun refusal → HasRead remaining most_taken r r'
    → IsUnansweredBy remaining contents most_taken r r' w w A refusal
not_run remaining contents r r' w A Open of_run read = absurd of_run
not_run remaining contents r r' w A Read of_run read = absurd of_run
not_run remaining contents r r' w A Memory of_run read = not_answered remaining most_taken r r' w read
not_run remaining contents r r' w A Thread of_run read = not_answered remaining most_taken r r' w read
not_run remaining contents r r' w A Write of_run read = absurd of_run
not_run remaining contents r r' w A Trace of_run read = absurd of_run

-- where a listing is parsed as this, what is told of it answers it
pub told_answers : (asked : Asked) (found : Result Program (String Global)) (listing : Result Program (ℕ × FaultKind))
    (text : List ℕ) (exit : Exit) → IsTold asked found text exit → IsParsed found listing → IsAnswerFor asked listing text exit
told_answers asked (Ok P) listing text exit told is = rw is told
told_answers asked (Err line) listing text exit told is = rw is.is (told.0 ∙ is.says, told.1)

with_report : (is_alone : Bool) (count : ℕ) (line : Line) → IsLineWith is_alone count line → WasWritten line
with_report true count line is = subst WasWritten (sym is) tt
with_report false count Nothing is = absurd is
with_report false count (Tally totals) is = tt
with_report false count (Refused refusal) is = absurd is

-- the line says that the text was written
pub told_line : (asked : Asked) (found : Result Program (String Global)) (text : List ℕ) (exit : Exit) → IsTold asked found text exit
    → WasWritten exit.line
told_line asked (Ok P) text exit told = with_report asked.alone told.state.count exit.line told.line
told_line asked (Err line) text exit told = subst WasWritten (sym (ap (λ (e : Exit). e.line) told.1)) tt

-- a listing was read, and what is told of it was written
pub has_answered : {R W : Type 0} (remaining : R → Option (List ℕ)) (contents : W → Option (List ℕ)) (r r' : Counted R) (w w' : Counted W)
    (asked : Asked) (found : Result Program (String Global)) (text out : List ℕ) (exit : Exit) → IsTold asked found text exit
    → HasRead remaining most_taken r r' → IfSome (known_by remaining r) (λ input. IsParsed found (listing input)) → out ≡ text
    → Gives contents w w' out → failures_of w' ≡ failures_of w → HasReplied remaining contents most_taken r r' w w' (IsAnswerTo asked exit)
has_answered remaining contents r r' w w' asked found text out exit told read parsed =
    replied remaining contents most_taken r r' w w' (λ input. IsParsed found (listing input)) (IsAnswerTo asked exit) text out read parsed
    (λ input is. told_answers asked found (listing input) text exit told is)

-- a listing was read, and a part of what is told of it was written
pub has_begun_answer : {R W : Type 0} (remaining : R → Option (List ℕ)) (contents : W → Option (List ℕ)) (r r' : Counted R) (w w' : Counted W)
    (asked : Asked) (found : Result Program (String Global)) (text out : List ℕ) (exit : Exit) → IsTold asked found text exit
    → HasRead remaining most_taken r r' → IfSome (known_by remaining r) (λ input. IsParsed found (listing input)) → out ≡ text
    → GivesPart contents w w' out → failures_of w' ≡ failures_of w + 1
    → HasReplyBegun remaining contents most_taken r r' w w' (IsSomeAnswerTo asked)
has_begun_answer remaining contents r r' w w' asked found text out exit told read parsed =
    replied_in_part remaining contents most_taken r r' w w' (λ input. IsParsed found (listing input)) (IsSomeAnswerTo asked) text out read parsed
    (λ input is. (exit, told_answers asked found (listing input) text exit told is))
