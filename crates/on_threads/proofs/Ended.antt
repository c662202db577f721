-- How a run ends whose listing was answered, or not.
use Rattle.std.proofs.Common.{◌≡◌, ℕ, List, Option, Some, refl, subst, sym}
use Rattle.answers.specs.Answer.{most_taken}
use Rattle.counted_io.specs.Replies.{HasReplied}
use Rattle.counted_io.specs.declared.counted.Counted.{Counted}
use Rattle.command_line.specs.Answered.{IsRepliedWith, IsUnansweredBy}
use Rattle.command_line.specs.Exits.{refused}
use Rattle.command_line.specs.declared.exit.Exit.{Exit}
use Rattle.command_line.specs.declared.exit.Line.{Line}
use Rattle.command_line.specs.declared.exit.Line.TheVariants.{Nothing, Tally, Refused}
use Rattle.command_line.specs.declared.exit.Refusal.{Refusal}
use Rattle.command_line.specs.declared.exit.Refusal.TheVariants.{Open, Read, Memory, Thread, Write, Trace}
use Rattle.command_line.specs.declared.request.Asked.{Asked}
use Rattle.on_threads.specs.Answers.{IsAnswerBy, IsAnswerTo, IsSomeAnswerTo}
use Rattle.on_threads.specs.Runs.{WasWritten}

module _ {R W : Type 0} (remaining : R → Option (List ℕ)) (contents : W → Option (List ℕ)) (r r' : Counted R) (w w' : Counted W)
    (asked : Asked) (reader reader' : Option (Counted R)) (exit : Exit) (was : reader ≡ Some r) (is : reader' ≡ Some r') where
  -- the answer was written
  pub with_answer : WasWritten exit.line → HasReplied remaining contents most_taken r r' w w' (IsAnswerTo asked exit)
      → IsRepliedWith remaining contents most_taken reader reader' w w' (IsAnswerBy exit.line asked exit) exit.line
  with_answer written h = go exit.line written
    where
      go : (line : Line) → WasWritten line
          → IsRepliedWith remaining contents most_taken reader reader' w w' (IsAnswerBy line asked exit) line
      go Nothing written = record { old = r; new = r'; was = was; is = is; holds = h }
      go (Tally totals) written = record { old = r; new = r'; was = was; is = is; holds = h }
      go (Refused refusal) written = absurd written

  -- there is none
  pub with_refusal : (refusal : Refusal) → exit ≡ refused refusal
      → IsUnansweredBy remaining contents most_taken r r' w w' (IsSomeAnswerTo asked) refusal
      → IsRepliedWith remaining contents most_taken reader reader' w w' (IsAnswerBy exit.line asked exit) exit.line
  with_refusal refusal same h =
      subst (λ (e : Exit). IsRepliedWith remaining contents most_taken reader reader' w w' (IsAnswerBy e.line asked e) e.line)
      (sym same) (go refusal h)
    where
      go : (refusal : Refusal) → IsUnansweredBy remaining contents most_taken r r' w w' (IsSomeAnswerTo asked) refusal
          → IsRepliedWith remaining contents most_taken reader reader' w w' (IsSomeAnswerTo asked) (Refused refusal)
      go Open h = absurd h
      go Read h = record { old = r; new = r'; was = was; is = is; holds = h }
      go Memory h = record { old = r; new = r'; was = was; is = is; holds = h }
      go Thread h = record { old = r; new = r'; was = was; is = is; holds = h }
      go Write h = record { old = r; new = r'; was = was; is = is; holds = h }
      go Trace h = absurd h
