-- What is told of a listing that threads have run, from what is known of the end.
use Rattle.std.proofs.Common.{◌≡◌, ◌≤◌, ◌∙◌, ℕ, inl, inr, false, List, refl, ap, sym, subst, arith, Some}
use Rattle.std.proofs.lemmas.Bool.{cases_lt}
use Rattle.counts.specs.declared.tally.Tally.{Tally as Totals}
use Rattle.instructions.specs.declared.end.End.{End}
use Rattle.instructions.specs.declared.end.Ending.{Ending}
use Rattle.instructions.specs.declared.end.Ending.TheVariants.{Limit}
use Rattle.instructions.specs.Programs.{Program}
use Rattle.isa.specs.Report.{report_of}
use Rattle.instructions.specs.Settings.{Settings}
use Rattle.inorder.specs.Runs.{state_in}
use Rattle.answers.specs.Answer.{ending_status}
use Rattle.answers.specs.declared.outcome.Status.{Status}
use Rattle.committing.specs.declared.ends.Run.{Run}
use Rattle.committing.specs.declared.ends.Run.TheVariants as run
use Rattle.committing.specs.RunEnds.{IsAfter, IsWithinLimit, RunIsRight, TakesTurns}
use Rattle.command_line.specs.declared.request.Asked.{Asked}
use Rattle.command_line.specs.declared.exit.Line.TheVariants.{Tally}
use Rattle.on_threads.specs.Answers.{AsAlone, Early, IsRunEnd, IsEndOfThreads, IsLineWith, IsReport}
use Rattle.on_threads.specs.Runs.{written_run}
use Rattle.on_threads.specs.Threads.{ended_of}
use Rattle.command_line.specs.declared.exit.Exit.{Exit}
use Rattle.on_threads.proofs.WholeRuns.{at_a_stop, at_the_limit}

-- what is known of a run on threads that came to its end
record IsKnown (config : Settings) (P : Program) (e : End × Totals) : Type 0 where
  pub is : IsEndOfThreads config.limit P e.0.outcome (state_in e.0)
  pub turns : e.0.n ≤ config.turns
  pub retires : e.1.retires ≡ e.0.n

-- at the limit a run ends as on one thread, and early before it
limit_end : (config : Settings) (P : Program) (end : End) (totals : Totals) → IsAfter P end totals → end.outcome ≡ Limit
    → end.n ≤ config.limit → IsEndOfThreads config.limit P end.outcome (state_in end)
limit_end config P end totals after outcome within =
    elim (cases_lt end.n config.limit) [
      | inl below ↦ Early (record { outcome = outcome; reached = after.in_order.state; below = below })
      | inr above ↦ AsAlone (ap (λ (o : Ending). (o, state_in end)) outcome
          ∙ at_the_limit P end.n config.limit (state_in end) after.in_order.state (omega (arith, within, above)))
    ]

known : (config : Settings) (P : Program) (r : Run) (e : End × Totals) → RunIsRight P r → IsWithinLimit config.limit r
    → TakesTurns config.turns r → ended_of r ≡ Some e → IsKnown config P e
known config P (run.Ended end totals) e right within turns is =
    let same : ◌≡◌ {A = End × Totals} (end, totals) e = cc in
    let order = right.0.in_order in
    subst (λ (o : End × Totals). IsKnown config P o) same (record {
      is = AsAlone (at_a_stop P end.n config.limit (state_in end) end.outcome order.state right.1 order.stops within);
      turns = turns;
      retires = right.0.retires;
    })
known config P (run.LimitReached end totals) e right within turns is =
    let same : ◌≡◌ {A = End × Totals} (end, totals) e = cc in
    subst (λ (o : End × Totals). IsKnown config P o) same (record {
      is = limit_end config P end totals right.0 right.1 within;
      turns = turns;
      retires = right.0.retires;
    })
known config P (run.Refused why) e right within turns is = absurd (grind arith)

-- the report of that end
thread_reports : (asked : Asked) (P : Program) (e : End × Totals) → asked.alone ≡ false → IsKnown asked.config P e
    → IsReport asked P (report_of e.0) (written_run (ending_status e.0.outcome) (Tally e.1))
thread_reports asked P e is known = record {
  ending = e.0.outcome;
  state = state_in e.0;
  is = subst (λ b. IsRunEnd b asked.config P e.0.outcome (state_in e.0)) (sym is) (known.is, known.turns);
  report = refl;
  status = refl;
  line = subst (λ b. IsLineWith b e.0.n (Tally e.1)) (sym is) known.retires;
}

-- the text and what is told where the threads have run a program
pub thread_answers : (asked : Asked) (P : Program) (r : Run) (e : End × Totals)
    (status : Status) (text : List ℕ) (exit : Exit) → asked.alone ≡ false → RunIsRight P r → IsWithinLimit asked.config.limit r
    → TakesTurns asked.config.turns r → ended_of r ≡ Some e → status ≡ ending_status e.0.outcome → text ≡ report_of e.0
    → exit ≡ written_run status (Tally e.1) → IsReport asked P text exit
thread_answers asked P r e status text exit is right within turns ended same reported told =
    rw (reported, told, same) (thread_reports asked P e is (known asked.config P r e right within turns ended))
