-- What is told of a run on one thread.
use Rattle.std.proofs.Common.{◌≡◌, true, List, ℕ, refl, sym, subst}
use Rattle.answers.specs.Answer.{ending_status}
use Rattle.answers.specs.declared.outcome.Status.{Status}
use Rattle.instructions.specs.declared.end.End.{End}
use Rattle.instructions.specs.Programs.{Program}
use Rattle.isa.specs.Report.{report_of}
use Rattle.inorder.specs.Runs.{end_of, end_state, state_in}
use Rattle.command_line.specs.declared.exit.Line.TheVariants.{Nothing}
use Rattle.command_line.specs.declared.request.Asked.{Asked}
use Rattle.on_threads.specs.Answers.{IsReport, IsRunEnd, IsLineWith}
use Rattle.on_threads.specs.Runs.{written_run}
use Rattle.command_line.specs.declared.exit.Exit.{Exit}

-- the report of a run on one thread
pub alone_reports : (asked : Asked) (P : Program) (end : End) (status : Status) (text : List ℕ) (exit : Exit) → asked.alone ≡ true
    → end_state end ≡ end_of P asked.config.limit → status ≡ ending_status end.outcome → text ≡ report_of end
    → exit ≡ written_run status Nothing → IsReport asked P text exit
alone_reports asked P end status text exit is ends same reported told = rw (reported, told, same) (record {
  ending = end.outcome;
  state = state_in end;
  is = subst (λ b. IsRunEnd b asked.config P end.outcome (state_in end)) (sym is) ends;
  report = refl;
  status = refl;
  line = subst (λ b. IsLineWith b end.n Nothing) (sym is) refl;
})
