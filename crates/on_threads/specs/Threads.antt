-- How a run on several threads ends.
use Rattle.std.specs.Prelude.{Option, Some, None}
use Rattle.instructions.specs.declared.end.End.{End}
use Rattle.counts.specs.declared.tally.Tally.{Tally as Totals}
use Rattle.committing.specs.declared.ends.Refusal.{Refusal as RunRefusal}
use Rattle.committing.specs.declared.ends.Refusal.TheVariants as refusal
use Rattle.committing.specs.declared.ends.Run.{Run}
use Rattle.committing.specs.declared.ends.Run.TheVariants as run
use Rattle.command_line.specs.declared.exit.Refusal.{Refusal}
use Rattle.command_line.specs.declared.exit.Refusal.TheVariants.{Memory, Thread}

-- what is refused by the threads
abbrev pub run_refusal : RunRefusal → Refusal
run_refusal refusal.Memory = Memory
run_refusal refusal.Thread = Thread

-- the end and the tally of a run on several threads, if it had all that it wanted
abbrev pub ended_of : Run → Option (End × Totals)
ended_of (run.Ended end totals) = Some (end, totals)
ended_of (run.LimitReached end totals) = Some (end, totals)
ended_of (run.Refused why) = None
