-- How a run that a command line asks for went.
use Rattle.std.specs.Prelude.{◌≡◌, ◌≢◌, ℕ, ⊤, Result, Ok, Err}
use Rattle.answers.specs.declared.outcome.Status.{Status}
use Rattle.answers.specs.declared.outcome.Status.TheVariants.{Limit}
use Rattle.counts.specs.declared.tally.Tally.{Tally as Totals}
use Rattle.command_line.specs.declared.exit.Exit.{Exit}
use Rattle.command_line.specs.declared.exit.Line.{Line}
use Rattle.command_line.specs.declared.exit.Line.TheVariants.{Nothing, Tally, Refused}
use Rattle.command_line.specs.declared.exit.Refusal.{Refusal}
use Rattle.command_line.specs.declared.exit.Refusal.TheVariants.{Memory, Thread}
use Rattle.answers.specs.Answer.{status_number}

-- a run whose text was written whole
abbrev pub written_run : Status → Line → Exit
written_run status line = record { status = status_number status; line = line }

-- the line that is told of a run, or of its refusal
abbrev pub line_of : Result Exit Refusal → Line
line_of (Ok exit) = exit.line
line_of (Err refusal) = Refused refusal

-- the whole text was written
abbrev pub WasWritten : Line → Type 0
WasWritten Nothing = ⊤
WasWritten (Tally totals) = ⊤
WasWritten (Refused refusal) = ⊥

-- a run can be refused for want of memory, or of a thread
abbrev pub IsOfRun : Refusal → Type 0
IsOfRun Memory = ⊤
IsOfRun Thread = ⊤
IsOfRun other = ⊥

-- the run came to its end: without threads, at a stop or a fault of the text, or with as many instructions as the limit
-- allows
pub data CameToItsEnd (limit : ℕ) (exit : Exit) : Type 0 where
  WithoutThreads : exit.line ≡ Nothing → CameToItsEnd limit exit
  AtAStop : exit.status ≢ status_number Limit → CameToItsEnd limit exit
  AtTheLimit : (totals : Totals) → exit.line ≡ Tally totals → totals.retires ≡ limit → CameToItsEnd limit exit
