-- The exit statuses of the program.
use Rattle.std.specs.Prelude.{ℕ, Result, Ok, Err}
use Rattle.counted_io.specs.declared.fault.Fault.{Fault}
use Rattle.answers.specs.Answer.{status_number}
use Rattle.answers.specs.declared.outcome.Status.{Status}

-- of what a listing came to, or of why nothing was run to its end
abbrev pub status_of_run : Result Status Fault → ℕ
status_of_run (Ok status) = status_number status
status_of_run (Err fault) = 5
