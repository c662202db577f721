-- What is written for a listing, and what its status is.
use Rattle.std.specs.Prelude.{◌≡◌, ℕ, List, Result, Ok, Err}
use Rattle.instructions.specs.declared.stop.Stop.TheVariants.{Break as BreakStop}
use Rattle.instructions.specs.declared.end.Ending.{Ending}
use Rattle.instructions.specs.declared.end.Ending.TheVariants.{Stop as ByStop, Limit as ByLimit}
use Rattle.isa.specs.declared.listing.fault.FaultKind.{FaultKind}
use Rattle.instructions.specs.Programs.{Program}
use Rattle.isa.specs.Listing.{listing}
use Rattle.isa.specs.Report.{report, fault_line}
use Rattle.inorder.specs.Machine.{State}
use Rattle.inorder.specs.Runs.{end_of}
use Rattle.answers.specs.declared.outcome.Status.{Status}
use Rattle.answers.specs.declared.outcome.Status.TheVariants.{Break, Stopped, TextFault, Limit}

-- the most bytes that are taken from a reader: one more than a listing may have
abbrev pub most_taken : ℕ
most_taken = 4194305

-- the report of a run
abbrev pub report_of_run : Ending × State → List ℕ
report_of_run e = report e.0 e.1.count e.1.pc e.1.registers e.1.memory

-- the text for a program that may run n instructions, or for the fault of a listing
abbrev pub text_for : (limit : ℕ) → Result Program (ℕ × FaultKind) → List ℕ
text_for limit (Ok P) = report_of_run (end_of P limit)
text_for limit (Err f) = fault_line f.0 f.1

-- the text that is written for the bytes of a listing
unfoldable pub text_of : (limit : ℕ) → List ℕ → List ℕ
text_of limit bytes = text_for limit (listing bytes)

-- the status of a run by how it ended
abbrev pub ending_status : Ending → Status
ending_status (ByStop BreakStop) = Break
ending_status (ByStop _) = Stopped
ending_status ByLimit = Limit

-- the exit status of a program, by what a listing came to
abbrev pub status_number : Status → ℕ
status_number Break = 0
status_number Stopped = 1
status_number TextFault = 2
status_number Limit = 4

-- the status for a program that may run n instructions, or for the fault of a listing
abbrev pub status_for : (limit : ℕ) → Result Program (ℕ × FaultKind) → Status
status_for limit (Ok P) = ending_status (end_of P limit).0
status_for limit (Err f) = TextFault

-- the status for the bytes of a listing
unfoldable pub status_of : (limit : ℕ) → List ℕ → Status
status_of limit bytes = status_for limit (listing bytes)

-- the status and the text for the bytes of a listing
pub record IsAnswerAlone (limit : ℕ) (status : Status) (bytes text : List ℕ) : Type 0 where
  pub status_is : status ≡ status_of limit bytes
  pub text_is : text ≡ text_of limit bytes

-- the text for the bytes of a listing, with some status
abbrev pub HasAnAnswer : (limit : ℕ) → (bytes text : List ℕ) → Type 0
HasAnAnswer limit bytes text = (status : Status) × IsAnswerAlone limit status bytes text
