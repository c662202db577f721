-- What is told of a listing.
use Rattle.std.specs.Prelude.{◌≡◌, ◌≤◌, ◌<◌, ℕ, Bool, true, false, Result, Ok, Err, List, Some, String, string_bytes}
use Rattle.std.specs.declared.alloc.Global.{Global}
use Rattle.instructions.specs.declared.end.Ending.{Ending}
use Rattle.instructions.specs.declared.end.Ending.TheVariants.{Limit}
use Rattle.isa.specs.declared.listing.fault.FaultKind.{FaultKind}
use Rattle.isa.specs.Listing.{listing}
use Rattle.instructions.specs.Programs.{Program}
use Rattle.isa.specs.Report.{fault_line}
use Rattle.instructions.specs.Settings.{Settings}
use Rattle.inorder.specs.Machine.{State}
use Rattle.inorder.specs.Runs.{after, end_of}
use Rattle.answers.specs.Answer.{ending_status, report_of_run, status_of, text_of}
use Rattle.answers.specs.declared.outcome.Status.TheVariants.{TextFault}
use Rattle.command_line.specs.declared.request.Asked.{Asked}
use Rattle.command_line.specs.declared.exit.Exit.{Exit}
use Rattle.command_line.specs.declared.exit.Line.{Line}
use Rattle.command_line.specs.declared.exit.Line.TheVariants.{Nothing, Tally, Refused}
use Rattle.answers.specs.Answer.{status_number}
use Rattle.on_threads.specs.Runs.{written_run}

-- a run on several threads that had no turn left: it says limit after some steps of the machine in order, and
-- might have made more
pub record EndedEarly (limit : ℕ) (P : Program) (ending : Ending) (state : State) : Type 0 where
  pub outcome : ending ≡ Limit
  pub reached : after P state.count ≡ Some state
  pub below : state.count < limit

-- the end of a run on several threads: that of a run on one thread, or an early one
pub data IsEndOfThreads (limit : ℕ) (P : Program) (ending : Ending) (state : State) : Type 0 where
  AsAlone : ◌≡◌ {A = Ending × State} (ending, state) (end_of P limit) → IsEndOfThreads limit P ending state
  Early : EndedEarly limit P ending state → IsEndOfThreads limit P ending state

-- how and where a run ends: on one thread as the machine in order does that may make n steps; on several
-- threads, each of which has a number of turns, as above
abbrev pub IsRunEnd : (is_alone : Bool) → Settings → Program → Ending → State → Type 0
IsRunEnd true config P ending state = ◌≡◌ {A = Ending × State} (ending, state) (end_of P config.limit)
IsRunEnd false config P ending state =
    IsEndOfThreads config.limit P ending state × (state.count ≤ config.turns)

-- the line that comes with a report of n instructions
abbrev pub IsLineWith : (is_alone : Bool) → (count : ℕ) → Line → Type 0
IsLineWith true count line = line ≡ Nothing
IsLineWith false count Nothing = ⊥
IsLineWith false count (Tally totals) = totals.retires ≡ count
IsLineWith false count (Refused refusal) = ⊥

-- the text is the report of an end that the program may have, with its status and line
pub record IsReport (asked : Asked) (P : Program) (text : List ℕ) (exit : Exit) : Type 0 where
  pub ending : Ending
  pub state : State
  pub is : IsRunEnd asked.alone asked.config P ending state
  pub report : text ≡ report_of_run (ending, state)
  pub status : exit.status ≡ status_number (ending_status ending)
  pub line : IsLineWith asked.alone state.count exit.line

-- what is told of a listing that was read: the report of its program, or the line of its fault
abbrev pub IsTold : Asked → Result Program (String Global) → List ℕ → Exit → Type 0
IsTold asked (Ok P) text exit = IsReport asked P text exit
IsTold asked (Err line) text exit = (text ≡ string_bytes line) × (exit ≡ written_run TextFault Nothing)

-- what is told of the program of a listing, or of its fault
abbrev pub IsAnswerFor : Asked → Result Program (ℕ × FaultKind) → List ℕ → Exit → Type 0
IsAnswerFor asked (Ok P) text exit = IsReport asked P text exit
IsAnswerFor asked (Err f) text exit = (text ≡ fault_line f.0 f.1) × (exit ≡ written_run TextFault Nothing)

-- the text goes with what is told of the bytes of a listing
abbrev pub IsAnswerTo : Asked → Exit → (bytes text : List ℕ) → Type 0
IsAnswerTo asked exit bytes text = IsAnswerFor asked (listing bytes) text exit

-- the text goes with something that may be told of the bytes of a listing
abbrev pub IsSomeAnswerTo : Asked → (bytes text : List ℕ) → Type 0
IsSomeAnswerTo asked bytes text = (exit : Exit) × IsAnswerTo asked exit bytes text

-- the text goes with how a run went that tells this line: with some answer where it was refused
abbrev pub IsAnswerBy : Line → Asked → Exit → (bytes text : List ℕ) → Type 0
IsAnswerBy (Refused refusal) asked exit bytes text = IsSomeAnswerTo asked bytes text
IsAnswerBy written asked exit bytes text = IsAnswerTo asked exit bytes text

-- P of the text that the one-thread unit has for the bytes of a listing, and its status
pub record IsAsAlone (limit : ℕ) (bytes : List ℕ) (exit : Exit) (P : List ℕ → Type 0) : Type 0 where
  pub status : exit.status ≡ status_number (status_of limit bytes)
  pub holds : P (text_of limit bytes)
