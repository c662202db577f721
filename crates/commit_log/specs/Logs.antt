-- The log of the in-order machine.
use Rattle.std.specs.Prelude.{◌≡◌, ℕ, zero, suc, ◌%◌, ◌==◌, nat_lt, List, [], ◌++◌, Option, Some, None, Result, Ok, Err, slice_index, if◌then◌else◌}
use Rattle.std.specs.Io.KnownBytes.{Appends}
use Rattle.instructions.specs.Instruction.{first_of}
use Rattle.instructions.specs.Operations.{sum}
use Rattle.instructions.specs.Programs.{Program, instr_at}
use Rattle.instructions.specs.declared.end.Ending.{Ending}
use Rattle.instructions.specs.declared.instr.Instr.{Instr}
use Rattle.instructions.specs.declared.stop.Stop.{Stop}
use Rattle.isa.specs.declared.listing.fault.FaultKind.{FaultKind}
use Rattle.isa.specs.Report.{fault_line}
use Rattle.inorder.specs.Machine.{Goes, Halts, Ran, State, start, step}
use Rattle.inorder.specs.Runs.{end_of}
use Rattle.answers.specs.Answer.{status_for, status_number}
use Rattle.command_line.specs.declared.logged.Logged.{Logged}
use Rattle.commit_log.specs.Lines.{commit_line, hash_line, limit_line, stop_line}

-- the address that an instruction accesses, if it is a load or store
abbrev pub address_of : State → Instr → ℕ
address_of s i = sum (slice_index s.registers (first_of i)) i.number

-- The line that is asked for of an instruction at pc, with the state after it: none before the first that is wanted; else
-- its own, or a hash after each N.
abbrev pub line_of : Logged → (pc : ℕ) → Instr → (address : ℕ) → State → List ℕ
line_of asked pc i address t =
    if nat_lt t.count asked.from then []
    else (if asked.hash == 0 then commit_line asked.text pc i address t.registers
    else (if t.count % asked.hash == 0 then hash_line t else []))

-- the line of the step from a state to the next one
abbrev pub line_of_step : Logged → State → Option Instr → State → List ℕ
line_of_step asked s None t = []
line_of_step asked s (Some i) t = line_of asked s.pc i (address_of s i) t

-- the line of the step from a state that stops
abbrev pub line_of_stop : State → Option Instr → Stop → List ℕ
line_of_stop s None c = stop_line s.pc c 0
line_of_stop s (Some i) c = stop_line s.pc c (address_of s i)

-- the log of a step from a state and of the steps after it
abbrev pub log_after : Logged → (State → List ℕ) → State → Option Instr → Ran → List ℕ
log_after asked rest s i (Goes t) = line_of_step asked s i t ++ rest t
log_after asked rest s i (Halts c) = line_of_stop s i c

-- the log of at most k steps from a state on
abbrev pub log_from : Logged → Program → ℕ → State → List ℕ
log_from asked P zero s = limit_line s.pc
log_from asked P (suc k) s = log_after asked (log_from asked P k) s (instr_at P s.pc) (step P s)

-- the log of a program
abbrev pub log : Logged → Program → List ℕ
log asked P = log_from asked P asked.limit (start P)

-- the text for a program, or for the fault of a listing
abbrev pub log_for : Logged → Result Program (ℕ × FaultKind) → List ℕ
log_for asked (Ok P) = log asked P
log_for asked (Err f) = fault_line f.0 f.1

-- the log was written whole, or the line of the fault of a listing, with the status of the run
pub record IsLogOf (asked : Logged) (found : Result Program (ℕ × FaultKind)) (status : ℕ) (before after : Option (List ℕ)) : Type 0 where
  pub status_is : status ≡ status_number (status_for asked.limit found)
  pub says : Appends before after (log_for asked found)

-- the log of a program was written whole, and the run has ended so
pub record IsLogOfRun (asked : Logged) (P : Program) (ending : Ending) (before after : Option (List ℕ)) : Type 0 where
  pub ends : ending ≡ (end_of P asked.limit).0
  pub says : Appends before after (log asked P)
