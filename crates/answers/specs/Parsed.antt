-- The outcome of a listing that is read and parsed: its program, or the line of its first fault.
use Rattle.std.specs.Prelude.{◌≡◌, ℕ, List, Result, Ok, Err, String, string_bytes}
use Rattle.std.specs.declared.alloc.Global.{Global}
use Rattle.isa.specs.declared.listing.fault.FaultKind.{FaultKind}
use Rattle.instructions.specs.Programs.{Program}
use Rattle.isa.specs.Report.{fault_line}

-- the line is that of the listing's first fault
pub record HasFaultLine (found : Result Program (ℕ × FaultKind)) (line : List ℕ) : Type 0 where
  pub fault : ℕ × FaultKind
  pub is : found ≡ Err fault
  pub says : line ≡ fault_line fault.0 fault.1

-- a listing has this program, or this is the line of its first fault
abbrev pub IsParsed : Result Program (String Global) → Result Program (ℕ × FaultKind) → Type 0
IsParsed (Ok program) found = found ≡ Ok program
IsParsed (Err line) found = HasFaultLine found (string_bytes line)
