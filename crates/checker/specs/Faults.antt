-- The faults of a listing of which there are diagnostics.
use Rattle.std.specs.Prelude.{◌≡◌, ◌≤◌, ◌+◌, ◌==◌, ◌&&◌, ◌||◌, ℕ, Bool, not, nat_lt, if◌then◌else◌}
use Rattle.std.specs.Prelude.{List, [], ◌∷◌, ◌++◌, length, take, Option, Some, None, Result, Ok, Err}
use Rattle.lexical.specs.Name.{is_plain_text}
use Rattle.lexical.specs.Label.{statement_of}
use Rattle.lexical.specs.Line.{before_comment, lines_of}
use Rattle.isa.specs.declared.listing.fault.FaultKind.{FaultKind}
use Rattle.isa.specs.declared.listing.fault.FaultKind.TheVariants.{NotAscii, DoubleLabel, TooLong, UnknownLabel}
use Rattle.isa.specs.declared.listing.fault.LineFault.{LineFault}
use Rattle.isa.specs.declared.listing.fault.Marked.{Marked}
use Rattle.isa.specs.declared.listing.spot.Spot.{Spot}
use Rattle.isa.specs.declared.listing.spot.Spot.TheVariants.{Target, Whole}
use Rattle.isa.specs.Held.{label_of}
use Rattle.isa.specs.Listing.{Lines, labels, all_labels, read, stands_in, is_double}
use Rattle.isa.specs.Spots.{double_spot, statement_spot}
use Rattle.isa.specs.Statement.{Line}
use Rattle.checker.specs.Keys.{AreNames}
use Rattle.checker.specs.declared.faults.Seen.{Seen}

-- ---- one line after others

-- what lines have: their labels, and how many instructions and bytes of data those of them have that are read without a fault
pub record Sight : Type 0 where
  pub names : Lines
  pub instructions : ℕ
  pub bytes : ℕ

-- what the code holds
pub record IsSeen (seen : Seen) (s : Sight) : Type 0 where
  pub names : AreNames seen.names s.names
  pub instructions : seen.instructions ≡ s.instructions
  pub bytes : seen.bytes ≡ s.bytes

-- what the code holds is no more than a listing may have
abbrev pub IsSmall : Seen → Type 0
IsSmall seen = (seen.instructions ≤ 16384) × (seen.bytes ≤ 65536)

-- a fault in a part of a line
abbrev pub faulty : FaultKind → Spot → Option LineFault
faulty kind at = Some (record { kind = kind; at = at })

-- a label that a statement names and no line has
abbrev pub unknown : (all : Lines) → Option (List ℕ) → Option LineFault
unknown all None = None
unknown all (Some name) = if stands_in all name then None else faulty UnknownLabel Target

-- how much there is with a statement
abbrev pub with_line : Sight → Line → Sight
with_line s l =
    record { names = s.names; instructions = s.instructions + length l.code; bytes = s.bytes + length l.bytes }

-- whether that is too much
abbrev pub is_too_long : Sight → Bool
is_too_long s = nat_lt 16384 s.instructions || nat_lt 65536 s.bytes

-- the fault of a statement, in a listing with all these labels, and what the lines have with it
abbrev pub after_statement : (all : Lines) → Sight → (text : List ℕ) → Result Line FaultKind → Option LineFault × Sight
after_statement all s text (Err kind) = (faulty kind (statement_spot text), s)
after_statement all s text (Ok l) =
    if is_too_long (with_line s l) then (faulty TooLong Whole, s) else (unknown all (label_of l.code), with_line s l)

-- what lines have with the labels of one more
abbrev pub with_labels : Sight → List ℕ → Sight
with_labels s line = record { names = s.names ++ labels line; instructions = s.instructions; bytes = s.bytes }

-- the fault of a line, and what the lines have with it
abbrev pub after_line : (all : Lines) → Sight → (line : List ℕ) → Option LineFault × Sight
after_line all s line =
    if not (is_plain_text (before_comment line)) then (faulty NotAscii Whole, with_labels s line)
    else (if is_double s.names (labels line)
    then (faulty DoubleLabel (double_spot 0 s.names (labels line)), with_labels s line)
    else after_statement all (with_labels s line) (statement_of (before_comment line)) (read line))

-- the fault that was found, and what the code holds after it
abbrev pub IsStep : Option LineFault → Seen → Option LineFault × Sight → Type 0
IsStep fault seen step = (fault ≡ step.0) × IsSeen seen step.1

-- ---- all lines

-- the fault of line n, if there is one
abbrev pub numbered : ℕ → Option LineFault → List Marked
numbered n None = []
numbered n (Some f) = record { fault = record { line = n; kind = f.kind }; at = f.at } ∷ []

-- the first fault of each line, in the order of the lines, of which the first is line n
abbrev pub faults_from : (all : Lines) → ℕ → Sight → Lines → List Marked
faults_from all n s [] = []
faults_from all n s (l ∷ ls) =
    numbered n (after_line all s l).0 ++ faults_from all (n + 1) (after_line all s l).1 ls

-- the first fault of each line of a listing
unfoldable pub all_faults : Lines → List Marked
all_faults ls = faults_from (all_labels ls) 1 (record { names = []; instructions = 0; bytes = 0 }) ls

-- the most faults that are shown
abbrev pub most_faults : ℕ
most_faults = 200

-- ---- the faults that are chosen

-- whether the faults of all lines are wanted, and not one alone
abbrev pub are_wanted : (all : Bool) → Marked → Bool
are_wanted all marked = all && not (marked.fault.line == 0)

-- the faults that are shown of a listing with this first fault
abbrev pub AreChosen : (all : Bool) → List ℕ → Marked → List Marked → Type 0
AreChosen all bytes marked chosen =
    chosen ≡ (if are_wanted all marked then take most_faults (all_faults (lines_of bytes)) else marked ∷ [])
