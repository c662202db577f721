-- What the calls from C answer.
use Rattle.std.specs.Prelude.{⊤, ◌≡◌, ◌≢◌, ◌==◌, ◌/◌, ℕ, ℤ, pos, List, Option, None, Some, Result, Ok, Err, if◌then◌else◌}
use Rattle.events.specs.declared.event.Issue.{Issue}
use Rattle.events.specs.declared.event.Issue.TheVariants.{Ambiguous, Dispatch, Execute}
use Rattle.instructions.specs.Programs.{Program}
use Rattle.isa.specs.declared.listing.fault.FaultKind.{FaultKind}
use Rattle.ruu_judge.specs.declared.held.Answer.{Answer}
use Rattle.ruu_judge.specs.declared.held.Answer.TheVariants.{Legal, Refused, Unread, NoMemory, Ended}
use Rattle.ruu_judge.specs.declared.held.Found.TheVariants.{Legal as FoundLegal}
use Rattle.ruu_judge.specs.declared.held.Held.{Held}
use Rattle.ruu_judge.specs.declared.making.NotMade.{NotMade}
use Rattle.ruu_judge.specs.declared.making.NotMade.TheVariants.{Fault, Memory}
use Rattle.ruu_judge.specs.declared.owned.OwnedUnit.{OwnedUnit}
use Rattle.ruu_judge.specs.Answers.{IsAnswer, IsAsBefore}
use Rattle.ruu_judge.specs.Units.{IsNewUnit}

-- The program of a listing, or its first fault with its line
abbrev pub Listing : Type 0
Listing = Result Program (ℕ × FaultKind)

-- The number of an answer to a line
abbrev pub answer_number : Answer → ℤ
answer_number Legal = pos 0
answer_number Refused = pos 1
answer_number Unread = pos 4
answer_number NoMemory = pos 5
answer_number Ended = pos 6

-- A judge before the first event of the unit of a listing's program
pub record IsMade (found : Listing) (stations queue : ℕ) (h : Held) : Type 0 where
  pub program : Program
  pub unit : OwnedUnit
  pub listing : found ≡ Ok program
  pub is : h.found ≡ FoundLegal unit
  pub new : IsNewUnit program stations queue unit

-- The line is that of the first fault
pub record IsFault (found : Listing) (line : ℕ) : Type 0 where
  pub kind : FaultKind
  pub is : found ≡ Err (line, kind)

-- Why there is no judge of a listing
abbrev pub IsNotMade : Listing → NotMade → Type 0
IsNotMade found (Fault line) = IsFault found line
IsNotMade found Memory = ⊤

-- What flags say that `issue` means
abbrev pub issue_by : ℕ → Issue
issue_by flags = if flags / 4 == 1 then Dispatch else if flags / 4 == 2 then Execute else Ambiguous

-- A judge is laid into a place that was empty
pub record IsLaid (found : Listing) (stations queue flags : ℕ) (old new : Option Held) : Type 0 where
  pub empty : old ≡ None
  pub held : Held
  pub is : new ≡ Some held
  pub made : IsMade found stations queue held
  pub issue : held.rules.issue ≡ issue_by flags

-- What the making of a judge answers
pub record HasMade (found : Listing) (stations queue flags : ℕ) (old : Option Held) (answer : ℤ)
    (line : ℕ) (new : Option Held) : Type 0 where
  pub laid : answer ≡ pos 0 → IsLaid found stations queue flags old new
  pub fault : answer ≡ pos 2 → IsFault found line
  pub kept : answer ≢ pos 0 → new ≡ old

-- A judge has answered a line
pub record IsTold (h : Held) (line : List ℕ) (number : ℤ) (new : Option Held) : Type 0 where
  pub answer : Answer
  pub after : Held
  pub says : number ≡ answer_number answer
  pub is : new ≡ Some after
  pub found : IsAnswer h.rules.issue h.found line answer after.found
  pub rules : after.rules ≡ h.rules

-- What the telling of a line answers
abbrev pub HasAnswered : Option Held → (line : List ℕ) → ℤ → Option Held → Type 0
HasAnswered None line number new = (number ≡ pos 3) × (new ≡ None)
HasAnswered (Some h) line number new = IsTold h line number new

-- A judge has found the same
pub record IsKept (h : Held) (new : Option Held) : Type 0 where
  pub after : Held
  pub is : new ≡ Some after
  pub found : IsAsBefore h.found after.found
  pub rules : after.rules ≡ h.rules

-- What the asking for a text leaves
abbrev pub HasKept : Option Held → ℤ → Option Held → Type 0
HasKept None number new = (number ≡ pos 3) × (new ≡ None)
HasKept (Some h) number new = IsKept h new
