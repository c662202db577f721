-- What is told where a unit is driven by hand.
use Rattle.std.specs.Prelude.{◌≡◌, ◌⊎◌, ◌<◌, ℕ, min, Bool, true, false, List, Option, None, Some, Result, Ok, Err, length, take}
use Rattle.std.specs.Io.KnownBytes.{Appends}
use Rattle.isa.specs.declared.listing.fault.FaultKind.{FaultKind}
use Rattle.instructions.specs.Programs.{Program}
use Rattle.isa.specs.Report.{fault_line}
use Rattle.session.specs.Sessions.{IsStartOfSession, TheSession}
use Rattle.session.specs.Plays.{HasPlayedPart, IsPlayed}
use Rattle.session.specs.Scripts.{HasBroken, HasDriven, HasTold}
use Rattle.command_line.specs.declared.request.ByHand.{ByHand}

-- how many commands a seed chooses at most
abbrev pub most_chosen : ByHand → ℕ
most_chosen hand = min hand.steps 1000000

-- all commands were answered: those of a script, each line of which is a command or not, or those that a seed chooses
abbrev pub AreAnswered : Option ℕ → (steps : ℕ) → (echo : Bool) → (first last : TheSession)
    → (script before after : Option (List ℕ)) → (each : Bool) → Type 0
AreAnswered None steps echo first last script before after each = HasDriven echo script first last before after each
AreAnswered (Some seed) steps echo first last script before after each = IsPlayed steps first last before after × (each ≡ true)

-- the status, which tells whether each line of a script was a command
abbrev pub script_status : Bool → ℕ
script_status true = 0
script_status false = 1

-- some commands of a script were answered; of those that a seed chooses nothing was written
abbrev pub AreSomeAnswered : Option ℕ → (echo : Bool) → (first : TheSession)
    → (script before after : Option (List ℕ)) → Type 0
AreSomeAnswered None echo first script before after = HasTold echo script first before after
AreSomeAnswered (Some seed) echo first script before after = after ≡ before

-- some commands were answered, and of the answer to one more a proper beginning was written
abbrev pub IsAnswerBroken : Option ℕ → (steps : ℕ) → (echo : Bool) → (first : TheSession)
    → (script before after : Option (List ℕ)) → Type 0
IsAnswerBroken None steps echo first script before after = HasBroken echo script first before after
IsAnswerBroken (Some seed) steps echo first script before after = HasPlayedPart steps first before after

-- all commands of a script were answered, for a program from its start on
pub record IsTranscriptOf (hand : ByHand) (P : Program) (status : ℕ) (script before after : Option (List ℕ)) :
    Type 0 where
  pub each : Bool
  pub status_is : status ≡ script_status each
  pub first : TheSession
  pub last : TheSession
  pub starts : IsStartOfSession P hand.config first
  pub driven : AreAnswered hand.seed (most_chosen hand) hand.echo first last script before after each

-- what is told for a listing and a script: a transcript, or the fault of the listing
abbrev pub IsDriven : ByHand → Result Program (ℕ × FaultKind) → (status : ℕ)
    → (script before after : Option (List ℕ)) → Type 0
IsDriven hand (Ok P) status script before after = IsTranscriptOf hand P status script before after
IsDriven hand (Err f) status script before after =
    (status ≡ 2) × Appends before after (fault_line f.0 f.1)

-- some commands were answered, and no other
pub record HasToldSome (hand : ByHand) (P : Program) (script before after : Option (List ℕ)) : Type 0 where
  pub first : TheSession
  pub starts : IsStartOfSession P hand.config first
  pub told : AreSomeAnswered hand.seed hand.echo first script before after

-- what was written where reading, or memory, came to an end too early
abbrev pub WasBrokenOff : ByHand → Result Program (ℕ × FaultKind) → (script before after : Option (List ℕ)) → Type 0
WasBrokenOff hand (Ok P) script before after = (after ≡ before) ⊎ HasToldSome hand P script before after
WasBrokenOff hand (Err f) script before after = after ≡ before

-- some commands were answered, and of the answer to one more a proper beginning was written
pub record HasBrokenOff (hand : ByHand) (P : Program) (script before after : Option (List ℕ)) : Type 0 where
  pub first : TheSession
  pub starts : IsStartOfSession P hand.config first
  pub broken : IsAnswerBroken hand.seed (most_chosen hand) hand.echo first script before after

-- a proper beginning of a text was written
pub record IsPart (text : List ℕ) (before after : Option (List ℕ)) : Type 0 where
  pub count : ℕ
  pub part : count < length text
  pub written : Appends before after (take count text)

-- what was written where the writer failed
abbrev pub IsBroken : ByHand → Result Program (ℕ × FaultKind) → (script before after : Option (List ℕ)) → Type 0
IsBroken hand (Ok P) script before after = HasBrokenOff hand P script before after
IsBroken hand (Err f) script before after = IsPart (fault_line f.0 f.1) before after
