-- The exit status of a verdict on a text.
use Rattle.std.specs.Prelude.{◌≡◌, ℕ, List}
use Rattle.replay.specs.declared.unit.Unit.{Unit as Held}
use Rattle.events.specs.declared.event.Issue.{Issue}
use Rattle.events.specs.declared.verdict.Verdict.{Verdict}
use Rattle.events.specs.declared.verdict.Verdict.TheVariants.{Legal, Refused, Unread}
use Rattle.events.specs.Text.{IsVerdict}

-- The exit status of a verdict
abbrev pub status_of : Verdict → ℕ
status_of Legal = 0
status_of (Refused refused) = 1
status_of (Unread number why) = 4

-- This is the exit status of the verdict on a text whose events begin at a unit
pub record IsStatus (meant : Issue) (u : Held) (status : ℕ) (text : List ℕ) : Type 0 where
  pub verdict : Verdict
  pub after : Held
  pub is : IsVerdict meant u text verdict after
  pub says : status ≡ status_of verdict
