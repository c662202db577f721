-- The answer of a run, and the machine in order.
use Rattle.std.specs.Prelude.{⊤, ◌≡◌, ◌≤◌, ◌<◌, ◌%◌, ◌^◌, ℕ}
use Rattle.instructions.specs.declared.end.End.{End}
use Rattle.instructions.specs.declared.end.Ending.{Ending}
use Rattle.instructions.specs.declared.end.Ending.TheVariants.{Limit, Stop as ByStop}
use Rattle.instructions.specs.Programs.{Program}
use Rattle.instructions.specs.Settings.{Settings}
use Rattle.back.specs.Ends.{EndIsInOrder}
use Rattle.committing.specs.declared.ends.Run.{Run}
use Rattle.committing.specs.declared.ends.Run.TheVariants.{Ended, LimitReached, Refused}
use Rattle.counts.specs.declared.tally.Tally.{Tally}

-- A stop has ended the run, and not the limit
abbrev pub IsStopEnding : Ending → Type 0
IsStopEnding (ByStop code) = ⊤
IsStopEnding Limit = ⊥

-- The registers, memory and pc are those of the machine in order after n instructions, as many as retired
pub record IsAfter (P : Program) (end : End) (tally : Tally) : Type 0 where
  pub in_order : EndIsInOrder P end
  pub retires : tally.retires ≡ end.n

-- Where the run has ended, the machine in order stops there, with this code
abbrev pub RunIsRight : Program → Run → Type 0
RunIsRight P (Ended end tally) = IsAfter P end tally × IsStopEnding end.outcome
RunIsRight P (LimitReached end tally) = IsAfter P end tally × (end.outcome ≡ Limit)
RunIsRight P (Refused why) = ⊤

-- A run that has ended had not come to the limit, and no run has gone past the limit
abbrev pub IsWithinLimit : (limit : ℕ) → Run → Type 0
IsWithinLimit limit (Ended end tally) = end.n < limit
IsWithinLimit limit (LimitReached end tally) = end.n ≤ limit
IsWithinLimit limit (Refused why) = ⊤

-- Each instruction took the commit thread a turn
abbrev pub TakesTurns : (turns : ℕ) → Run → Type 0
TakesTurns turns (Ended end tally) = end.n ≤ turns
TakesTurns turns (LimitReached end tally) = end.n ≤ turns
TakesTurns turns (Refused why) = ⊤

-- All that holds of a run of this program that is configured so
pub record HasRun (P : Program) (config : Settings) (run : Run) : Type 0 where
  pub right : RunIsRight P run
  pub within : IsWithinLimit config.limit run
  pub turns : TakesTurns config.turns run

-- The tally has n renewals
abbrev pub TellsRenewals : (times : ℕ) → Run → Type 0
TellsRenewals times (Ended end tally) = tally.renewals ≡ times % 2 ^ 64
TellsRenewals times (LimitReached end tally) = tally.renewals ≡ times % 2 ^ 64
TellsRenewals times (Refused why) = ⊤
