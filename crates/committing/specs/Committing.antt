-- The commit thread, as contracts see it.
use Rattle.std.specs.Prelude.{◌≡◌, ◌≢◌, ◌+◌, ◌≤◌, ◌<◌, ℕ, Bool, true, false, None, Option}
use Rattle.atomic_table.specs.Seated.{TableId}
use Rattle.back.specs.Backs.{TheBack, back_state}
use Rattle.counts.specs.declared.tally.Total.TheVariants.{Loads, Renewals, Retires}
use Rattle.counts.specs.Reads.{HoldsAll}
use Rattle.counts.specs.Seats.{Counter}
use Rattle.counts.specs.Shares.{share_of}
use Rattle.hints.specs.Hinted.{TheHinter}
use Rattle.inorder.specs.History.{renewals as renewals_in}
use Rattle.instructions.specs.Settings.{Settings}
use Rattle.committing.specs.declared.ends.Refusal.{Refusal}
use Rattle.station.specs.Renewals.{IsRenewed, seats_of}
use Rattle.station.specs.Seats.{Caller, TheCore}
use Rattle.workers.specs.Deeds.{deeds}
use Rattle.workers.specs.Hinting.{HasHinted}
use Rattle.workers.specs.Turns.{TheTurns}

-- The commit thread: its back, its turns, and what the run would be refused for
pub record TheCommitter : Type 0 where
  pub back : TheBack
  pub turns : TheTurns
  pub wanting : Option Refusal

-- The commit thread with these parts
abbrev pub committer_of : TheBack → TheTurns → Option Refusal → TheCommitter
committer_of back turns wanting = record { back = back; turns = turns; wanting = wanting }

-- The seat is one of these totals, and no other adds to the retirements and the renewals: it has added each retirement
-- once, each load of the back, and each renewal in the history
pub record HasCounted (counts : TableId) (back : TheBack) (count : Counter) : Type 0 where
  pub of : count.of ≡ counts
  pub all : HoldsAll Retires count.shares
  pub retires : (share_of Retires count.shares).added ≡ (back_state back).count
  pub loads : (share_of Loads count.shares).added ≡ deeds Loads back.by back.seen
  pub all_renewals : HoldsAll Renewals count.shares
  pub renewals : (share_of Renewals count.shares).added ≡ renewals_in back.seen

-- The back has not gone past the limit, and where it has ended has not come to the limit; each instruction took a turn
pub record KeepsLimit (limit : ℕ) (back : TheBack) (turns : TheTurns) : Type 0 where
  pub within : (back_state back).count ≤ limit
  pub below : back.ended ≢ None → (back_state back).count < limit
  pub each_turn : (back_state back).count + turns.left ≤ turns.all

-- The commit thread of a run with these totals, configured so, and all that it has counted
pub record IsCommitter (counts : TableId) (config : Settings) (c : TheCommitter) (count : Counter)
    (limit : ℕ) : Type 0 where
  pub counted : HasCounted counts c.back count
  pub limit_is : limit ≡ config.limit
  pub keeps : KeepsLimit limit c.back c.turns
  pub turns_are : (c.turns).all ≡ config.turns

-- Where a load got its value, the stations that woke are hinted, and else none is
abbrev pub HintsLoaded : (ring woken : ℕ) → (loaded : Bool) → TheHinter → TheHinter → Type 0
HintsLoaded ring woken true old new = HasHinted woken ring old new
HintsLoaded ring woken false old new = new ≡ old

-- A core is renewed, where the front's seat and a unit's were these before and are these now, and the back is at the
-- new core
pub record AreRenewedWithBack (old : TheCore) (front_was unit_was : Caller) (core : TheCore) (front unit : Caller)
    (back_core : TheCore) : Type 0 where
  pub back_was : Caller
  pub back_now : Caller
  pub renewed : IsRenewed old (seats_of front_was back_was unit_was) core (seats_of front back_now unit)
  pub back_is : back_core ≡ core
