-- What a back keeps between its calls.
use Rattle.std.specs.Prelude.{◌≡◌, ◌≤◌, ℕ, Option, Some, None}
use Rattle.instructions.specs.Programs.{Program, instr_at}
use Rattle.instructions.specs.declared.stop.Stop.{Stop}
use Rattle.instructions.specs.declared.stop.Stop.TheVariants.{BadPc}
use Rattle.inorder.specs.Callers.{GoesOn, head_station}
use Rattle.inorder.specs.Committed.{ahead, ahead_by, committed}
use Rattle.inorder.specs.History.{IsLegal, back}
use Rattle.inorder.specs.Machine.{State}
use Rattle.inorder.specs.Replies.{Has}
use Rattle.inorder.specs.Unit.{Sizes, UpdateUnit}
use Rattle.snapshots.specs.declared.snap.Snap.{Snap}
use Rattle.station.specs.Seats.{Caller}
use Rattle.back.specs.Backs.{unit_in}
use Rattle.back.specs.Commits.{IsRetiredStopOf}

-- Why a back has ended with this code: a stop has retired, or its pc is that of no instruction
pub data WhyEnded (P : Program) (U : UpdateUnit) (code : Stop) : Type 0 where
  ByStop : (p : ℕ) → Has U p (IsRetiredStopOf code) → WhyEnded P U code
  Nowhere : code ≡ BadPc → instr_at P (committed P U.tenants).pc ≡ None → GoesOn U → WhyEnded P U code

-- The back has not ended, and no stop has retired; or the back has ended with a code
abbrev pub EndIs : Program → UpdateUnit → Option Stop → Type 0
EndIs P U None = GoesOn U
EndIs P U (Some code) = WhyEnded P U code

-- The unit that a back has seen, and the back's fields: the state is what whole instructions have left,
-- and the low value, where one waits, is what a first half has made
pub record KeepsUnit (P : Program) (C : Sizes) (U : UpdateUnit) (state : State) (low : Option ℕ)
    (head : ℕ) (ended : Option Stop) : Type 0 where
  pub state_is : state ≡ committed P U.tenants
  pub low_is : ahead_by low state ≡ ahead P U.tenants
  pub head_is : head ≡ head_station C U
  pub end_is : EndIs P U ended

-- The fields of a back, and what its seat has seen
pub record BackIsKept (P : Program) (seat : Caller) (state : State) (low : Option ℕ)
    (head : ℕ) (ended : Option Stop) (shown : Snap) : Type 0 where
  pub program : seat.core.program ≡ P
  pub by_is : seat.by ≡ back
  pub legal : IsLegal P seat.core.sizes seat.seen
  pub unit : KeepsUnit P seat.core.sizes (unit_in seat.core seat.seen) state low head ended
  pub later : shown.n ≤ state.count
