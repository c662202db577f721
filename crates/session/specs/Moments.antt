-- Where a call stands in the one history of a session.
use Rattle.std.specs.Prelude.{List}
use Rattle.inorder.specs.declared.history.Entry.{Entry}
use Rattle.inorder.specs.History.{IsLegal}
use Rattle.instructions.specs.Histories.{StartsWith}
use Rattle.station.specs.Seats.{TheCore}

-- The history has grown, and it is legal
pub record GrowsLegally (core : TheCore) (old new : List Entry) : Type 0 where
  pub begins : StartsWith new old
  pub legal : IsLegal core.program core.sizes new

-- Whoever called had seen all of the old history, and what it saw until the call was over is part
-- of the new one. This is true of the two
pub record IsBetween (old new : List Entry) (Fact : List Entry → List Entry → Type 0) : Type 0 where
  pub before : List Entry
  pub behind : List Entry
  pub begins : StartsWith before old
  pub ends : StartsWith new behind
  pub fact : Fact before behind
