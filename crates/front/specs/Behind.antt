-- Registers after a renewal, as the front tells them.
use Rattle.std.specs.Prelude.{◌≡◌, ℕ}
use Rattle.station.specs.Seats.{unit_seen, TheCore}
use Rattle.station.specs.Renewals.{IsRenewed, Seats}
use Rattle.front.specs.Creating.{IsCreatorAnswer}
use Rattle.front.specs.declared.answers.Made.TheVariants.{Base}

-- A value that the front told of a register is the one that it tells after the renewal, wherever it
-- has rested
abbrev pub RegistersStay : Type 0
RegistersStay =
    (core now : TheCore) (old new : Seats) (told again r v w : ℕ) → IsRenewed core old now new →
    IsCreatorAnswer core.program (unit_seen core old.front) told r (Base v) →
    IsCreatorAnswer now.program (unit_seen now new.front) again r (Base w) → w ≡ v
