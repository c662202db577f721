use Rattle.std.proofs.Common.{◌≡◌, ◌+◌, ◌*◌, ◌-◌, ◌≤◌, length, take}
use Rattle.inorder.specs.History.{IsLegal, unit_of}
use Rattle.front.specs.Path.{rested_at}
use Rattle.front.specs.CreateTable.{HasTable, IsTouched}
use Rattle.front.specs.Knows.{FrontKnows}
use Rattle.front.specs.Recoveries.{IsCut, IsMissAt}
use Rattle.station.specs.Seats.{IsSameSeat}
use Rattle.front.proofs.recovery.squash_behind.Given as goal

abbrev pub invariant-loop-missed : goal.invariant-loop-missed
invariant-loop-missed l =
    record {
      core : l.seat.core ≡ l.core;
      same : IsSameSeat l.fn.seat l.seat;
      legal : IsLegal l.core.program l.core.sizes l.seat.seen;
      cut : IsCut l.core.program l.core.sizes l.fn.seat.seen l.seat.seen (l.all - length l.path.records);
      knows : FrontKnows l.core.program l.core.sizes (unit_of l.core.program l.core.sizes l.seat.seen) l.path.records l.path.base;
      miss : IsMissAt l.core.program l.core.sizes l.seat.seen l.path.records l.missed;
      long : l.missed.at + 1 ≤ length l.path.records;
      kept : take (l.missed.at + 1) l.path.records ≡ take (l.missed.at + 1) l.fn.path.records;
      fewer : length l.path.records ≤ l.all;
      table : HasTable l.core.program (unit_of l.core.program l.core.sizes l.seat.seen) (rested_at l.path.base) l.creators.table;
      base : l.path.base ≡ l.fn.path.base;
      touched : IsTouched (2 * (l.all - length l.path.records)) l.fn.creators.touched l.creators.touched;
    }

abbrev pub decreases-loop-missed : goal.decreases-loop-missed
decreases-loop-missed l = length l.path.records
