use Rattle.std.proofs.Common.{◌≡◌, [], take}
use Rattle.std.specs.List.{AllByRecursion}
use Rattle.inorder.specs.History.{front, unit_of}
use Rattle.inorder.specs.OneHistory.{Adds}
use Rattle.front.specs.Knows.{FrontKnows}
use Rattle.front.specs.Recoveries.{IsNoLiveMiss}
use Rattle.station.specs.Seats.{IsSameSeat}
use Rattle.front.proofs.recovery.find_miss.Given as goal

abbrev pub invariant-loop-at : goal.invariant-loop-at
invariant-loop-at l =
    record {
      core : l.seat.core ≡ l.core;
      same : IsSameSeat l.fn.seat l.seat;
      adds : Adds l.core.program l.core.sizes front l.fn.seat.seen l.seat.seen [];
      knows : FrontKnows l.core.program l.core.sizes (unit_of l.core.program l.core.sizes l.seat.seen) l.path.records l.path.base;
      none : AllByRecursion (IsNoLiveMiss (unit_of l.core.program l.core.sizes l.fn.seat.seen)) (take l.at l.path.records);
    }
