use Rattle.std.proofs.Common.{◌≡◌, [], length}
use Rattle.inorder.specs.History.{front, unit_of}
use Rattle.inorder.specs.OneHistory.{Adds}
use Rattle.front.specs.Folding.{IsFolding}
use Rattle.front.specs.Rests.{TellsFirst}
use Rattle.station.specs.Seats.{IsSameSeat}
use Rattle.station.specs.Renewals.{HasNobody}
use Rattle.front.proofs.rest.fold_all.Given as goal

abbrev pub invariant-loop-oldest : goal.invariant-loop-oldest
invariant-loop-oldest g l =
    record {
      core : l.seat.core ≡ l.core;
      same : IsSameSeat l.fn.seat l.seat;
      adds : Adds l.core.program l.core.sizes front l.fn.seat.seen l.seat.seen [];
      folding : IsFolding l.core l.seat.seen l.path;
      nobody : HasNobody (unit_of l.core.program l.core.sizes l.seat.seen);
      told : TellsFirst g.P.Predictor.Learns l.fn.path.records l.path.records l.fn.predictor l.predictor;
    }

abbrev pub decreases-loop-oldest : goal.decreases-loop-oldest
decreases-loop-oldest g l = length l.path.records
