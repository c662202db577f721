use Rattle.std.proofs.Common.{◌≡◌, ◌≤◌, [], length}
use Rattle.instructions.specs.Instruction.{width}
use Rattle.inorder.specs.OneHistory.{Adds}
use Rattle.station.specs.Seats.{IsSameSeat}
use Rattle.back.specs.Backs.{unit_in}
use Rattle.back.specs.Port.{HasFound}
use Rattle.back.proofs.port.search.Given as goal

-- the stores from the k-th station on were looked at
abbrev pub invariant-loop-k : goal.invariant-loop-k
invariant-loop-k l =
    record {
      kept : IsSameSeat l.fn.seat l.seat;
      history : Adds l.core.program l.core.sizes l.fn.seat.by l.fn.seat.seen l.seat.seen [];
      woken : l.seat.woken ≡ l.fn.seat.woken;
      bound : l.k ≤ l.at;
      found : HasFound l.core.program (unit_in l.core l.seat.seen) (length (unit_in l.core l.fn.seat.seen).tenants) l.head l.core.sizes.ring l.k l.at l.fn.load.address (width l.fn.load.op) l.found;
    }

abbrev pub decreases-loop-k : goal.decreases-loop-k
decreases-loop-k l = l.k
