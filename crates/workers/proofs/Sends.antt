-- What goes to other threads.
use Rattle.std.proofs.Common.{rules}
use denote.Param.Send.{IsSend, IsSync, recorded_send, shr_send, shr_sync, struct_send}
use denote.Param.SendFields.{as_row_sync, declared_sync}
use denote.Struct.Field.{row_field, shr_ref_field}
use denote.RattleType.{RattleType}
use denote.Ref.{NamedLft, ShrRef}
use denote.Struct.Declared.{shape}
use Rattle.counts.specs.contracts.seats.WorkerSeat.{the_row as count_row}
use Rattle.hints.specs.declared.deals.Ring as ring
use Rattle.station.specs.contracts.cores.Core.{the_row as core_row}
use Rattle.station.proofs.cores.Core.TheSendSync as core_crosses
use Rattle.station.specs.contracts.seat.SeatOf.{the_row as seat_row}
use Rattle.station.specs.contracts.seat.UnitPart.{the_row as unit_row}
use Rattle.station.specs.contracts.seat.UnitPartPart.TheImpl.{ghosts as unit_part}
use Rattle.workers.specs.declared.bounds.Bounds as bounds
use Rattle.workers.specs.contracts.shared.TermShared as shared
use Rattle.workers.specs.contracts.state.RunState as state
use Rattle.workers.specs.contracts.unit.Worker as worker
use Rattle.workers.proofs.state.RunState.TheSendSync as state_crosses

pub unit_seat_sends : IsSend (seat_row unit_row unit_part)
unfolding types.Keyed.entry denote.Memory.part_of
unit_seat_sends = search rules

pub count_sends : IsSend count_row
unfolding types.Keyed.entry denote.Memory.part_of
count_sends = search rules

pub worker_sends : IsSend worker.the_row
worker_sends = recorded_send worker.the_field.row _ _ worker.the_type.to_one (struct_send (shape worker.the_type) (search rules, (unit_seat_sends, (count_sends, tt))))

-- threads share what a term's threads share, where they may share its gate and its handle
pub shared_syncs : (a : NamedLft) (K G R : RattleType) (b : bounds.Ghosts K.Denot) (r : ring.Ghosts K.Denot) → IsSync G → IsSync R → IsSync (shared.the_row a K G R b r)
shared_syncs a K G R b r gate wait =
    let states = state.the_row K b r in
    declared_sync (shared.the_type a K G R b r) (
      as_row_sync (row_field (ShrRef a.mir a.lft R)) (shr_sync a.mir a.lft R wait),
      (
        as_row_sync (shr_ref_field a states (tt {0})) (shr_sync a.mir a.lft states (state_crosses.the_sync K b r)),
        (
          as_row_sync (shr_ref_field a core_row (tt {0})) (shr_sync a.mir a.lft core_row core_crosses.the_sync),
          (as_row_sync (row_field (ShrRef a.mir a.lft G)) (shr_sync a.mir a.lft G gate), tt),
        ),
      ),
    )

-- and so a reference to that goes to other threads
pub shared_sends : (at of : NamedLft) (K G R : RattleType) (b : bounds.Ghosts K.Denot) (r : ring.Ghosts K.Denot) → IsSync G → IsSync R → IsSend (ShrRef at.mir at.lft (shared.the_row of K G R b r))
shared_sends at of K G R b r gate wait = shr_send at.mir at.lft (shared.the_row of K G R b r) (shared_syncs of K G R b r gate wait)
