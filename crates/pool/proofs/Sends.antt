-- The values that go to other threads.
use Rattle.std.proofs.Common.{rules}
use denote.Param.Send.{IsSend, enum_send, recorded_send, sendable, view_send}
use denote.Param.SendFields.{as_row_send, declared_send}
use denote.Enum.Enum.{Enum}
use denote.Enum.Declared.{shape as enum_shape}
use denote.Struct.Field.{row_field}
use denote.RattleType.{RattleType}
use Rattle.station.specs.contracts.seat.SeatOf.{the_row as seat_row}
use Rattle.station.specs.contracts.seat.FrontPart.{the_row as front_row}
use Rattle.station.specs.contracts.seat.FrontPartPart.TheImpl.{ghosts as front_part}
use Rattle.front.specs.contracts.still.FrontStill as still
use Rattle.front.specs.contracts.still.FrontStill.TheInside as inside
use Rattle.front.specs.contracts.path.base_state.Base as base
use Rattle.front.specs.contracts.path.counted.Creators as creators
use Rattle.front.proofs.path.counted.Creators.TheSendSync as creators_cross
use Rattle.core.specs.contracts.option.Option as option
use Rattle.core.specs.contracts.snapshot.Snapshot.{the_row as snapshot_row}
use Rattle.instructions.specs.declared.predictor.Predictor.{Ghosts}
use Rattle.pool.specs.contracts.dispatch.Begin as begin
use Rattle.pool.specs.contracts.dispatch.Dispatcher as dispatcher
use Rattle.workers.specs.contracts.turns.Turns.{the_row as turns_row}
use Rattle.workers.proofs.Sends.{count_sends}

pub front_seat_sends : IsSend (seat_row front_row front_part)
unfolding types.Keyed.entry denote.Memory.part_of
front_seat_sends = search rules

pub turns_sends : IsSend turns_row
turns_sends = search sendable depth 40

pub base_sends : IsSend base.the_row
base_sends = search sendable depth 40

pub creators_sends : IsSend creators.the_row
creators_sends = creators_cross.the_send

pub left_seat_sends : IsSend (snapshot_row (seat_row front_row front_part))
left_seat_sends = search sendable depth 40

pub still_sends : (P : RattleType) (G : Ghosts P.Denot) → IsSend P → IsSend (still.the_row P G)
still_sends P G s = view_send _ _ _ _ _ (declared_send (inside.the_type P G) (base_sends, (creators_sends, (as_row_send (row_field P) s, (left_seat_sends, tt)))))

pub begin_sends : (P : RattleType) (G : Ghosts P.Denot) → IsSend P → IsSend (begin.the_row P G)
begin_sends P G s = let T = begin.the_type P G in recorded_send (Enum (enum_shape T)) T.D T.to T.to_one (enum_send (enum_shape T) ((s, tt), ((still_sends P G s, tt), tt)))

pub dispatcher_sends : (P : RattleType) (G : Ghosts P.Denot) → IsSend P → IsSend (dispatcher.the_row P G)
dispatcher_sends P G s = declared_send (dispatcher.the_type P G) (front_seat_sends, (begin_sends P G s, (count_sends, (turns_sends, tt))))

pub given_back_sends : (P : RattleType) (G : Ghosts P.Denot) → IsSend P → IsSend (option.the_row (dispatcher.the_row P G))
given_back_sends P G s =
    let T = option.the_type (dispatcher.the_row P G) in
    recorded_send (Enum (enum_shape T)) T.D T.to T.to_one (enum_send (enum_shape T) (tt, ((dispatcher_sends P G s, tt), tt)))
