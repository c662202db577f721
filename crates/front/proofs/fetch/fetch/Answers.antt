-- Why nothing is let, or what is.
use Rattle.front.proofs.Looked.{LookedAhead, at_pc, can_fetch, full_now, knows_now, looked, looked_on, no_instr_now, queue_full_now, spent_now}
use Rattle.front.proofs.Named.{stations_inside}
use Rattle.front.proofs.fetch.fetch.Goals.{After-look-ahead}
use Rattle.front.proofs.fetch.fetch.Goals as goal

pub next_station-station-requires-clause-inside : goal.next_station-station-requires-clause-inside
next_station-station-requires-clause-inside c = stations_inside c.args.seat.now.seen c.requires.legal c.requires.knows c.ring.ensures.value c.ring.ensures.least

-- The look at the next station
ahead : (c : After-look-ahead) → LookedAhead c.args.core.now.program c.args.core.now.sizes c.args.seat.now.seen c.look-ahead.new.seat.seen c.args.path.now.records c.args.path.now.base
    c.next_station-station.result c.look-ahead.result
ahead c = looked c.look-ahead.result c.requires.knows c.requires.by c.look-ahead.ensures.history c.ring.ensures.value c.ring.ensures.least c.next_station-station.ensures.value
    c.look-ahead.ensures.reply

pub returns-in_default : goal.returns-in_default
returns-in_default c =
    let a = ahead (goal.at.returns-in_default c).After-look-ahead in
    record { kept = c.look-ahead.ensures.kept; history = a.adds; ok = tt; err = full_now a c.in_default.not-Free }

pub returns-in_default-fetch-clause-err : goal.returns-in_default-fetch-clause-err
returns-in_default-fetch-clause-err c =
    no_instr_now (ahead (goal.at.returns-in_default-fetch-clause-err c).After-look-ahead) c.in-Free.is c.front_pc-pc.ensures
    (at_pc c.front_pc-pc.result c.requires.program c.fetch.ensures c.in_default-fetch.is)

pub queue_is_full-requires-clause-knows : goal.queue_is_full-requires-clause-knows
queue_is_full-requires-clause-knows c = knows_now (ahead (goal.at.queue_is_full-requires-clause-knows c).After-look-ahead)

pub returns-then-queue_is_full-clause-history : goal.returns-then-queue_is_full-clause-history
returns-then-queue_is_full-clause-history c = looked_on (ahead (goal.at.returns-then-queue_is_full-clause-history c).After-look-ahead) c.queue_is_full.ensures.history

pub returns-then-queue_is_full-clause-err : goal.returns-then-queue_is_full-clause-err
returns-then-queue_is_full-clause-err c =
    queue_full_now (ahead (goal.at.returns-then-queue_is_full-clause-err c).After-look-ahead) c.in-Free.is c.front_pc-pc.ensures
    (at_pc c.front_pc-pc.result c.requires.program c.fetch.ensures c.in-Some.is) c.queue_is_full.ensures.history c.if-queue_is_full.ensures.reply

pub returns-then-ahead-eq-LAST_TAG-clause-history : goal.returns-then-ahead-eq-LAST_TAG-clause-history
returns-then-ahead-eq-LAST_TAG-clause-history c = looked_on (ahead (goal.at.returns-then-ahead-eq-LAST_TAG-clause-history c).After-look-ahead) c.queue_is_full.ensures.history

pub returns-then-ahead-eq-LAST_TAG-clause-err : goal.returns-then-ahead-eq-LAST_TAG-clause-err
returns-then-ahead-eq-LAST_TAG-clause-err c =
    spent_now (ahead (goal.at.returns-then-ahead-eq-LAST_TAG-clause-err c).After-look-ahead) c.in-Free.is c.front_pc-pc.ensures
    (at_pc c.front_pc-pc.result c.requires.program c.fetch.ensures c.in-Some.is) c.queue_is_full.ensures.history c.if-queue_is_full.ensures.reply c.if-ahead-eq-LAST_TAG.true

pub returns-clause-history : goal.returns-clause-history
returns-clause-history c = looked_on (ahead (goal.at.returns-clause-history c).After-look-ahead) c.queue_is_full.ensures.history

pub returns-clause-ok : goal.returns-clause-ok
returns-clause-ok c =
    can_fetch (ahead (goal.at.returns-clause-ok c).After-look-ahead) c.in-Free.is c.front_pc-pc.ensures (at_pc c.front_pc-pc.result c.requires.program c.fetch.ensures c.in-Some.is)
    c.queue_is_full.ensures.history c.front_half-half.ensures c.if-queue_is_full.ensures.reply c.if-ahead-eq-LAST_TAG.false c.look-ahead.ensures.tag
    c.next_station-station.ensures.small c.ring.ensures.value
