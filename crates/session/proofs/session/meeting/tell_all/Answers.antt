use Rattle.std.proofs.Common.{◌<◌, List, Option, length, subst, sym, arith}
use Rattle.inorder.specs.declared.history.Entry.{Entry}
use Rattle.instructions.specs.Histories.{StartsWith}
use Rattle.session.specs.declared.units.UnitJob.{UnitJob}
use Rattle.session.specs.Workers.{AreWorkers, UnitHasSeen, seen_at}
use Rattle.instructions.proofs.Histories.{starts_on}
use Rattle.session.proofs.Workers.{free_now, has_told, put_back, stay_seen, still_works, taken_seen}
use Rattle.session.proofs.session.meeting.tell_all.Goals as goal

pub put_worker-requires-clause-free : goal.put_worker-requires-clause-free
put_worker-requires-clause-free c =
    let within : c.args.unit < length c.args.units.now.items = omega (arith, c.requires.unit, c.args.units.now.ok) in
    free_now c.args.units.now.items c.take_worker-seat.new.units.items c.args.unit within c.take_worker-seat.ensures.place

pub returns-clause-workers : goal.returns-clause-workers
returns-clause-workers c =
    let core = c.args.core.now in
    let taken = c.take_worker-seat in
    let within : c.args.unit < length c.args.units.now.items = omega (arith, c.requires.unit, c.args.units.now.ok) in
    let own = still_works core c.jobs_stay.ensures.seen taken.result c.meet.new.one taken.ensures.worker c.meet.ensures.one_kept c.meet.ensures.one_history in
    subst (λ (xs : List (Option UnitJob)). AreWorkers core xs) (sym c.put_worker.ensures)
    (put_back c.args.units.now.items taken.new.units.items c.args.unit (record { seat = c.meet.new.one; job = taken.result.job }) within taken.ensures.place core c.requires.workers own)

pub returns-clause-told : goal.returns-clause-told
returns-clause-told c =
    let units = c.args.units.now.items in
    let taken = c.take_worker-seat in
    let old = c.args.all.now.seen in
    let within : c.args.unit < length units = omega (arith, c.requires.unit, c.args.units.now.ok) in
    let w : UnitJob = record { seat = c.meet.new.one; job = taken.result.job } in
    let seen = starts_on (seen_at units c.args.unit) taken.result.seat.seen w.seat.seen (taken_seen units c.args.unit taken.result taken.ensures.same) c.meet.ensures.one_history.begins in
    let stays = stay_seen units taken.new.units.items c.args.unit w within taken.ensures.place seen taken.ensures.job in
    subst (λ (xs : List (Option UnitJob)). UnitHasSeen units xs c.args.unit old c.meet.new.other.seen) (sym c.put_worker.ensures)
    (has_told units taken.new.units.items c.args.unit w within taken.ensures.place old c.meet.new.other.seen stays
    (subst (λ (h : List Entry). StartsWith w.seat.seen h) taken.ensures.history c.meet.ensures.one_told) c.meet.ensures.other_told)
