use Rattle.client.specs.Done.{IsFinishedNext}
use Rattle.client.proofs.Known.{unit_goes_on}
use Rattle.client.proofs.Begins.{finish_begins}
use Rattle.client.proofs.Same.{finished_on}
use Rattle.client.proofs.by_hand.finish_next.Goals as goal

pub returns-clause-done : goal.returns-clause-done
returns-clause-done c =
    let core = c.args.core.now in
    let s = c.args.seats.now in
    let finish = c.finish-answer.ensures in
    let o = c.finish-answer.new.seat in
    let begins = finish_begins core.program core.sizes s.one.by s.one.seen o.seen c.args.job c.finish-answer.result finish.reply in
    unit_goes_on core s c.gather_twice.new.seats c.requires.all o finish.kept.by finish.spare begins c.gather_twice.ensures.met
    (IsFinishedNext core s.one.by c.args.job c.finish-answer.result) finish.reply

pub gather_twice-requires : goal.gather_twice-requires
gather_twice-requires c = let finish = c.finish-answer.ensures in finished_on c.requires.all c.args.job c.finish-answer.result finish.kept finish.spare finish.reply
