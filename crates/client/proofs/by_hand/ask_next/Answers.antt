use Rattle.std.proofs.Common.{[], subst}
use Rattle.inorder.specs.OneHistory.{Adds}
use Rattle.station.specs.Asking.{AskAnswers}
use Rattle.client.specs.Done.{IsAskedNext}
use Rattle.client.proofs.Known.{front_goes_on}
use Rattle.client.proofs.Same.{front_on}
use Rattle.client.proofs.by_hand.ask_next.Goals as goal

pub ask-answer-requires-clause-may : goal.ask-answer-requires-clause-may
ask-answer-requires-clause-may c =
    let core = c.args.core.now in
    let seen = c.args.seats.now.front.seen in
    let may = c.requires.may in
    let since = subst (λ n. Adds core.program core.sizes n may.all seen []) c.requires.all.front_by may.done.front in
    (c.mays_stay.ensures.front core.program core.sizes may.all seen since).asks c.args.station c.args.tag c.args.k c.args.from.0 c.args.from.1 may.fact

pub returns-clause-done : goal.returns-clause-done
returns-clause-done c =
    let core = c.args.core.now in
    let s = c.args.seats.now in
    let asks = c.ask-answer.ensures in
    let f = c.ask-answer.new.seat in
    let answer = c.ask-answer.result in
    let reply = subst (λ n. AskAnswers core.program core.sizes n s.front.seen f.seen c.args.station c.args.tag c.args.k c.args.from.0 c.args.from.1 answer) c.requires.all.front_by asks.reply in
    front_goes_on core s c.gather_twice.new.seats c.requires.all f asks.kept.by asks.reply.adds.begins c.gather_twice.ensures.met
    (IsAskedNext core c.args.station c.args.tag c.args.k c.args.from answer) reply

pub gather_twice-requires : goal.gather_twice-requires
gather_twice-requires c = let asks = c.ask-answer.ensures in front_on c.requires.all asks.kept asks.reply.adds.begins
