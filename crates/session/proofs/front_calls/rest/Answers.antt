use Rattle.std.proofs.Common.{sym, subst}
use Rattle.session.specs.Replies.{RestSays}
use Rattle.session.proofs.Between.{rest_says}
use Rattle.session.proofs.Histories.{between, grows_twice}
use Rattle.session.proofs.front_calls.rest.Goals as goal

pub returns-clause-grows : goal.returns-clause-grows
returns-clause-grows g c =
    let core = c.args.core.now in
    grows_twice core c.args.all.now.by c.meet.new.other.by c.args.all.now.seen c.meet.new.other.seen c.meet-2.new.other.seen c.meet.ensures.other_history c.meet-2.ensures.other_history

pub returns-clause-reply : goal.returns-clause-reply
returns-clause-reply g c =
    let core = c.args.core.now in
    let front = c.meet.new.self in
    let answer = c.rest-answer.result in
    let says = rest_says g.P.Predictor.Learns core.program core.sizes front.trained_upto front.seen c.rest-answer.new.self.seen front.predictor c.rest-answer.new.self.predictor
    answer c.rest-answer.ensures.reply c.rest-answer.new.self.trained_upto c.rest-answer.ensures.trained_upto in
    let told = subst (λ n. RestSays core.program core.sizes front.seen c.rest-answer.new.self.seen n c.rest-answer.new.self.trained_upto answer) c.meet.ensures.trained_kept says in
    between (λ before behind. RestSays core.program core.sizes before behind c.args.front.now.trained_upto c.meet-2.new.self.trained_upto answer)
    c.args.all.now.seen front.seen c.rest-answer.new.self.seen c.meet-2.new.self.seen c.meet-2.new.other.seen
    c.meet.ensures.told (subst (λ n. RestSays core.program core.sizes front.seen c.rest-answer.new.self.seen c.args.front.now.trained_upto n answer) (sym c.meet-2.ensures.trained_kept) told)
    c.meet-2.ensures.history.begins c.meet-2.ensures.other_told
