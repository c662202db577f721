use Rattle.std.proofs.Common.{ap, arith, rules, sym, ◌∙◌}
use Rattle.inorder.specs.History.{renewals}
use Rattle.inorder.specs.Machine.{State}
use Rattle.counts.specs.declared.tally.Total.TheVariants.{Renewals, Retires}
use Rattle.committing.specs.Committing.{TheCommitter}
use Rattle.committing.proofs.Counted.{whole}
use Rattle.committing.proofs.Ended.{ended, has_stopped, limit_reached}
use Rattle.committing.proofs.commit.Committer.end.Goals as goal

pub returns-in-None-Stop-clause-run : goal.returns-in-None-Stop-clause-run
returns-in-None-Stop-clause-run g c =
    let i = c.self.inside in
    let has = c.self.invariant.counted in
    let end = c.end-end.result in
    let tally = c.read-tally.result in
    let count = ap (λ (s : State). s.count) c.end-end.ensures.state in
    let retires = whole tally.retires _ _ end.n (c.read-tally.ensures.exact Retires has.all) has.retires count (search rules) in
    let over = has_stopped i.back.ended c.in-None-Stop.field-0-1 (sym c.end-end.ensures.outcome ∙ c.in-None-Stop.is-1) in
    ended g.K.OfProgram.program c.self.invariant end tally c.end-end.ensures.in_order count retires c.in-None-Stop.field-0-1 c.in-None-Stop.is-1 over

pub returns-clause-run : goal.returns-clause-run
returns-clause-run g c =
    let has = c.self.invariant.counted in
    let end = c.end-end.result in
    let tally = c.read-tally.result in
    let count = ap (λ (s : State). s.count) c.end-end.ensures.state in
    let retires = whole tally.retires _ _ end.n (c.read-tally.ensures.exact Retires has.all) has.retires count (search rules) in
    limit_reached g.K.OfProgram.program c.self.invariant end tally c.end-end.ensures.in_order count retires c.in-None-Limit.is-1

pub returns-in-None-Stop-clause-renewals : goal.returns-in-None-Stop-clause-renewals
returns-in-None-Stop-clause-renewals g c =
    let has = c.self.invariant.counted in
    let same = ap (λ (k : TheCommitter). renewals k.back.seen) c.self.view_is in
    let told = c.read-tally.ensures.exact Renewals has.all_renewals in
    omega (arith, told, has.renewals, same)

pub returns-clause-renewals : goal.returns-clause-renewals
returns-clause-renewals g c =
    let has = c.self.invariant.counted in
    let same = ap (λ (k : TheCommitter). renewals k.back.seen) c.self.view_is in
    let told = c.read-tally.ensures.exact Renewals has.all_renewals in
    omega (arith, told, has.renewals, same)
