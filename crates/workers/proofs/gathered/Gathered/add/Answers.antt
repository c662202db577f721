use Rattle.std.proofs.Common.{ap, arith}
use Rattle.counts.specs.Seats.{Counter}
use Rattle.counts.specs.Shares.{share_of}
use Rattle.workers.proofs.Gathering.{added_each}
use Rattle.workers.proofs.gathered.Gathered.add.Goals as goal

pub returns-clause-counted : goal.returns-clause-counted
returns-clause-counted c t =
    let each = added_each c.args.self.now c.add_work.ensures.shares c.add_work-2.ensures.shares c.add_work-3.ensures.shares
    c.add_work-4.ensures.shares c.add_work-5.ensures.shares c.add_work-6.ensures.shares c.add_work-7.ensures.shares t in
    let seat = ap (λ (s : Counter). (share_of t s.shares).added) c.begin_again.ensures.seat in
    let none = c.begin_again.ensures.nothing t in
    omega (arith, each, seat, none)
