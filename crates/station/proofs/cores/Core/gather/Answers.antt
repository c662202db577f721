use Rattle.std.proofs.Common.{subst}
use Rattle.station.specs.Renewals.{HasLooked, seats_of}
use Rattle.station.specs.Seats.{Caller}
use Rattle.station.proofs.Renewing.{have_met, have_seen}
use Rattle.station.proofs.cores.Core.gather.Goals as goal

pub returns-clause-met : goal.returns-clause-met
returns-clause-met c =
    let core = c.args.self.now in
    let first = c.tell.ensures in
    let second = c.tell-2.ensures in
    let third = c.tell-3.ensures in
    let fourth = c.tell-4.ensures in
    have_met core c.args.front.now c.args.back.now c.args.unit.now c.tell.new.to c.tell-2.new.to c.tell-4.new.from c.tell-3.new.to c.tell-4.new.to c.a_number_is_of_its_part.ensures
    c.a_number_is_of_its_part-2.ensures first.looked first.told second.looked second.told
    (subst (λ (z : Caller). HasLooked core z c.tell-3.new.to) first.from third.looked) third.told
    (subst (λ (z : Caller). HasLooked core z c.tell-4.new.to) second.from fourth.looked) fourth.told
    third.from fourth.from

pub returns-clause-seen : goal.returns-clause-seen
returns-clause-seen c =
    have_seen c.args.self.now (seats_of c.args.front.now c.args.back.now c.args.unit.now) (seats_of c.tell-4.new.from c.tell-3.new.to c.tell-4.new.to)
    (returns-clause-met c)
