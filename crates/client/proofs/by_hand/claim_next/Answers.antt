use Rattle.client.specs.Done.{IsClaimedNext}
use Rattle.client.proofs.Known.{unit_goes_on}
use Rattle.client.proofs.Begins.{claim_begins}
use Rattle.client.proofs.Same.{claimed_on}
use Rattle.client.proofs.by_hand.claim_next.Goals as goal

pub returns-clause-done : goal.returns-clause-done
returns-clause-done c =
    let core = c.args.core.now in
    let s = c.args.seats.now in
    let claim = c.claim-answer.ensures in
    let o = c.claim-answer.new.seat in
    let begins = claim_begins core.program core.sizes s.one.by s.one.seen o.seen c.args.station c.claim-answer.result claim.reply in
    unit_goes_on core s c.gather_twice.new.seats c.requires.all o claim.kept.by claim.spare begins c.gather_twice.ensures.met
    (IsClaimedNext core s.one.by c.args.station c.claim-answer.result) claim.reply

pub gather_twice-requires : goal.gather_twice-requires
gather_twice-requires c = let claim = c.claim-answer.ensures in claimed_on c.requires.all c.args.station c.claim-answer.result claim.kept claim.spare claim.reply
