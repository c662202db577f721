use Rattle.std.proofs.Common.{◌≡◌, ◌≢◌, ◌∙◌, false, subst, arith, rules}
use Rattle.std.proofs.lemmas.Grind.{common_steps}
use Rattle.session.specs.Moments.{GrowsLegally}
use Rattle.session.proofs.Histories.{grows_on}
use Rattle.session.proofs.Meetings.{have_met}
use Rattle.station.specs.Seats.{TheCore}
use Rattle.session.proofs.session.Session.meet.Goals as goal

pub returns : goal.returns
returns g c =
    let old = c.args.self.now in
    let one = c.tell.new.self in
    let two = c.tell-2.new.self in
    let three = c.tell-3.new.self in
    let second = subst (λ (k : TheCore). GrowsLegally k one.seen two.seen) c.tell.ensures.core c.tell-2.ensures.grows in
    let third = subst (λ (k : TheCore). GrowsLegally k two.seen three.seen) (c.tell-2.ensures.core ∙ c.tell.ensures.core) c.tell-3.ensures.grows in
    let nobody : c.is_nobody.result ≡ false = grind (arith, common_steps, c.if-is_nobody.false) in
    let none : c.is_nobody-else-is_nobody.result ≡ false = grind (arith, common_steps, c.if-is_nobody-2.false) in
    let one_is = c.is_nobody.ensures.not nobody in
    let other_is = c.is_nobody-else-is_nobody.ensures.not none in
    let apart : c.args.one ≢ c.args.other = search rules in
    record {
      grows = grows_on old.core old.seen two.seen three.seen (grows_on old.core old.seen one.seen two.seen c.tell.ensures.grows second) third;
      says = have_met old one two three c.args.one c.args.other one_is other_is apart c.tell.ensures.told c.tell-2.ensures.told c.tell-3.ensures.told;
      kept = search rules;
    }
