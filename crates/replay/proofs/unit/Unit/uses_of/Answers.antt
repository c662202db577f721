use Rattle.std.proofs.Common.{◌≡◌, sym, ◌∙◌, arith}
use Rattle.std.specs.Prelude.{slice_index}
use Rattle.replay.proofs.Counts.{at_none, at_there, uses_few}
use Rattle.replay.proofs.unit.Unit.uses_of.Goals as goal

pub returns-in-Some-clause-small : goal.returns-in-Some-clause-small
returns-in-Some-clause-small c =
    let is : c.in-Some.uses ≡ slice_index c.args.self.now.uses.items c.args.station = at_there c.args.self.now.uses.items c.args.station c.in-Some.uses (sym (c.get.ensures.kept c.requires.known) ∙ c.in-Some.is) in
    let few = uses_few c.args.self.now.tenants.items c.args.self.now.uses.items c.args.station c.args.self.now.counts in
    let small = c.requires.small in
    omega arith

pub returns-in-None-clause-value : goal.returns-in-None-clause-value
returns-in-None-clause-value c =
    sym (at_none c.args.self.now.uses.items c.args.station (sym (c.get.ensures.kept c.requires.known) ∙ c.in-None.is))
    ∙ c.args.self.now.counts c.args.station
