use Rattle.std.proofs.Common.{rules, ◌<◌, ◌^◌}
use Rattle.counts.specs.declared.tally.Total.TheVariants.{Retires}
use Rattle.committing.proofs.Counted.{whole}
use Rattle.committing.proofs.commit.Committer.show.Goals as goal

pub pass_tally-requires-clause-retires : goal.pass_tally-requires-clause-retires
pass_tally-requires-clause-retires g c =
    let has = c.self.invariant.counted in
    let told : c.in_ok-mark.mark.n < 2 ^ 64 = search rules in
    whole c.read-tally.result.retires _ _ c.in_ok-mark.mark.n (c.read-tally.ensures.exact Retires has.all) has.retires c.in_ok-mark.ensures.mark told
