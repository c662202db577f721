use Rattle.std.proofs.Common.{suc, refl, ap, ◌∙◌}
use Rattle.one_thread.specs.declared.pipeline.Pipeline.{Pipeline}
use Rattle.streaming.proofs.FlowLeft.{counted_alone, counted_few, gone_counted}
use Rattle.streaming.proofs.departing.depart_counted.Goals as goal

pub retire_counted-requires-clause-counted : goal.retire_counted-requires-clause-counted
retire_counted-requires-clause-counted c =
    let o = c.requires.oldest in
    counted_few c.args.unit.now c.args.flow.now o.oldest c.requires.flow o.is c.args.accesses o.tells o.leaves c.requires.some

pub returns-clause-departed : goal.returns-clause-departed
returns-clause-departed c =
    let b = c.args.unit.now in
    let o = c.requires.oldest in
    let later : Pipeline = record b { committed = c.retire_counted.new.committed } in
    let alone = counted_alone b c.args.flow.now o.oldest c.requires.flow o.is c.args.accesses o.tells o.leaves c.requires.some in
    let r = c.retire_counted.ensures in
    gone_counted b c.args.flow.now o.oldest c.requires.flow o.is c.args.accesses o.tells o.leaves later c.retire_counted.new.flow c.requires.some
    r.ring r.accesses r.rest (r.committed ∙ ap (λ n. record b.committed { pc = n; count = suc b.committed.count }) o.goes_on) alone refl c.args.told o.told_is
