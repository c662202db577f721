use Rattle.replay.proofs.Due.{all_supplied, both_silently, quiet_by}
use Rattle.replay.proofs.unit.Unit.link_new.Goals as goal

pub returns-clause-leads : goal.returns-clause-leads
returns-clause-leads c = both_silently c.args.self.now c.supply_both.new.self c.args.who c.supply_both.ensures

pub returns-clause-quiet : goal.returns-clause-quiet
returns-clause-quiet c = λ due.
    let u = c.args.self.now in
    let v = c.supply_both.new.self in
    quiet_by v (λ r k less. all_supplied u v c.args.who c.supply_both.ensures due r k)
