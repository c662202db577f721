use Rattle.events.proofs.Follow.{if_none, nobody_live}
use Rattle.events.proofs.judge.Judge.oldest.Goals as goal

pub returns : goal.returns
returns c =
    if_none c.live_before.result _ _
    (λ none. nobody_live c.args.self.now.unit.tenants.items c.len.result c.len.ensures.len none) c.live_before.ensures.none
