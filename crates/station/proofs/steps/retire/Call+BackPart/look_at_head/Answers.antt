use Rattle.station.proofs.RetirePlans.{looks_plan}
use Rattle.station.proofs.steps.retire.Call+BackPart.look_at_head.Goals as goal

pub load-requires : goal.load-requires
load-requires c role _ legal =
    let v = c.args.self.now in (
      c.requires.place,
      looks_plan v.core.program v.core.sizes v.view.by v.view c.args.station role (λ _. c.requires.head),
    )
