use Rattle.ruu_words.proofs.Claiming.{peek_plan}
use Rattle.station.proofs.steps.claim.Call+UnitPart.peek.Goals as goal

pub load-requires : goal.load-requires
load-requires c role _ legal =
    let v = c.args.self.now in (
      c.requires,
      peek_plan v.core.program v.core.sizes v.view.by v.view c.args.station role,
    )
