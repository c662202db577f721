use Rattle.station.proofs.Places.{inside}
use Rattle.station.proofs.AskPlans.{finds_plan}
use Rattle.station.proofs.steps.wakeup.Call+FrontPart.look_at_creator.Goals as goal

pub load-requires : goal.load-requires
load-requires c _ caller legal =
    let v = c.args.self.now in (
      inside v legal c.requires.asked.of.creator,
      finds_plan v.core.program v.core.sizes v.view.by v.view c.args.of.0 c.args.of.1 c.args.k c.args.from.0 c.args.from.1 caller c.requires.draft c.requires.asked,
    )
