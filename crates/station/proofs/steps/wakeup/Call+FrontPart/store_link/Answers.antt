use Rattle.station.proofs.Places.{inside}
use Rattle.station.proofs.AskPlans.{links_plan}
use Rattle.station.proofs.steps.wakeup.Call+FrontPart.store_link.Goals as goal

pub store-requires : goal.store-requires
store-requires c _ caller legal =
    let v = c.args.self.now in (
      (inside v legal c.requires.may.creator, inside v legal c.requires.may.asks),
      links_plan v.core.program v.core.sizes v.view.by v.view c.args.of.0 c.args.of.1 c.args.k c.args.from.0 c.args.from.1 c.args.link caller c.requires.draft c.requires.may c.requires.link,
    )
