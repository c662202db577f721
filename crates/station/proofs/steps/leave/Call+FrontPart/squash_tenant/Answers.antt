use Rattle.station.proofs.Places.{inside}
use Rattle.station.proofs.Squashing.{squashes_plan}
use Rattle.station.proofs.steps.leave.Call+FrontPart.squash_tenant.Goals as goal

pub swap-requires : goal.swap-requires
swap-requires c _ caller legal =
    let v = c.args.self.now in (
      inside v legal c.requires.youngest.named,
      squashes_plan v.core.program v.core.sizes v.view.by v.view c.args.station c.args.tag c.args.word caller c.requires.draft c.requires.youngest c.requires.word,
    )
