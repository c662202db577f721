use Rattle.station.proofs.Places.{inside}
use Rattle.ruu_words.proofs.Reading.{source_plan}
use Rattle.station.proofs.Claimed.{next_named}
use Rattle.station.proofs.steps.claim.Call+UnitPart.read_source.Goals as goal

pub load-requires : goal.load-requires
load-requires c role _ legal =
    let v = c.args.self.now in (
      inside v legal c.requires.named,
      source_plan v.core.program v.core.sizes v.view.by v.view c.args.station c.args.tag c.requires.p c.args.k role
          (next_named v.core.program v.core.sizes v.view.seen c.requires.p c.args.station c.args.tag c.args.k c.requires.named) c.requires.was,
    )
