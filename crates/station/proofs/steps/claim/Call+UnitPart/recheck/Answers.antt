use Rattle.station.proofs.Places.{inside}
use Rattle.ruu_words.specs.Fields.{tag_of}
use Rattle.ruu_words.proofs.Claiming.{recheck_plan}
use Rattle.station.proofs.steps.claim.Call+UnitPart.recheck.Goals as goal

pub load-requires : goal.load-requires
load-requires c role _ legal =
    let v = c.args.self.now in (
      inside v legal c.requires.seen.named,
      recheck_plan v.core.program v.core.sizes v.view.by v.view c.args.station (tag_of c.args.old) c.args.old c.requires.seen.p role c.requires.word c.requires.seen.named c.requires.seen.was,
    )
