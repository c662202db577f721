use Rattle.station.proofs.Places.{inside}
use Rattle.ruu_words.specs.Fields.{tag_of}
use Rattle.ruu_words.proofs.Finishing.{finish_plan}
use Rattle.station.proofs.steps.writeback.Call+UnitPart.finish_tenant.Goals as goal

pub exchange-requires : goal.exchange-requires
exchange-requires c role _ legal =
    let v = c.args.self.now in (
      inside v legal c.requires.job.named,
      finish_plan v.core.program v.core.sizes v.view.by v.view c.args.station (tag_of c.args.old) c.args.old c.args.new c.requires.job.p c.args.predicted c.args.outcome role
          c.requires.words.old_is
          c.requires.words.new_is c.requires.job.named,
    )
