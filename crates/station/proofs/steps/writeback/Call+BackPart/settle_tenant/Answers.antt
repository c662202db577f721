use Rattle.station.proofs.Places.{inside}
use Rattle.ruu_words.specs.Fields.{tag_of, word_value}
use Rattle.ruu_words.proofs.Settling.{settle_plan}
use Rattle.station.proofs.steps.writeback.Call+BackPart.settle_tenant.Goals as goal

pub exchange-requires : goal.exchange-requires
exchange-requires c role _ legal =
    let v = c.args.self.now in (
      inside v legal c.requires.load.named,
      settle_plan v.core.program v.core.sizes v.view.by v.view c.args.station (tag_of c.args.old) c.requires.load.p (word_value c.args.old) (word_value c.args.new) c.args.old c.args.new role
          c.requires.words.old_is
          c.requires.words.new_is c.requires.load.named c.requires.load.can,
    )
