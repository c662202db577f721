use Rattle.station.proofs.Places.{inside}
use Rattle.ruu_words.specs.Fields.{tag_of, word_value}
use Rattle.station.proofs.Mending.{mends_plan}
use Rattle.station.proofs.steps.leave.Call+FrontPart.mend_tenant.Goals as goal

pub swap-requires : goal.swap-requires
swap-requires c _ caller legal =
    let v = c.args.self.now in (
      inside v legal c.requires.miss.named,
      mends_plan v.core.program v.core.sizes v.view.by v.view c.args.station (tag_of c.args.word) (word_value c.args.word) c.args.word caller c.requires.draft c.requires.miss c.requires.word,
    )
