use Rattle.station.proofs.Places.{inside}
use Rattle.ruu_words.specs.Fields.{tag_of, word_value}
use Rattle.station.proofs.AskPlans.{ends_plan}
use Rattle.station.proofs.steps.wakeup.Call+FrontPart.take_value.Goals as goal

pub exchange-requires : goal.exchange-requires
exchange-requires c _ caller legal =
    let v = c.args.self.now in (
      inside v legal c.requires.answer.asks,
      ends_plan v.core.program v.core.sizes v.view.by v.view c.args.station (tag_of c.args.old) c.args.k (word_value c.args.new) c.args.old c.args.new caller c.requires.draft
          c.requires.words.old_is c.requires.words.new_is
          c.requires.answer,
    )
