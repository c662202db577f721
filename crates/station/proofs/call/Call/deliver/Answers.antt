use Rattle.station.proofs.Places.{inside}
use Rattle.ruu_words.specs.Fields.{tag_of, word_value}
use Rattle.ruu_words.proofs.Delivery.{deliver_plan}
use Rattle.station.proofs.call.Call.deliver.Goals as goal

pub exchange-requires : goal.exchange-requires
exchange-requires g c _ _ legal =
    let v = c.args.self.now in (
      inside v legal c.requires.link.asks,
      deliver_plan v.core.program v.core.sizes v.view.by v.view c.args.station c.args.k (tag_of c.args.old) (word_value c.args.new) c.args.old c.args.new c.requires.link.consumer
          c.requires.link.producer
          c.requires.words.old_is c.requires.words.new_is c.requires.link.asks c.requires.link.made,
    )
