use Rattle.ruu_words.specs.declared.place.Place.TheVariants.{Station}
use Rattle.station.proofs.RetirePlans.{tells_over}
use Rattle.station.proofs.steps.retire.Call+BackPart.tell_over.Goals as goal

pub load-requires : goal.load-requires
load-requires c role _ legal =
    let v = c.args.self.now in (
      c.requires.place,
      tells_over v.core.program v.core.sizes v.view.by v.view (Station c.args.station) c.args.station role (λ _. c.requires.over),
    )
