use Rattle.station.proofs.Places.{access_inside}
use Rattle.ruu_words.specs.declared.place.Place.TheVariants.{Station}
use Rattle.station.proofs.RetirePlans.{waits_plan}
use Rattle.station.proofs.steps.retire.Call+BackPart.tell_waiting.Goals as goal

pub load-requires : goal.load-requires
load-requires c role _ legal =
    let v = c.args.self.now in (
      access_inside v legal c.requires.access,
      waits_plan v.core.program v.core.sizes v.view.by v.view (Station c.args.access.station) c.args.access role c.requires.access c.requires.load,
    )
