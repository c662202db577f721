use Rattle.station.proofs.Places.{access_inside}
use Rattle.station.proofs.RetirePlans.{finds_plan}
use Rattle.station.proofs.steps.retire.Call+BackPart.read_data.Goals as goal

pub load-requires : goal.load-requires
load-requires c role _ legal =
    let v = c.args.self.now in (
      access_inside v legal c.requires,
      finds_plan v.core.program v.core.sizes v.view.by v.view c.args.access role c.requires,
    )
