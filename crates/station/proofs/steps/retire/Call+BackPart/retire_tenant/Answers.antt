use Rattle.station.proofs.Places.{leaving_inside}
use Rattle.station.proofs.RetirePlans.{leaves_plan}
use Rattle.station.proofs.steps.retire.Call+BackPart.retire_tenant.Goals as goal

pub swap-requires : goal.swap-requires
swap-requires c role _ legal =
    let v = c.args.self.now in (
      leaving_inside v legal c.requires.may,
      leaves_plan v.core.program v.core.sizes v.view.by v.view c.args.leaving c.args.word role c.requires.may c.requires.word,
    )
