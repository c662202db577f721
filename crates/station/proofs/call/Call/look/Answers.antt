use Rattle.station.proofs.Looks.{sees_plan}
use Rattle.station.proofs.call.Call.look.Goals as goal

pub load-requires : goal.load-requires
load-requires g c _ _ _ =
    let v = c.args.self.now in (
      c.requires,
      sees_plan v.core.program v.core.sizes v.view.by v.view c.args.place,
    )
