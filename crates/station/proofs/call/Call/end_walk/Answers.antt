use Rattle.station.proofs.Places.{inside}
use Rattle.std.proofs.Common.{sym, subst}
use Rattle.ruu_words.specs.declared.place.Place.TheVariants.{Station}
use Rattle.station.specs.Carrying.{IsWriter}
use Rattle.station.proofs.WalkEnds.{end_plan}
use Rattle.station.proofs.call.Call.end_walk.Goals as goal

pub load-requires : goal.load-requires
load-requires g c role _ legal =
    let v = c.args.self.now in (
      inside v legal c.requires.served.named,
      end_plan v.core.program v.core.sizes v.view.by v.view (Station c.args.station) c.args.station c.args.tag c.args.value (subst IsWriter (sym role) c.requires.writer) c.requires.served,
    )
