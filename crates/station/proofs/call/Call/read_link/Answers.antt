use Rattle.ruu_words.proofs.Linking.{link_read_plan}
use Rattle.station.proofs.call.Call.read_link.Goals as goal

pub load-requires : goal.load-requires
load-requires g c _ _ _ =
    let v = c.args.self.now in (
      c.requires,
      link_read_plan v.core.program v.core.sizes v.view.by v.view c.args.from c.args.to c.args.k,
    )
