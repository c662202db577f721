use Rattle.ruu_words.proofs.Reading.{info_read_plan}
use Rattle.station.proofs.call.Call.read_info.Goals as goal

pub load-requires : goal.load-requires
load-requires g c _ _ _ =
    let v = c.args.self.now in (
      c.requires,
      info_read_plan v.core.program v.core.sizes v.view.by v.view c.args.station,
    )
