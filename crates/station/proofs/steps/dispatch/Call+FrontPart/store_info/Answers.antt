use Rattle.station.proofs.Places.{about_inside}
use Rattle.std.proofs.Common.{◌∙◌}
use Rattle.ruu_words.proofs.Drafting.{info_plan}
use Rattle.station.specs.Letting.{supply_of}
use Rattle.station.proofs.steps.dispatch.Call+FrontPart.store_info.Goals as goal

pub store-requires : goal.store-requires
store-requires c _ caller legal =
    let v = c.args.self.now in
    let t = c.args.tenant in (
      about_inside c.requires.letting,
      info_plan v.core.program v.core.sizes t.index t.predicted (supply_of t.sources.0) (supply_of t.sources.1) v.view.by v.view c.args.station c.args.word caller
          c.requires.letting.draft_is c.requires.letting.may.may
          c.requires.letting.may.tag c.requires.letting.station_is (c.requires.word.half ∙ c.requires.letting.may.half) c.requires.word.index c.requires.word.predicted,
    )
