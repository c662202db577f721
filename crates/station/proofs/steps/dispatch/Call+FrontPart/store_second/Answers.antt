use Rattle.station.proofs.Places.{about_inside}
use Rattle.instructions.specs.Instruction.{second_of}
use Rattle.instructions.specs.Programs.{instr_of}
use Rattle.inorder.specs.Unit.{creator, next_tag, recent}
use Rattle.ruu_words.proofs.Drafting.{second_plan}
use Rattle.station.specs.Calls.{seen_unit}
use Rattle.station.specs.Letting.{supply_of}
use Rattle.station.proofs.Given.{given}
use Rattle.station.proofs.steps.dispatch.Call+FrontPart.store_second.Goals as goal

pub store-requires : goal.store-requires
store-requires c _ caller legal =
    let v = c.args.self.now in
    let t = c.args.tenant in
    let U = seen_unit v in (
      about_inside c.requires.letting,
      second_plan v.core.program v.core.sizes t.index t.predicted (supply_of t.sources.0) (supply_of t.sources.1) v.view.by v.view c.args.station c.args.word caller
          c.requires.letting.draft_is c.requires.letting.may.may
          c.requires.letting.station_is (given t.sources.1 (creator v.core.program U.tenants (second_of (instr_of v.core.program t.index))) (next_tag v.core.sizes (recent U)) c.args.word
          c.requires.word),
    )
