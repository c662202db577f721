use Rattle.station.specs.declared.answers.Seen.{Seen}
use Rattle.station.specs.declared.answers.SourceState.{SourceState}
use Rattle.station.proofs.Reading.{sees_operand}
use Rattle.station.proofs.cores.Core.operand.Goals as goal

pub returns-clause-reply : goal.returns-clause-reply
returns-clause-reply c =
    let core = c.args.self.now in
    let seen : Seen SourceState = record { tag = c.unpack-tag.result.tag; state = c.source_state-state.result; value = c.unpack-tag.result.value } in
    sees_operand core.program core.sizes c.read-word.new.seat.seen c.read-word.ensures.looked.adds.legal c.args.station c.args.k c.read-word.result seen c.unpack-tag.ensures.tag
    c.source_state-state.ensures
    c.unpack-tag.ensures.value c.read-word.ensures.reply
