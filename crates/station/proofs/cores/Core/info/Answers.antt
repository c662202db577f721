use Rattle.std.proofs.Common.{ℕ, sym, subst}
use Rattle.instructions.specs.declared.op.Half.{Half}
use Rattle.station.specs.Looking.{SeesInfo}
use Rattle.station.proofs.Reading.{sees_info}
use Rattle.station.proofs.cores.Core.info.Goals as goal

pub returns-clause-reply : goal.returns-clause-reply
returns-clause-reply c =
    let core = c.args.self.now in
    let h = c.read-word.new.seat.seen in
    subst (λ (z : ℕ × Half × ℕ). SeesInfo core.program core.sizes h c.args.station z.0 z.1 z.2)
    (λ i. (sym c.unpack-half.ensures.index i, sym c.unpack-half.ensures.half i, sym c.unpack-half.ensures.predicted i))
    (sees_info core.program core.sizes h c.read-word.ensures.looked.adds.legal c.args.station c.read-word.result c.read-word.ensures.reply)
