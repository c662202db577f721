use Rattle.std.proofs.Common.{◌<◌, arith, length, sym, ◌∙◌, ap, subst}
use Rattle.std.specs.Prelude.{slice_get}
use Rattle.std.proofs.lemmas.Option.{slice_get_within}
use Rattle.one_thread.proofs.Fetching.{index_is, index_known, read_slot}
use Rattle.one_thread.proofs.fetch.fetch_known.Goals as goal

pub bounds-code-at : goal.bounds-code-at
bounds-code-at c =
    let r = c.requires in
    let there = index_known r.program c.args.code.now c.args.pc r.instr r.decoded c.ranges.pc.fits r.is in
    subst (λ n. n < length c.args.code.now) (sym c.index_of-at.ensures) (slice_get_within c.args.code.now _ r.instr there)

pub offset_bounds-code-at : goal.offset_bounds-code-at
offset_bounds-code-at c = let few = c.requires.decoded.few in let inside = bounds-code-at c in omega (arith, inside, few)

pub returns : goal.returns
returns c P d =
    let r = c.requires in
    let there = index_known r.program c.args.code.now c.args.pc r.instr r.decoded c.ranges.pc.fits r.is in
    let inside = slice_get_within c.args.code.now _ r.instr there in
    sym (index_is P c.args.code.now c.args.pc d c.ranges.pc.fits inside)
    ∙ ap (slice_get c.args.code.now) (sym c.index_of-at.ensures)
    ∙ read_slot c.args.code.now _ c.index-code-at.result (subst (λ n. n < length c.args.code.now) (sym c.index_of-at.ensures) inside) c.index-code-at.is
