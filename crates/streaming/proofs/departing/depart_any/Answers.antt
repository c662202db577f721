use Rattle.std.proofs.Common.{refl, sym, ap, subst}
use Rattle.one_thread.specs.Decoding.{IsDecoded}
use Rattle.streaming.specs.Flow.{in_order}
use Rattle.streaming.specs.declared.flow.Flow.{Flow}
use Rattle.one_thread.specs.declared.pipeline.Pipeline.{Pipeline}
use Rattle.streaming.proofs.Completions.{has_instr}
use Rattle.streaming.proofs.FlowOut.{oldest_counted, oldest_inside, oldest_of}
use Rattle.streaming.proofs.FlowLeft.{HasGone, gone}
use Rattle.streaming.proofs.departing.depart_any.Goals as goal

pub fetch_known-instr-requires : goal.fetch_known-instr-requires
fetch_known-instr-requires c =
    let x = c.args.unit.now in
    has_instr x.program.now c.as_slice.result.now c.oldest.result.now.pc (subst (λ l. IsDecoded l x.program.now) (sym c.as_slice.ensures.value) c.requires.flow.flows.unit.code)
    (c.requires.flow.flows.flowing.there 0 c.oldest.result.now c.oldest.ensures)

pub retire-requires-clause-counted : goal.retire-requires-clause-counted
retire-requires-clause-counted c =
    let x = in_order c.args.unit.now c.args.flow.now in
    let i = c.fetch_known-instr.result.now in
    let oldest = c.oldest.result.now in
    oldest_counted x c.args.flow.now i oldest
    (oldest_of c.args.unit.now c.args.flow.now i oldest c.as_slice.result.now c.requires.flow c.requires.some c.oldest.ensures c.as_slice.ensures.value c.fetch_known-instr.ensures)

pub retire-requires-clause-inside : goal.retire-requires-clause-inside
retire-requires-clause-inside c =
    let x = in_order c.args.unit.now c.args.flow.now in
    let i = c.fetch_known-instr.result.now in
    let oldest = c.oldest.result.now in
    oldest_inside x c.args.flow.now i oldest
    (oldest_of c.args.unit.now c.args.flow.now i oldest c.as_slice.result.now c.requires.flow c.requires.some c.oldest.ensures c.as_slice.ensures.value c.fetch_known-instr.ensures)

pub returns-clause-departed : goal.returns-clause-departed
returns-clause-departed c =
    let b = c.args.unit.now in
    let flow = c.args.flow.now in
    let i = c.fetch_known-instr.result.now in
    let oldest = c.oldest.result.now in
    let r = c.retire.ensures in
    let later : Pipeline = record b { committed = c.retire.new.committed; low = c.retire.new.low } in
    let after : Flow = c.retire.new.flow in
    let here = oldest_of b flow i oldest c.as_slice.result.now c.requires.flow c.requires.some c.oldest.ensures c.as_slice.ensures.value c.fetch_known-instr.ensures in
    let left : HasGone b later flow after i oldest c.retire.result =
    record {
      flows = c.requires.flow;
      some = c.requires.some;
      is = c.oldest.ensures;
      instr = here.instr;
      ring = r.ring;
      accesses = r.accesses;
      last = ap (λ (g : Flow). g.last) r.rest;
      future = ap (λ (g : Flow). g.future) r.rest;
      half = ap (λ (g : Flow). g.half) r.rest;
      held = r.held;
      passes = r.committed;
      low = r.low;
      told_is = r.told;
      rest = refl;
    } in
    gone b later flow after i oldest c.retire.result left
