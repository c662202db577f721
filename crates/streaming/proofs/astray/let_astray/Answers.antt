use Rattle.std.proofs.lemmas.Grind.{common_steps}
use Rattle.std.proofs.Common.{◌≡◌, ◌<◌, ◌+◌, ◌%◌, true, None, refl, sym, ap, ◌∙◌, arith, true≢false}
use Rattle.std.specs.Prelude.{slice_set}
use Rattle.instructions.specs.Instruction.{fixed_next}
use Rattle.streaming.specs.Flow.{in_order, window_of}
use Rattle.one_thread.specs.Window.{reaches_memory}
use Rattle.one_thread.specs.declared.pipeline.Pipeline.{Pipeline}
use Rattle.one_thread.proofs.BenchTurns.{guess_fixed}
use Rattle.streaming.proofs.LetAstray.{astray_decoded, astray_instr, astray_open, goes_astray, more_astray}
use Rattle.streaming.proofs.astray.let_astray.Goals.{else-is_access-via-then-is_access+else-unit-accesses, else-is_access-via-else-is_access}
use Rattle.streaming.proofs.astray.let_astray.Goals as goal

pub loop-count-init : goal.loop-count-init
loop-count-init g c = grind (arith, common_steps, astray_instr, astray_decoded, goes_astray)

pub loop-count-preserved : goal.loop-count-preserved
loop-count-preserved g c =
    let h = c.loop-count.invariant in
    let b = c.loop-count.unit in
    let old = c.args.unit.now in
    let flow = c.args.flow.now in
    let n = c.requires in
    let i = c.in-Some.next.now in
    let p = c.guess-pc.result in
    let later : Pipeline = record b { leavers = c.take_leaver-left.new.leavers } in
    let decoded = astray_decoded b old flow c.args.predicted h.rest n c.as_slice-in-loop-count.result.now c.as_slice-in-loop-count.ensures.value in
    let free : reaches_memory i.op ≡ true → c.loop-count.accesses < b.queue =
    λ e. elim c.else-is_access.branch [
      | else-is_access-via-then-is_access+else-unit-accesses w ↦ w.if-unit-accesses.false
      | else-is_access-via-else-is_access w ↦ absurd (true≢false (sym e ∙ sym c.is_access.ensures ∙ w.if-is_access.false))
    ] in
    let asked = c.guess-pc.ensures in
    let fixed = guess_fixed g.P.Predictor.Predicts g.P.Predictor.Learns (fixed_next i c.loop-count.half c.loop-count.pc) c.loop-count.pc i p asked.middle c.guess-pc.new.predictor asked.asked in
    record {
      instr = h.instr;
      is = h.is;
      astray = more_astray (in_order b flow) (in_order later flow) (window_of old flow) _ (record { instr = i; half = c.loop-count.half; pc = c.loop-count.pc })
          c.loop-count.accesses c.loop-count.count p
          c.half_behind-half-in-loop-count.result c.access-accesses.result h.astray
          (astray_open b old flow c.args.predicted h.rest n) (omega (arith, c.loop-count-test.true, ap (λ (q : Pipeline). q.ring) h.rest))
          (sym (c.in-Some.ensures b.program.now decoded)) free c.guess-pc.type_inv fixed
          (c.take_leaver-left.ensures.none ∙ ap (λ k. slice_set b.leavers k None)
          (c.wrapped-station.ensures.value ∙ ap (λ k. (k + c.loop-count.count) % b.ring) c.station.ensures))
          refl c.half_behind-half-in-loop-count.ensures c.access-accesses.ensures.value;
      rest = ap (λ (q : Pipeline). record q { leavers = c.take_leaver-left.new.leavers }) h.rest;
    }
