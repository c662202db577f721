use Rattle.std.proofs.lemmas.Grind.{common_steps}
use Rattle.std.proofs.Common.{◌≡◌, ◌-◌, drop, sym, ap, ◌∙◌, subst, arith, length-set}
use Rattle.inorder.specs.Machine.{write}
use Rattle.one_thread.specs.Decoding.{IsDecoded}
use Rattle.streaming.specs.Kept.{registers_before}
use Rattle.streaming.proofs.Completions.{has_instr}
use Rattle.streaming.proofs.Kept.{before_at, write_set}
use Rattle.streaming.proofs.streaming.registers_before.Goals.{After-number-r}
use Rattle.streaming.proofs.streaming.registers_before.Goals as goal

pub fetch_known-instr-requires : goal.fetch_known-instr-requires
fetch_known-instr-requires c =
    let P = c.args.unit.now.program.now in
    has_instr P c.as_slice.result.now c.get-completed.result.pc (subst (λ l. IsDecoded l P) (sym c.as_slice.ensures.value) c.requires.code)
    (c.requires.there (c.loop-i.i - 1) c.get-completed.result c.get-completed.ensures)

next : (c : After-number-r) → write c.loop-i.registers c.number-r.result c.get-completed.result.kept ≡
    registers_before c.args.unit.now.program.now (drop (c.loop-i.i - 1) c.args.flow.now.ring.completed) c.args.flow.now.future.values
next c = grind (arith, common_steps, before_at)

pub loop-i-preserved-then-r-ne0 : goal.loop-i-preserved-then-r-ne0
loop-i-preserved-then-r-ne0 c = grind (arith, common_steps, write_set, next, length-set)

pub loop-i-preserved : goal.loop-i-preserved
loop-i-preserved c =
    record {
      inside = omega (arith, c.loop-i.invariant.inside);
      registers = ap (λ d. write c.loop-i.registers d c.get-completed.result.kept) (sym c.if-r-ne0.false) ∙ next (goal.at.loop-i-preserved c).After-number-r;
      all = c.loop-i.invariant.all;
    }
