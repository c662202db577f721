-- Turns up to a retirement.
use Rattle.std.proofs.lemmas.Grind.{common_steps}
use Rattle.std.proofs.Common.{◌≡◌, suc, ◌<◌, ◌-◌, ap, ◌∙◌, arith}
use Rattle.inorder.specs.Runs.{end_from}
use Rattle.one_thread.specs.Turns.{fields}
use Rattle.one_thread.specs.declared.bench.Turn.TheVariants.{Over}
use Rattle.one_thread.proofs.Ends.{counts_on, ends_over, ends_same, left_falls}
use Rattle.one_thread.proofs.FirstSteps.{turn_moves}
use Rattle.streaming.proofs.running.retire_one.Goals.{After-turn}
use Rattle.streaming.proofs.running.retire_one.Given.{Over as Given}
use Rattle.streaming.proofs.running.retire_one.Goals as goal

-- Before a turn
same : (g : Given) (c : After-turn g) → c.loop-unit.unit.committed.count ≡ c.args.unit.now.committed.count
same g c = grind (arith, common_steps)

pub returns-in-Over-clause-ends : goal.returns-in-Over-clause-ends
returns-in-Over-clause-ends g c limit less =
    let at = goal.at.returns-in-Over-clause-ends g c in
    let b = c.loop-unit.unit in
    let below : b.committed.count < limit = omega (arith, less, same g at.After-turn) in
    let moves = turn_moves g.P.Predictor.Predicts g.P.Predictor.Learns (fields b c.loop-unit.predictor) (fields c.turn.new.self c.turn.new.predictor) (Over c.in-Over.code) c.in-Over.ensures.turn in
    ends_over limit b c.turn.new.self c.in-Over.code c.loop-unit.invariant.unit moves c.in-Over.ensures.same below c.in-Over.ensures.falls ∙ c.loop-unit.invariant.ends limit less

pub loop-unit-smaller : goal.loop-unit-smaller
loop-unit-smaller g c =
    let here = same g (goal.at.loop-unit-smaller g c).After-turn in
    left_falls (suc c.args.unit.now.committed.count) c.loop-unit.unit c.turn.new.self c.turn.result (omega (arith, here)) c.in_default.not-Over c.turn.ensures.falls

pub loop-unit-preserved : goal.loop-unit-preserved
loop-unit-preserved g c =
    let at = goal.at.loop-unit-preserved g c in
    let b = c.loop-unit.unit in
    let later = c.turn.new.self in
    let moves = turn_moves g.P.Predictor.Predicts g.P.Predictor.Learns (fields b c.loop-unit.predictor) (fields later c.turn.new.predictor) c.turn.result c.turn.ensures.turn in
    let more = counts_on b later c.turn.result c.turn.ensures.falls in
    record {
      unit = c.turn.ensures.unit;
      program = c.turn.ensures.same.program ∙ c.loop-unit.invariant.program;
      more = omega (arith, more, c.loop-unit.invariant.more);
      ends = λ limit less.
          let below : b.committed.count < limit = omega (arith, less, same g at.After-turn) in
          ap (λ P. end_from P.now (limit - later.committed.count) later.committed) c.turn.ensures.same.program
          ∙ ends_same limit b later c.turn.result c.loop-unit.invariant.unit moves c.turn.ensures.same below c.in_default.not-Over c.turn.ensures.falls
          ∙ c.loop-unit.invariant.ends limit less;
    }
