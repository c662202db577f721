-- A run by choice goes on as the in-order machine does, by the turns that its chooser names.
use Rattle.std.proofs.lemmas.Grind.{common_steps}
use Rattle.std.proofs.Common.{◌≤◌, ◌<◌, ◌-◌, suc, refl, ap, ◌∙◌, subst, arith}
use Rattle.inorder.specs.Runs.{end_from}
use Rattle.one_thread.specs.StandsFor.{StandsForSome}
use Rattle.one_thread.specs.declared.bench.Turn.TheVariants.{Over}
use Rattle.one_thread.proofs.ChosenTurns.{moves_by}
use Rattle.one_thread.proofs.Ends.{ends_over, ends_same, left_falls}
use Rattle.one_thread.proofs.bench.Bench.run_to_by.Goals as goal

pub returns-then-limit-count-clause-chooser : goal.returns-then-limit-count-clause-chooser
returns-then-limit-count-clause-chooser g c =
    let b = c.loop-self.self in
    let count = ap (λ x. x.pipeline.committed.count) c.self.view_is in
    let full : c.args.limit ≤ b.pipeline.committed.count = omega (arith, count, c.count.ensures, c.if-limit-count.true) in
    let kept = c.loop-self.invariant in
    record { turns = kept.turns; before = b; asked = c.loop-self.chooser; are = kept.are; later = b; ends = (full, refl, refl); state = refl }

pub returns-in-Over-clause-end : goal.returns-in-Over-clause-end
returns-in-Over-clause-end g c =
    let b = c.loop-self.self in
    let later = c.turn_by.new.self in
    let unit : StandsForSome b.pipeline = subst (λ x. StandsForSome x.pipeline) c.self.view_is c.self.invariant in
    let count = ap (λ x. x.pipeline.committed.count) c.self.view_is in
    let below : b.pipeline.committed.count < c.args.limit = omega (arith, count, c.count.ensures, c.if-limit-count.false) in
    let moves = moves_by g.P.Predictor.Predicts g.P.Predictor.Learns g.C.Chooser.Chooses b later c.loop-self.chooser c.turn_by.new.chooser (Over c.in-Over.code) c.in-Over.ensures.turn in
    ends_over c.args.limit b.pipeline later.pipeline c.in-Over.code unit moves c.in-Over.ensures.same below c.in-Over.ensures.falls ∙ c.loop-self.invariant.ends

pub returns-in-Over-clause-chooser : goal.returns-in-Over-clause-chooser
returns-in-Over-clause-chooser g c =
    let b = c.loop-self.self in
    let count = ap (λ x. x.pipeline.committed.count) c.self.view_is in
    let below : b.pipeline.committed.count < c.args.limit = omega (arith, count, c.count.ensures, c.if-limit-count.false) in
    let kept = c.loop-self.invariant in
    record {
      turns = kept.turns;
      before = b;
      asked = c.loop-self.chooser;
      are = kept.are;
      later = c.turn_by.new.self;
      ends = record { below = below; turn = c.in-Over.ensures.turn; same = c.in-Over.ensures.same };
      state = refl;
    }

pub loop-self-smaller : goal.loop-self-smaller
loop-self-smaller g c = grind (arith, common_steps, left_falls)

pub loop-self-preserved : goal.loop-self-preserved
loop-self-preserved g c =
    let b = c.loop-self.self in
    let later = c.turn_by.new.self in
    let unit : StandsForSome b.pipeline = subst (λ x. StandsForSome x.pipeline) c.self.view_is c.self.invariant in
    let count = ap (λ x. x.pipeline.committed.count) c.self.view_is in
    let below : b.pipeline.committed.count < c.args.limit = omega (arith, count, c.count.ensures, c.if-limit-count.false) in
    let moves = moves_by g.P.Predictor.Predicts g.P.Predictor.Learns g.C.Chooser.Chooses b later c.loop-self.chooser c.turn_by.new.chooser c.turn_by.result c.turn_by.ensures.turn in
    record {
      program = c.turn_by.ensures.same.program ∙ c.loop-self.invariant.program;
      ends = ap (λ P. end_from P.now (c.args.limit - later.pipeline.committed.count) later.pipeline.committed) c.turn_by.ensures.same.program
          ∙ ends_same c.args.limit b.pipeline later.pipeline c.turn_by.result unit moves c.turn_by.ensures.same below c.in_default.not-Over c.turn_by.ensures.falls
          ∙ c.loop-self.invariant.ends;
      turns = suc c.loop-self.invariant.turns;
      are = (b, c.loop-self.chooser, c.turn_by.result, c.loop-self.invariant.are, record { below = below; turn = c.turn_by.ensures.turn; same = c.turn_by.ensures.same });
    }
