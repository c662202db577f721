use Rattle.std.proofs.Common.{◌<◌, ◌-◌, length, sym, ◌∙◌, arith}
use Rattle.one_thread.proofs.Fetching.{read_slot}
use Rattle.one_thread.proofs.Sources.{source_found, source_passed}
use Rattle.one_thread.proofs.source.youngest_writer.Goals as goal

pub returns-then-number-clause-behind : goal.returns-then-number-clause-behind
returns-then-number-clause-behind c v =
    let inside : c.loop-at.at - 1 < length c.args.tenants.now = omega (arith, c.loop-at.invariant.inside, c.loop-at-test.true) in
    let there = read_slot c.args.tenants.now (c.loop-at.at - 1) c.index-tenants-at.result inside c.index-tenants-at.is in
    c.loop-at.invariant.same v ∙ source_found c.args.r v c.args.tenants.now c.loop-at.at c.index-tenants-at.result c.loop-at-test.true there (sym c.number.ensures.value ∙ c.if-number.true ∙ c.number-in-loop-at.ensures.value)

pub loop-at-preserved : goal.loop-at-preserved
loop-at-preserved c =
    let inside : c.loop-at.at - 1 < length c.args.tenants.now = omega (arith, c.loop-at.invariant.inside, c.loop-at-test.true) in
    let there = read_slot c.args.tenants.now (c.loop-at.at - 1) c.index-tenants-at.result inside c.index-tenants-at.is in
    record {
      inside = omega (arith, inside);
      same = λ v. c.loop-at.invariant.same v ∙ source_passed c.args.r v c.args.tenants.now c.loop-at.at c.index-tenants-at.result c.loop-at-test.true there
          (λ e. c.if-number.false (c.number.ensures.value ∙ e ∙ sym c.number-in-loop-at.ensures.value));
    }
