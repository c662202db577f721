use Rattle.std.proofs.Common.{◌∙◌, sym, arith}
use Rattle.isa.proofs.HeldLabels.{added_done, added_double, added_more}
use Rattle.isa.proofs.listing.labels.add_labels.Goals as goal

pub returns-in-Err-clause-double : goal.returns-in-Err-clause-double
returns-in-Err-clause-double c = λ apart.
    let twice = c.in-Err.ensures.double apart in
    (twice.0, λ held are. added_double c.loop-name.labels held c.args.address c.loop-name.n _ _ (c.loop-name.invariant.labels held are) _ _ c.in-Some.ensures.label twice.1)

pub loop-name-preserved : goal.loop-name-preserved
loop-name-preserved c = record {
  size = omega (arith, c.in-Some.ensures.shorter, c.loop-name.invariant.size);
  text = sym c.in-Some.ensures.statement ∙ c.loop-name.invariant.text;
  labels = λ held are.
      added_more c.loop-name.labels held c.args.address c.loop-name.n _ _ (c.loop-name.invariant.labels held are) c.in-Some.name.now _ c.in-Some.ensures.label
      c.add_label.new.labels c.in_default-add_label.ensures.ok;
}

pub returns-clause-added : goal.returns-clause-added
returns-clause-added c = λ held are.
    added_done c.loop-name.labels held c.args.address c.loop-name.n _ _ (c.loop-name.invariant.labels held are) c.in_default.ensures.no_label
