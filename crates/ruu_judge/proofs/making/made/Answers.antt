use Rattle.std.proofs.Common.{ap, ◌∙◌}
use Rattle.ruu_judge.specs.declared.held.Held.{Held}
use Rattle.ruu_judge.proofs.making.made.Goals as goal

pub returns-clause-ok : goal.returns-clause-ok
returns-clause-ok c = record {
  program = c.in-Ok.program;
  unit = c.in_ok-unit.unit;
  listing = c.in-Ok.ensures.ok;
  is = ap (λ (h : Held). h.found) c.in_ok-new.ensures.ok ∙ c.new-2.ensures.found;
  new = c.in_ok-unit.ensures;
}
