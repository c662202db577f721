use Rattle.std.proofs.lemmas.Grind.{common_steps}
use Rattle.std.proofs.Common.{refl, arith}
use Rattle.one_thread.proofs.Start.{start_stands, start_unit}
use Rattle.one_thread.proofs.pipeline.Pipeline.new.Goals as goal

pub returns-clause-unit : goal.returns-clause-unit
returns-clause-unit c = grind (arith, common_steps, start_unit)

pub returns-clause-fresh : goal.returns-clause-fresh
returns-clause-fresh c = start_stands _ c.in_ok-window.ensures c.in_ok-committed.ensures refl refl refl refl (omega (arith, c.ring.ensures.most))
