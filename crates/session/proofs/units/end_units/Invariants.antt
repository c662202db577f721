use Rattle.std.proofs.Common.{vec_len}
use Rattle.session.specs.Workers.{AreAtWork}
use Rattle.session.proofs.units.end_units.Given as goal

-- those that are left hold their jobs
abbrev pub invariant-loop-unit : goal.invariant-loop-unit
invariant-loop-unit l = AreAtWork l.units.items

abbrev pub decreases-loop-unit : goal.decreases-loop-unit
decreases-loop-unit l = vec_len l.units
