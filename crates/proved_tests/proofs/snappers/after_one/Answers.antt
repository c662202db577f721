use Rattle.std.proofs.Common.{refl}
use Rattle.instructions.specs.Programs.{instr_at}
use Rattle.instructions.specs.Operations.{computed_by}
use Rattle.proved_tests.proofs.snappers.after_one.Goals as goal

pub returns-clause-snap : goal.returns-clause-snap
unfolding instr_at computed_by
returns-clause-snap c = refl
