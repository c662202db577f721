-- The operations that name their target.
use Rattle.std.specs.Prelude.{Bool, true}
use Rattle.instructions.specs.declared.op.Op.{Op}
use Rattle.instructions.specs.declared.op.Op.TheVariants.{J, Jal}
use Rattle.instructions.specs.Instruction.{is_branch}

-- whether the number of an instruction with this operation is the address of its target
abbrev pub names_target : Op → Bool
names_target J = true
names_target Jal = true
names_target op = is_branch op
