use Rattle.std.proofs.Common.{string_bytes}
use Rattle.session.specs.Turns.{AreTried, row_commands}
use Rattle.session.proofs.tables.table.Given as goal

-- the commands of n rows were tried
abbrev pub invariant-loop-row : goal.invariant-loop-row
invariant-loop-row g l = AreTried l.number l.fn.session (row_commands l.fn.session.core.sizes.ring l.row) (string_bytes l.out) l.session
