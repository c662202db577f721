use Rattle.std.proofs.Common.{◌≡◌, drop}
use Rattle.chart.specs.Rows.{writer_from, writer_of}
use Rattle.chart.proofs.waits.writer_of.Given as goal

-- who was found so far, and the rows to come
abbrev pub invariant-loop-row : goal.invariant-loop-row
invariant-loop-row l = writer_from l.register l.found (drop l.row-index l.rows) ≡ writer_of l.register l.rows
