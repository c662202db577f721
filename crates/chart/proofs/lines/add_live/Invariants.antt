use Rattle.std.proofs.Common.{◌≡◌, drop}
use Rattle.chart.specs.Lines.{with_live}
use Rattle.chart.proofs.lines.add_live.Given as goal

-- the lines so far, and the rows to come
abbrev pub invariant-loop-row : goal.invariant-loop-row
invariant-loop-row l =
    with_live l.style l.turn l.lines.items (drop l.row-index l.rows) ≡ with_live l.style l.turn l.fn.lines.items l.rows
