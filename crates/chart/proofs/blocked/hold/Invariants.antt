use Rattle.std.proofs.Common.{◌≡◌, ◌++◌, drop}
use Rattle.chart.specs.Blocked.{all_held, block_events, no_rows, queued}
use Rattle.chart.specs.Rows.{all_seen}
use Rattle.chart.proofs.blocked.hold.Given as goal

-- the queue and the events so far, and the rows to come
abbrev pub invariant-loop-age : goal.invariant-loop-age
invariant-loop-age g l = record {
  rows : all_held l.turn (queued l.queue) (all_seen l.turn l.bench.pipeline.window l.age (drop l.age l.rows))
      ≡ all_held l.turn no_rows (all_seen l.turn l.bench.pipeline.window 0 l.rows);
  events : l.events.items ++ block_events l.turn (queued l.queue) (all_seen l.turn l.bench.pipeline.window l.age (drop l.age l.rows))
      ≡ l.fn.events.items ++ block_events l.turn no_rows (all_seen l.turn l.bench.pipeline.window 0 l.rows);
}
