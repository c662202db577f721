use Rattle.std.proofs.Common.{◌≡◌, ◌++◌, length, take}
use Rattle.chart.specs.Events.{squashes}
use Rattle.chart.proofs.live_rows.squash.Given as goal

-- those who stay, the events so far, and those to come
abbrev pub invariant-squashes : goal.invariant-squashes
invariant-squashes l = record {
  rows : take l.live l.rows.items ≡ take l.live l.fn.rows.items;
  text : l.events.items ++ squashes l.live l.rows.items ≡ l.fn.events.items ++ squashes l.live l.fn.rows.items;
}

abbrev pub decreases-squashes : goal.decreases-squashes
decreases-squashes l = length l.rows.items
