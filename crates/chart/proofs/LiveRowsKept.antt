-- The live rows after a turn: those of its step, as the turn left them.
use Rattle.std.proofs.Common.{◌≡◌, ℕ, List, [], ◌++◌, ap, ◌∙◌}
use Rattle.one_thread.specs.declared.bench.Turn.{Turn}
use Rattle.one_thread.specs.declared.station.Station.{Station}
use Rattle.chart.specs.declared.event.Event.{Event}
use Rattle.chart.specs.declared.lines.Line.{Line}
use Rattle.chart.specs.declared.row.Row.{Row}
use Rattle.chart.specs.Blocked.{block_events, held_rows, no_rows}
use Rattle.chart.specs.Events.{begun, events, next_kept, rows_seen, settled, step_events, stepped}
use Rattle.chart.specs.Lines.{after_events}
use Rattle.chart.specs.Rows.{SoFar}
use Rattle.counted_io.specs.Counted.{raised}

module _ (k : SoFar) (answer : Turn) (W : List Station) (turn : ℕ) (s : SoFar)
    (is : turn ≡ raised k.turns) (step : s ≡ stepped (record k { turns = turn }) answer W) where
  same : s ≡ stepped (begun k) answer W
  same = step ∙ ap (λ n. stepped (record k { turns = n }) answer W) is

  pub turn_events : (none first all : List Event) → none ≡ [] → first ≡ none ++ step_events (record k { turns = turn }) answer W →
      all ≡ first ++ block_events s.turns no_rows (rows_seen s W) → all ≡ events k answer W
  turn_events none first all nothing steps blocks =
      blocks
      ∙ ap (λ l. l ++ block_events s.turns no_rows (rows_seen s W))
      (steps ∙ ap (λ l. l ++ step_events (record k { turns = turn }) answer W) nothing
      ∙ ap (λ n. step_events (record k { turns = n }) answer W) is)
      ∙ ap (λ x. step_events (begun k) answer W ++ block_events x.turns no_rows (rows_seen x W)) same

  pub turn_kept : (rows : List Row) (lines : List Line) (all : List Event) → rows ≡ held_rows s.turns (rows_seen s W) → all ≡ events k answer W →
      lines ≡ after_events s.style s.turns s.lines all → record s { rows = rows; lines = lines } ≡ next_kept k answer W
  turn_kept rows lines all holds told draws =
      ap (λ x. record s { rows = x; lines = lines }) holds
      ∙ ap (λ x. record s { rows = held_rows s.turns (rows_seen s W); lines = x }) (draws ∙ ap (after_events s.style s.turns s.lines) told)
      ∙ ap (λ x. settled x (events k answer W) W) same
