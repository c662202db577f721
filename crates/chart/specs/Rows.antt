-- The rows of the live tenants of a run, as a turn left them.
use Rattle.std.specs.Prelude.{ℕ, ◌+◌, List, [], ◌∷◌, Option, Some, None, ◌==◌, if◌then◌else◌, slice_get}
use Rattle.inorder.specs.Unit.{can_be_written}
use Rattle.one_thread.specs.declared.station.Stage.{Stage}
use Rattle.one_thread.specs.declared.station.Stage.TheVariants.{Open, Addr, Done, Miss}
use Rattle.one_thread.specs.declared.station.Station.{Station}
use Rattle.chart.specs.declared.row.Row.{Row}
use Rattle.chart.specs.declared.live_rows.LiveRows.{LiveRows}
use Rattle.chart.specs.declared.lines.Line.{Line}
use Rattle.chart.specs.declared.lines.Style.{Style}

-- The turn at which a tenant was claimed and finished: the one after which it waits no more
abbrev pub ran_by : (turn : ℕ) → (before after : Stage) → Option ℕ → Option ℕ
ran_by turn Open Open ran = ran
ran_by turn Open _ ran = Some turn
ran_by turn _ _ ran = ran

-- The turn at which a load got its value, or a miss was mended
abbrev pub resolved_turn : (turn : ℕ) → (before after : Stage) → Option ℕ → Option ℕ
resolved_turn turn (Addr a) Done resolved_at = Some turn
resolved_turn turn (Miss x) Done resolved_at = Some turn
resolved_turn turn _ _ resolved_at = resolved_at

-- The row of a tenant that a turn left in this station, if it is live
abbrev pub seen : (turn : ℕ) → Row → Option Station → Row
seen turn r None = r
seen turn r (Some w) =
    record r {
      ran = ran_by turn r.station.stage w.stage r.ran;
      resolved_at = resolved_turn turn r.station.stage w.stage r.resolved_at;
      station = w;
    }

-- The rows after a turn, where the first of them is that of position i of the window
abbrev pub all_seen : (turn : ℕ) → List Station → (i : ℕ) → List Row → List Row
all_seen turn W i [] = []
all_seen turn W i (r ∷ rs) = seen turn r (slice_get W i) ∷ all_seen turn W (i + 1) rs

-- Producers that a new tenant waits for

-- The youngest of these tenants that writes a register, or the one that was found before them
abbrev pub writer_from : (register : ℕ) → Option Row → List Row → Option Row
writer_from register found [] = found
writer_from register found (r ∷ rs) =
    writer_from register (if r.station.destination == register then Some r else found) rs

-- The youngest tenant that writes a register
abbrev pub writer_of : (register : ℕ) → List Row → Option Row
writer_of register rows = writer_from register None rows

-- The position, where nothing was made
abbrev pub unmade_by : Option ℕ → ℕ → Option ℕ
unmade_by None position = Some position
unmade_by (Some v) position = None

-- The position of a tenant that has made nothing yet
abbrev pub unmade : Option Row → Option ℕ
unmade None = None
unmade (Some r) = unmade_by r.station.made r.position

-- The producer that has still to make what a new tenant reads from a register; none makes register 0
abbrev pub awaited : (register : ℕ) → List Row → Option ℕ
awaited register rows =
    if can_be_written register then unmade (writer_of register rows) else None

-- The live rows

-- Which lines are drawn; counts of the turns that were made, the tenants that were let and those that have retired; the
-- rows of the live ones, the oldest first; and the lines
pub record SoFar : Type 0 where
  pub style : Style
  pub turns : ℕ
  pub lets : ℕ
  pub retirements : ℕ
  pub rows : List Row
  pub lines : List Line

-- The content of the live rows
abbrev pub kept : LiveRows → SoFar
kept b =
    record {
      style = b.style;
      turns = b.turns;
      lets = b.lets;
      retirements = b.retirements;
      rows = b.rows.items;
      lines = b.lines.items;
    }

-- The content before the first turn
abbrev pub start_kept : Style → SoFar
start_kept s = record { style = s; turns = 0; lets = 0; retirements = 0; rows = []; lines = [] }
