-- What became of the tenants at a turn, in the order of its steps.
use Rattle.std.specs.Prelude.{ℕ, List, [], ◌∷◌, ◌++◌, drop, length, map, Option, Some, None, nat_lt, if◌then◌else◌, reverse, slice_get, take}
use Rattle.instructions.specs.Instruction.{first_of, second_of}
use Rattle.one_thread.specs.declared.bench.Turn.{Turn}
use Rattle.one_thread.specs.declared.bench.Turn.TheVariants.{Let as Enters, Loaded, Ran, Recovered}
use Rattle.one_thread.specs.declared.station.Station.{Station}
use Rattle.chart.specs.declared.event.Event.{Event}
use Rattle.chart.specs.declared.event.Event.TheVariants.{Let, Moved, Left}
use Rattle.chart.specs.declared.event.Way.TheVariants.{Retired, Squashed}
use Rattle.chart.specs.declared.row.Row.{Row}
use Rattle.chart.specs.Blocked.{block_events, held_rows, no_rows}
use Rattle.chart.specs.Lines.{after_events, with_live}
use Rattle.chart.specs.Rows.{SoFar, all_seen, awaited}
use Rattle.counted_io.specs.Counted.{counted, raised}

-- All tenants after the first `live` are squashed, the youngest first
abbrev pub squashes : (live : ℕ) → List Row → List Event
squashes live rows = map (λ r. Left r Squashed) (reverse (drop live rows))

-- The tenant of a row goes on to the stage of its station
abbrev pub went_on : Option Row → Option Station → List Event
went_on (Some r) (Some w) = Moved r.position r.station.stage w.stage ∷ []
went_on _ _ = []

-- The tenant of this age goes on, by the window that a turn left and the rows of those that stay
abbrev pub moved_events : (age : ℕ) → List Station → List Row → List Event
moved_events age W rows = went_on (slice_get rows age) (slice_get W age)

-- The row of a tenant that enters this station
abbrev pub new_row : SoFar → Station → Row
new_row k w = record { position = k.lets; let_at = k.turns; ran = None; held = None; resolved_at = None; station = w }

-- A tenant was let after those of these rows, and waits for others
abbrev pub let_event : List Row → Row → Event
let_event rows r =
    Let r (awaited (first_of r.station.instr) rows) (awaited (second_of r.station.instr) rows)

-- The tenant that enters a station
abbrev pub entered_events : SoFar → Option Station → List Event
entered_events k None = []
entered_events k (Some w) = let_event k.rows (new_row k w) ∷ []

-- The rows after it has entered
abbrev pub entered : SoFar → Option Station → SoFar
entered k None = k
entered k (Some w) = record k { lets = raised k.lets; rows = k.rows ++ new_row k w ∷ [] }

-- The retirement of the oldest tenant, after n others
abbrev pub retired_event : (before : ℕ) → List Row → List Event
retired_event before [] = []
retired_event before (r ∷ rs) = Left r (Retired before) ∷ []

-- The oldest tenant retires, if fewer are live now
abbrev pub retired_events : (live : ℕ) → SoFar → List Event
retired_events live k = if nat_lt live (length k.rows) then retired_event k.retirements k.rows else []

-- The rows after it has retired
abbrev pub retired : (live : ℕ) → SoFar → SoFar
retired live k =
    record k {
      retirements = counted (nat_lt live (length k.rows)) k.retirements;
      rows = if nat_lt live (length k.rows) then drop 1 k.rows else k.rows;
    }

-- The tenants that leave, go on or enter by the step of a turn that left this window
abbrev pub step_events : SoFar → Turn → List Station → List Event
step_events k Enters W = entered_events k (slice_get W (length k.rows))
step_events k (Recovered age) W = squashes (length W) k.rows ++ moved_events age W (take (length W) k.rows)
step_events k (Ran age) W = moved_events age W k.rows
step_events k (Loaded age) W = moved_events age W k.rows
step_events k _ W = retired_events (length W) k

-- The rows of the tenants that are live after it, by their stations before it
abbrev pub stepped : SoFar → Turn → List Station → SoFar
stepped k Enters W = entered k (slice_get W (length k.rows))
stepped k (Recovered age) W = record k { rows = take (length W) k.rows }
stepped k (Ran age) W = k
stepped k (Loaded age) W = k
stepped k _ W = retired (length W) k

-- One turn more is counted
abbrev pub begun : SoFar → SoFar
begun k = record k { turns = raised k.turns }

-- The rows after a step, by the stations that it left
abbrev pub rows_seen : SoFar → List Station → List Row
rows_seen s W = all_seen s.turns W 0 s.rows

-- The events of a turn that left this window: those of its step, then the loads that begin to wait for a store
abbrev pub events : SoFar → Turn → List Station → List Event
events k answer W =
    step_events (begun k) answer W
    ++ block_events (stepped (begun k) answer W).turns no_rows (rows_seen (stepped (begun k) answer W) W)

-- The content after a step with these events: each row by the store that it waits for, and the lines
abbrev pub settled : SoFar → List Event → List Station → SoFar
settled s all W = record s { rows = held_rows s.turns (rows_seen s W); lines = after_events s.style s.turns s.lines all }

-- The content after a turn that left this window
abbrev pub next_kept : SoFar → Turn → List Station → SoFar
next_kept k answer W = settled (stepped (begun k) answer W) (events k answer W) W

-- The content with the lines of the tenants that are still live
abbrev pub closed : SoFar → SoFar
closed k = record k { lines = with_live k.style (raised k.turns) k.lines k.rows }
