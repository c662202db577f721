-- The lines of a chart, from turn to turn: one for each of the tenants that were let first.
use Rattle.std.specs.Prelude.{ℕ, List, [], ◌∷◌, ◌++◌, length, Some, None, nat_lt, set, if◌then◌else◌}
use Rattle.chart.specs.declared.event.Event.{Event}
use Rattle.chart.specs.declared.event.Event.TheVariants.{Left, Let}
use Rattle.chart.specs.declared.lines.Line.{Line}
use Rattle.chart.specs.declared.row.Row.{Row}
use Rattle.chart.specs.declared.lines.Style.{Style}

-- A line in the place of its row, or at the end
abbrev pub placed : List Line → Line → List Line
placed lines l = if nat_lt l.row.position (length lines) then set lines l.row.position l else lines ++ l ∷ []

-- A line more: in the order of the program its tenant has a place
abbrev pub added : Style → List Line → Line → List Line
added s lines l =
    if nat_lt l.row.position s.rows
    then (if s.by_leave then lines ++ l ∷ [] else placed lines l)
    else lines

-- The lines after an event: in the order of the program a tenant has its line from its let on
abbrev pub after_event : Style → (turn : ℕ) → List Line → Event → List Line
after_event s turn lines (Let r first second) =
    if s.by_leave then lines else added s lines (record { row = r; turn = turn; way = None })
after_event s turn lines (Left r way) = added s lines (record { row = r; turn = turn; way = Some way })
after_event s turn lines _ = lines

-- The lines after the events of a turn
abbrev pub after_events : Style → (turn : ℕ) → List Line → List Event → List Line
after_events s turn lines [] = lines
after_events s turn lines (e ∷ es) = after_events s turn (after_event s turn lines e) es

-- The lines with those of the tenants that are still live
abbrev pub with_live : Style → (turn : ℕ) → List Line → List Row → List Line
with_live s turn lines [] = lines
with_live s turn lines (r ∷ rs) = with_live s turn (added s lines (record { row = r; turn = turn; way = None })) rs
