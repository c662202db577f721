use Rattle.std.proofs.Common.{◌≡◌, drop}
use Rattle.chart.specs.Lines.{after_events}
use Rattle.chart.proofs.lines.note_all.Given as goal

-- the lines so far, and the events to come
abbrev pub invariant-loop-event : goal.invariant-loop-event
invariant-loop-event l =
    after_events l.style l.turn l.lines.items (drop l.event-index l.events)
    ≡ after_events l.style l.turn l.fn.lines.items l.events
