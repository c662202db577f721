use Rattle.std.proofs.Common.{◌≡◌, ◌∙◌, ◌++◌, ap}
use Rattle.chart.specs.Blocked.{block_events, held_rows, no_rows}
use Rattle.chart.specs.Events.{events}
use Rattle.chart.specs.Lines.{after_events}
use Rattle.chart.specs.Rows.{SoFar, all_seen, kept}
use Rattle.chart.proofs.LiveRowsKept.{turn_events, turn_kept}
use Rattle.chart.proofs.live_rows.LiveRows.turn.Goals as goal

pub returns-clause-events : goal.returns-clause-events
returns-clause-events g c =
    let W = c.args.bench.now.pipeline.window in
    let s : SoFar = kept c.step.new.self in
    turn_events (kept c.args.self.now) c.args.answer W c.raised-self.result s c.raised-self.ensures c.in_ok-step.ensures.kept c.new-events.result.items
    c.step.new.events.items c.hold.new.events.items c.new-events.ensures.items c.in_ok-step.ensures.events
    (c.in_ok-rows.ensures.events ∙ ap (λ l. c.step.new.events.items ++ block_events s.turns no_rows (all_seen s.turns W 0 l)) c.as_slice.ensures.value)

pub returns-clause-kept : goal.returns-clause-kept
returns-clause-kept g c =
    let W = c.args.bench.now.pipeline.window in
    let s : SoFar = kept c.step.new.self in
    let told : c.hold.new.events.items ≡ events (kept c.args.self.now) c.args.answer W =
    turn_events (kept c.args.self.now) c.args.answer W c.raised-self.result s c.raised-self.ensures c.in_ok-step.ensures.kept c.new-events.result.items
    c.step.new.events.items c.hold.new.events.items c.new-events.ensures.items c.in_ok-step.ensures.events
    (c.in_ok-rows.ensures.events ∙ ap (λ l. c.step.new.events.items ++ block_events s.turns no_rows (all_seen s.turns W 0 l)) c.as_slice.ensures.value) in
    turn_kept (kept c.args.self.now) c.args.answer W c.raised-self.result s c.raised-self.ensures c.in_ok-step.ensures.kept _ _ c.hold.new.events.items
    (c.in_ok-rows.ensures.rows ∙ ap (λ l. held_rows s.turns (all_seen s.turns W 0 l)) c.as_slice.ensures.value) told
    (c.in_ok-note_all.ensures ∙ ap (after_events s.style s.turns s.lines) c.as_slice-2.ensures.value)
