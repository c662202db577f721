use Rattle.std.proofs.lemmas.Grind.{common_steps}
use Rattle.std.proofs.Common.{◌≡◌, ◌<◌, ◌≤◌, length, rules, sym, ap, ◌∙◌, subst, arith}
use Rattle.std.proofs.lemmas.List.{take_all}
use Rattle.one_thread.specs.Changes.{registers_of}
use Rattle.streaming.specs.Flow.{HasJoined, window_of}
use Rattle.streaming.specs.Kept.{HasKept, kept_with}
use Rattle.one_thread.specs.Leavers.{LeavesAs}
use Rattle.streaming.specs.declared.completed_ring.Completed.{Completed}
use Rattle.one_thread.specs.declared.station.Station.{Station}
use Rattle.streaming.proofs.Completions.{station_is, stations_long}
use Rattle.streaming.proofs.FlowJoins.{joined, joined_window}
use Rattle.streaming.proofs.FlowKept.{begins, begins_in_order, joins_kept}
use Rattle.streaming.proofs.Kept.{kept_now, set_zero, zero_held}
use Rattle.streaming.proofs.FlowStays.{begun, room_among, taken}
use Rattle.streaming.proofs.Flowing.{registers_all}
use Rattle.streaming.proofs.streaming.flow_of.Goals.{After-operands-content}
use Rattle.streaming.proofs.streaming.flow_of.Goals as goal

pub behind-requires : goal.behind-requires
behind-requires c = ap (λ s. length s.registers) c.ahead.ensures ∙ registers_all c.args.unit.now c.requires.unit

pub loop-i-init : goal.loop-i-init
loop-i-init c = grind (arith, common_steps, set_zero, zero_held, begun, rules)

-- this number have joined
among : (c : After-operands-content) → let flow = c.loop-i.flow in (length flow.ring.completed ≡ c.loop-i.i) × (length flow.ring.stores < 32) × (flow.accesses ≤ 32)
among c =
    let b = c.args.unit.now in
    let less : c.loop-i.i < length b.window = omega (arith, c.loop-i-test.true, c.len-i-end.ensures.value) in
    let most : length b.window ≤ 32 = omega (arith, c.len-i-end.ensures.value, c.len-i-end.ensures.most) in
    room_among b c.loop-i.flow c.loop-i.i c.loop-i.invariant.flowing c.loop-i.invariant.window less most

pub station_at-place-requires : goal.station_at-place-requires
station_at-place-requires c = let same = (among (goal.at.station_at-place-requires c).After-operands-content).0 in omega (arith, same)

pub joins-requires-clause-room : goal.joins-requires-clause-room
joins-requires-clause-room c = grind (arith, common_steps, among)

pub joins-requires-clause-station : goal.joins-requires-clause-station
joins-requires-clause-station c = grind (arith, common_steps, among)

pub joins-requires-clause-few : goal.joins-requires-clause-few
joins-requires-clause-few c = (among (goal.at.joins-requires-clause-few c).After-operands-content).1

pub joins-requires-clause-accesses : goal.joins-requires-clause-accesses
joins-requires-clause-accesses c = (among (goal.at.joins-requires-clause-accesses c).After-operands-content).2

pub loop-i-preserved : goal.loop-i-preserved
loop-i-preserved c =
    let b = c.args.unit.now in
    let h = c.loop-i.invariant in
    let i = c.in_ok-station.station.instr in
    let x : Completed = record c.in_ok-completed.completed { kept = c.kept-kept.result } in
    let there = c.in_ok-completed.ensures.there in
    let content = c.operands-content.result.b in
    let j : HasJoined c.loop-i.flow c.joins.new.self i x content =
    c.joins.ensures in
    let half : x.half ≡ c.in_ok-station.station.half = ap (λ (w : Station). w.half) c.in_ok-completed.ensures.same in
    let read = c.operands-content.ensures in
    let keeps : HasKept i x c.loop-i.flow.future.values =
    record {
      kept = c.kept-kept.ensures
          ∙ ap (λ k. kept_with i k content c.loop-i.flow.future.values) (sym half)
          ∙ kept_now c.loop-i.flow.future (registers_of b) b.committed.pc (window_of b c.loop-i.flow) i x.half content h.flowing.foresees read.registers.1 read.second;
      leaves = subst (λ l. LeavesAs l i) (sym c.in_ok-completed.ensures.open) tt;
    } in
    record {
      kept = joins_kept b c.loop-i.flow c.joins.new.self i x content (registers_of b) h.kept j there keeps;
      held = c.joins.ensures.held ∙ h.held;
      oldest = c.joins.ensures.oldest ∙ h.oldest;
      size = c.joins.ensures.size ∙ h.size;
      flowing = joined b c.loop-i.flow c.joins.new.self i x content j there h.flowing c.operands-content.ensures.registers.1 c.operands-content.ensures.second;
      window = joined_window b c.loop-i.flow c.joins.new.self i x content j there
          ∙ taken _ b.window c.loop-i.i c.in_ok-station.station _ h.window (sym c.at.ensures ∙ c.in_ok-station.was) (sym (station_is b.program.now x i there) ∙ c.in_ok-completed.ensures.same);
      last = c.joins.ensures.last ∙ h.last;
    }

pub returns-clause-flow : goal.returns-clause-flow
returns-clause-flow c =
    let b = c.args.unit.now in
    let h = c.loop-i.invariant in
    let whole = h.window ∙ take_all c.loop-i.i b.window (omega (arith, c.loop-i-test.false, c.len-i-end.ensures.value)) in
    begins b c.loop-i.flow h.kept h.held h.oldest h.size
    (begun b c.loop-i.flow c.requires.unit c.requires.two (omega (arith, c.if-unit-len.false, c.len.ensures.value)) h.flowing whole h.last)

pub returns-clause-same : goal.returns-clause-same
returns-clause-same c = begins_in_order c.args.unit.now c.loop-i.flow c.loop-i.invariant.kept c.loop-i.invariant.held c.loop-i.invariant.oldest c.loop-i.invariant.size

pub returns-clause-room : goal.returns-clause-room
returns-clause-room c = grind (arith, common_steps, take_all, stations_long)
