-- The oldest instruction of a flow leaves, and what the flow keeps stands for its registers.
use Rattle.std.proofs.Common.{arith}
use Rattle.std.proofs.lemmas.Grind.{common_steps}
use Rattle.std.proofs.Common.{rules, length, ◌≡◌, ◌≤◌, ℕ, suc, ◌+◌, ◌-◌, ◌%◌, Bool, true, false, cond, ◌&&◌, List, drop, Option, Some, None, refl, sym, ap, ◌∙◌, subst}
use Rattle.std.specs.Prelude.{slice_get}
use Rattle.instructions.specs.Instruction.{is_first_half, is_low, kind}
use Rattle.instructions.specs.Registers.{lo}
use Rattle.instructions.specs.Programs.{instr_at}
use Rattle.instructions.specs.declared.guessing.Leaver.{Leaver}
use Rattle.instructions.specs.declared.instr.Instr.{Instr}
use Rattle.instructions.specs.declared.op.Kind.{Kind}
use Rattle.instructions.specs.declared.op.Op.{Op}
use Rattle.inorder.specs.Committed.{with_low}
use Rattle.inorder.specs.Machine.{State, write}
use Rattle.one_thread.specs.Changes.{registers_of}
use Rattle.streaming.specs.CompletedRing.{Contents, instr_there, stage_by, station_by, stores_behind}
use Rattle.streaming.specs.Departing.{OldestRetired, committed_by, held_by, low_by, memory_kept, passed_by}
use Rattle.streaming.specs.Flow.{Flows, filled, in_order, window_of, with_leaver}
use Rattle.streaming.specs.Kept.{HasKept, HaveKept, registers_before, registers_with, with_held}
use Rattle.one_thread.specs.Leavers.{LeavesCounted, LeavesAs, told_if}
use Rattle.one_thread.specs.Leavers.{told_at}
use Rattle.streaming.specs.Slots.{slot_in}
use Rattle.one_thread.specs.Turns.{Falls}
use Rattle.one_thread.specs.Window.{access_of}
use Rattle.streaming.specs.declared.completed_ring.Completed.{Completed}
use Rattle.streaming.specs.declared.flow.Flow.{Flow}
use Rattle.one_thread.specs.declared.pipeline.Pipeline.{Pipeline}
use Rattle.one_thread.specs.declared.station.Station.{Station}
use Rattle.streaming.proofs.Completions.{instr_is, low_destination, some_there}
use Rattle.streaming.proofs.FlowOut.{HasLeft, IsOldest, fills, left_flow, left_less, left_registers, left_runs, left_shorter, oldest_counted, oldest_is}
use Rattle.streaming.proofs.FlowPassed.{answer_by, passed_from, passed_comes}
use Rattle.one_thread.proofs.Whole.{whole_alone}
use Rattle.streaming.proofs.Kept.{given_back, kept_less, memory_same, undone, value_written}
use Rattle.one_thread.proofs.Untold.{oldest_untold}

pub record HasGone (b later : Pipeline) (flow after : Flow) (i : Instr) (c : Completed) (told : Option Leaver) : Type 0 where
  pub flows : Flows b flow
  pub some : 2 ≤ length (window_of b flow)
  pub is : slice_get flow.ring.completed 0 ≡ Some c
  pub instr : instr_at b.program.now c.pc ≡ Some i
  pub ring : after.ring ≡ record flow.ring {
    completed = drop 1 flow.ring.completed;
    stores = stores_behind (station_by i c) flow.ring.stores;
    oldest = slot_in flow.ring.size flow.ring.oldest 1;
  }
  pub accesses : after.accesses ≡ flow.accesses - access_of i
  pub last : after.last ≡ flow.last
  pub future : after.future ≡ flow.future
  pub half : after.half ≡ flow.half
  pub held : after.held ≡ held_by (is_first_half i.op c.half) c.kept flow.held
  pub passes : later.committed ≡ passed_by (is_first_half i.op c.half) (station_by i c) c.kept b.committed
  pub low : later.low ≡ low_by (is_first_half i.op c.half) (station_by i c)
  pub told_is : told ≡ told_at (station_by i c)
  pub rest : later ≡ record b { committed = later.committed; low = later.low }

module _ (b later : Pipeline) (flow after : Flow) (i : Instr) (c : Completed) (told : Option Leaver) (h : HasGone b later flow after i c told) where
  abbrev w : Station
  w = station_by i c

  abbrev f : Bool
  f = is_first_half i.op c.half

  abbrev x : Pipeline
  x = in_order b flow

  abbrev y : Pipeline
  y = with_leaver flow.ring.oldest told (in_order later after)

  abbrev registers : List ℕ
  registers = registers_of x

  completed : after.ring.completed ≡ drop 1 flow.ring.completed
  completed = ap (λ (r : Contents). r.completed) h.ring

  place : after.ring.oldest ≡ (flow.ring.oldest + 1) % b.ring
  place = ap (λ (r : Contents). r.oldest) h.ring ∙ ap (λ n. slot_in n flow.ring.oldest 1) h.flows.size

  here : IsOldest x flow i c
  here = record { flows = h.flows.flows; some = h.some; is = h.is; instr = h.instr }

  there : instr_there b.program.now c.pc ≡ i
  there = instr_is b.program.now c.pc i h.instr

  split : HasKept (instr_there b.program.now c.pc) c registers × HaveKept b.program.now (registers_with b.program.now c registers) (drop 1 flow.ring.completed) flow.future.values
  split = kept_less b.program.now registers flow.ring.completed flow.future.values c h.is h.flows.kept

  keeps : HasKept i c registers
  keeps = subst (λ n. HasKept n c registers) there split.0

  rest_kept : HaveKept b.program.now (write registers w.destination c.value) after.ring.completed after.future.values
  rest_kept = search rules

  before : registers_before later.program.now after.ring.completed after.future.values ≡ write registers w.destination c.value
  before = search (rules, undone, rest_kept)

  none_waits : f ≡ true → x.low ≡ None
  none_waits e =
      let filled_x = filled x (window_of x flow) in
      let shows = passed_comes filled_x (passed_from f filled_x w) w (fills x flow i c here) (oldest_is x flow i c here) refl in
      let falls : Falls (answer_by true) filled_x (passed_from f filled_x w) = subst (λ g. Falls (answer_by g) filled_x (passed_from f filled_x w)) e shows.falls in
      falls.1

  commits_by : (g : Bool) → f ≡ g → later.committed ≡ passed_by g w c.kept b.committed → later.low ≡ low_by g w → after.held ≡ held_by g c.kept flow.held →
      record later.committed { registers = with_held later.low after.held (write registers w.destination c.value) } ≡ committed_by g w x.low x.committed
  commits_by true e passes low held =
      let is_lo = low_destination i c.half e in
      let back : with_held later.low after.held (write registers w.destination c.value) ≡ registers =
      ap (λ o. with_held o after.held (write registers w.destination c.value)) low
      ∙ ap (write (write registers w.destination c.value) lo) held
      ∙ ap (λ d. write (write registers w.destination c.value) d c.kept) (sym is_lo)
      ∙ given_back i c.half c.value c.kept registers keeps.kept in
      ap (λ l. record later.committed { registers = l }) (back ∙ ap (λ o. with_low o x.committed.registers) (none_waits e))
      ∙ ap (λ (s : State). record s { registers = x.committed.registers }) passes
  commits_by false e passes low held = grind (arith, common_steps, low, passes, value_written, memory_same, keeps)

  left : HasLeft x y flow after i c
  left = search (rules, here, completed, before, commits_by, place)

  pub gone : OldestRetired b flow told later after
  gone =
      record {
        flows = record {
          flows = left_flow x y flow after i c left;
          kept = subst (λ (p : Pipeline). HaveKept p.program.now (registers_of y) after.ring.completed after.future.values) (sym h.rest)
              (subst (λ l. HaveKept b.program.now l after.ring.completed after.future.values) (value_written i c.half c.value registers ∙ left_registers x y flow after i c left) rest_kept);
          size = ap (λ (r : Contents). r.size) h.ring ∙ h.flows.size ∙ sym (ap (λ (p : Pipeline). p.ring) h.rest);
        };
        shorter = left_shorter x y flow after i c left;
        untold = subst (λ (p : Pipeline). slice_get p.leavers flow.ring.oldest ≡ Some None) (sym h.rest)
            (oldest_untold (filled x (window_of x flow)) w h.flows.flows.unit (oldest_is x flow i c here));
        inside = h.flows.flows.unit.oldest;
        place = place;
        ring = ap (λ (p : Pipeline). p.ring) h.rest;
        code = ap (λ (p : Pipeline). p.code) h.rest;
        program = ap (λ (p : Pipeline). p.program) h.rest;
        ends = left_runs x y flow after i c left;
        less = left_less x y flow after i c left;
      }

-- One that is only counted leaves

none_stored : (k : Kind) (op : Op) (v kept : ℕ) (memory : List ℕ) → Rattle.inorder.specs.Loads.is_store k ≡ false → memory_kept op (stage_by k v) kept memory ≡ memory
none_stored k op v kept memory e = search rules

module _ (b : Pipeline) (flow : Flow) (c : Completed) (flows : Flows b flow) (is : slice_get flow.ring.completed 0 ≡ Some c) (n : ℕ) (tells : Bool)
    (leaves : (i : Instr) → LeavesAs c.leaves i → LeavesCounted n tells i) where
  found : (i : Instr) × (instr_at b.program.now c.pc ≡ Some i)
  found = some_there (instr_at b.program.now c.pc) (flows.flows.flowing.there 0 c is)

  abbrev one : Instr
  one = found.0

  counted : LeavesCounted n tells one
  counted =
      leaves one
      (subst (LeavesAs c.leaves) (instr_is b.program.now c.pc one found.1)
      (kept_less b.program.now (registers_of (in_order b flow)) flow.ring.completed flow.future.values c is flows.kept).0.leaves)

  pub counted_few : 2 ≤ length (window_of b flow) → n ≤ flow.accesses
  counted_few some =
      subst (λ k. k ≤ flow.accesses) counted.accesses
      (oldest_counted (in_order b flow) flow one c (record { flows = flows.flows; some = some; is = is; instr = found.1 }))

  -- nothing waits for LO
  pub counted_alone : 2 ≤ length (window_of b flow) → b.low ≡ None
  counted_alone some =
      let x = in_order b flow in
      let here : IsOldest x flow one c = record { flows = flows.flows; some = some; is = is; instr = found.1 } in
      whole_alone (filled x (window_of x flow)) (station_by one c) flows.flows.unit flows.flows.flowing.goes_on (oldest_is x flow one c here) counted.whole

  pub gone_counted : (later : Pipeline) (after : Flow) → 2 ≤ length (window_of b flow) → after.ring ≡ record flow.ring { completed = drop 1 flow.ring.completed; oldest = slot_in flow.ring.size flow.ring.oldest 1 } →
      after.accesses ≡ flow.accesses - n → after ≡ record flow { ring = after.ring; accesses = after.accesses } →
      later.committed ≡ record b.committed { pc = c.next; count = suc b.committed.count } → later.low ≡ None → later ≡ record b { committed = later.committed; low = later.low } →
      (told : Option Leaver) → told ≡ told_if tells c.pc c.next → OldestRetired b flow told later after
  gone_counted later after some ring accesses same committed low rest told told_is =
      let whole : is_first_half one.op c.half ≡ false = ap (λ p. p && is_low c.half) counted.whole in
      gone b later flow after one c told
      (record {
        flows = flows;
        some = some;
        is = is;
        instr = found.1;
        ring = ring
            ∙ ap (λ l. record flow.ring { completed = drop 1 flow.ring.completed; stores = l; oldest = slot_in flow.ring.size flow.ring.oldest 1 })
            (ap (λ k. cond k (drop 1 flow.ring.stores) flow.ring.stores) (sym counted.none));
        accesses = accesses ∙ ap (λ k. flow.accesses - k) (sym counted.accesses);
        last = ap (λ (g : Flow). g.last) same;
        future = ap (λ (g : Flow). g.future) same;
        half = ap (λ (g : Flow). g.half) same;
        held = ap (λ (g : Flow). g.held) same ∙ ap (λ p. held_by p c.kept flow.held) (sym whole);
        passes = committed
            ∙ ap (λ m. record b.committed { memory = m; pc = c.next; count = suc b.committed.count }) (sym (none_stored (kind one.op) one.op c.value c.kept b.committed.memory counted.none))
            ∙ ap (λ p. passed_by p (station_by one c) c.kept b.committed) (sym whole);
        low = low ∙ ap (λ p. low_by p (station_by one c)) (sym whole);
        told_is = told_is ∙ sym (counted.told c.half c.pc c.next);
        rest = rest;
      })
