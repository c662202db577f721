-- The oldest instruction of a flow leaves it.
use Rattle.std.proofs.lemmas.Grind.{common_steps}
use Rattle.std.proofs.Common.{◌≡◌, ◌<◌, ◌≤◌, ℕ, suc, ◌+◌, ◌-◌, ◌%◌, Bool, true, List, [], ◌∷◌, length, drop, Some, None, refl, sym, ap, ◌∙◌, subst, arith, length-drop}
use Rattle.std.specs.Prelude.{slice_get, slice_set, unwrap_or, Option}
use Rattle.instructions.specs.Instruction.{is_first_half, kind, width}
use Rattle.instructions.specs.Registers.{lo}
use Rattle.instructions.specs.Programs.{Program, instr_at}
use Rattle.instructions.specs.declared.guessing.Leaver.{Leaver}
use Rattle.instructions.specs.declared.instr.Instr.{Instr}
use Rattle.instructions.specs.declared.op.Kind.TheVariants.{Stores}
use Rattle.inorder.specs.Machine.{write}
use Rattle.one_thread.specs.Changes.{registers_of, run_from}
use Rattle.one_thread.specs.Decoding.{IsDecoded}
use Rattle.streaming.specs.Departing.{OldestRetired, committed_by, low_by, to_do}
use Rattle.streaming.specs.Flow.{AreThere, CanEnter, Flows, HasPlace, HaveCompleted, IsFlow, IsFlowing, filled, in_order, window_of, with_leaver}
use Rattle.streaming.specs.CompletedRing.{stage_by, station_by, stores, stores_behind}
use Rattle.one_thread.specs.Leaves.{HasEnded, leavers_with}
use Rattle.streaming.specs.Futures.{Foresees}
use Rattle.streaming.specs.Slots.{slot_in}
use Rattle.one_thread.specs.Window.{access_of, accesses, half_in}
use Rattle.streaming.specs.declared.flow.Flow.{Flow}
use Rattle.streaming.specs.declared.completed_ring.Completed.{Completed}
use Rattle.one_thread.specs.declared.pipeline.Pipeline.{Pipeline}
use Rattle.one_thread.specs.declared.station.Station.{Station}
use Rattle.one_thread.proofs.Accesses.{accesses_drop}
use Rattle.streaming.proofs.Completions.{station_is, stations_get, stations_less, stations_long, there_less}
use Rattle.streaming.proofs.FreeStation.{set_back}
use Rattle.streaming.proofs.Flowing.{completed_less, half_less, path_any, registers_all}
use Rattle.streaming.proofs.Futures.{foresees_left, made_value}
use Rattle.one_thread.proofs.Start.{Comes}
use Rattle.one_thread.proofs.Ring.{once_around}
use Rattle.streaming.proofs.FlowStays.{all_closed}
use Rattle.streaming.proofs.Stores.{stores_passed}
use Rattle.streaming.proofs.FlowPassed.{IsFilled, answer_by, filled_ended, passed_from, passed_less, passed_runs, passed_comes}

left_accesses : (n m a k j : ℕ) → m ≡ n - a → n ≡ a + k → j ≡ k → m ≡ j
left_accesses n m a k j less more same = omega (arith, less, more, same)

-- What the next one finds is there again

registers_by : (h : Bool) (b later : Pipeline) (w : Station) → (h ≡ true → w.destination ≡ lo) → Comes b (answer_by h) later → later ≡ passed_from h b w →
    write (registers_of b) w.destination (unwrap_or w.made 0) ≡ registers_of later
registers_by h b later w low s e = grind (arith, common_steps)

-- The oldest instruction of a flow

pub record IsOldest (x : Pipeline) (flow : Flow) (i : Instr) (c : Completed) : Type 0 where
  pub flows : IsFlow x flow
  pub some : 2 ≤ length (window_of x flow)
  pub is : slice_get flow.ring.completed 0 ≡ Some c
  pub instr : instr_at x.program.now c.pc ≡ Some i

pub oldest_of : (b : Pipeline) (flow : Flow) (i : Instr) (c : Completed) (code : List Instr) → Flows b flow → 2 ≤ length (window_of b flow) → slice_get flow.ring.completed 0 ≡ Some c →
    code ≡ b.code.items → ((P : Program) → IsDecoded code P → instr_at P c.pc ≡ Some i) → IsOldest (in_order b flow) flow i c
oldest_of b flow i c code h some is same found = grind (arith, common_steps)

module _ (x : Pipeline) (flow : Flow) (i : Instr) (c : Completed) (here : IsOldest x flow i c) where
  pub oldest_is : slice_get (window_of x flow) 0 ≡ Some (station_by i c)
  oldest_is = stations_get x.program.now flow.ring.completed 0 c here.is ∙ ap Some (station_is x.program.now c i here.instr)

  pub fills : IsFilled (filled x (window_of x flow))
  fills = grind (arith, common_steps)

  -- a store is inside the memory
  pub oldest_inside : kind i.op ≡ Stores → c.value + width i.op ≤ length x.committed.memory
  oldest_inside k =
      subst (λ q. HasEnded (length x.committed.memory) i (stage_by q c.value)) k
      (filled_ended (filled x (window_of x flow)) (station_by i c) fills oldest_is)

  -- it is counted among those that reach memory
  pub oldest_counted : access_of i ≤ flow.accesses
  oldest_counted = go (window_of x flow) refl
    where
      go : (V : List Station) → window_of x flow ≡ V → access_of i ≤ flow.accesses
      go [] q = let no : Some (station_by i c) ≡ None = sym oldest_is ∙ ap (λ V. slice_get V 0) q in absurd (cc)
      go (u ∷ V) q =
          let counts : flow.accesses ≡ access_of i + accesses V (length V) =
          here.flows.flowing.accesses ∙ ap (λ V. accesses V (length V)) q ∙ accesses_drop (u ∷ V) (station_by i c) (length V) (sym (ap (λ V. slice_get V 0) q) ∙ oldest_is) in
          omega (arith, counts)

-- It has left

pub record HasLeft (x y : Pipeline) (flow after : Flow) (i : Instr) (c : Completed) : Type 0 where
  pub here : IsOldest x flow i c
  pub completed : after.ring.completed ≡ drop 1 flow.ring.completed
  pub stores : after.ring.stores ≡ stores_behind (station_by i c) flow.ring.stores
  pub accesses : after.accesses ≡ flow.accesses - access_of i
  pub last : after.last ≡ flow.last
  pub future : after.future ≡ flow.future
  pub half : after.half ≡ flow.half
  pub commits : y.committed ≡ committed_by (is_first_half i.op c.half) (station_by i c) x.low x.committed
  pub low : y.low ≡ low_by (is_first_half i.op c.half) (station_by i c)
  pub oldest : y.oldest ≡ (x.oldest + 1) % x.ring
  pub leavers : y.leavers ≡ leavers_with x (station_by i c)
  pub rest : y ≡ record x { committed = y.committed; low = y.low; oldest = y.oldest; leavers = y.leavers }

module _ (x y : Pipeline) (flow after : Flow) (i : Instr) (c : Completed) (l : HasLeft x y flow after i c) where
  abbrev w : Station
  w = station_by i c

  abbrev W : List Station
  W = window_of x flow

  abbrev b : Pipeline
  b = filled x W

  abbrev f : Bool
  f = is_first_half i.op c.half

  abbrev later : Pipeline
  later = filled y (window_of y after)

  abbrev flows : IsFlow x flow
  flows = l.here.flows

  first : slice_get W 0 ≡ Some w
  first = oldest_is x flow i c l.here

  whole : IsFilled b
  whole = fills x flow i c l.here

  rest_is : window_of y after ≡ drop 1 W
  rest_is = grind (arith, common_steps, stations_less)

  later_is : later ≡ passed_from f b w
  later_is = grind (arith, common_steps, rest_is)

  pub left_registers : write (registers_of x) w.destination (unwrap_or w.made 0) ≡ registers_of y
  left_registers = registers_by f b later w (flows.flowing.completed 0 w first).1 (passed_comes b later w whole first later_is) later_is

  flows_on : IsFlowing y after
  flows_on = go W refl
    where
      v : ℕ
      v = unwrap_or w.made 0

      go : (V : List Station) → W ≡ V → IsFlowing y after
      go [] q = let no : Some w ≡ None = sym first ∙ ap (λ V. slice_get V 0) q in absurd (cc)
      go (u ∷ []) q = let long = ap length q in let some = l.here.some in absurd (omega (arith, long, some))
      go (u ∷ a ∷ V) q =
          let this : u ≡ w = cc (sym (ap (λ V. slice_get V 0) q) ∙ first) in
          let there : W ≡ w ∷ a ∷ V = q ∙ ap (λ z. z ∷ a ∷ V) this in
          let behind : window_of y after ≡ a ∷ V = rest_is ∙ ap (λ V. drop 1 V) there in
          let h = flows.flowing in
          let p = h.completed 0 w first in
          let seen : Foresees flow.future (registers_of x) x.committed.pc (w ∷ a ∷ V) = subst (Foresees flow.future (registers_of x) x.committed.pc) there h.foresees in
          let long = registers_all b flows.unit in
          let past = foresees_left flow.future (registers_of x) x.committed.pc w (a ∷ V) long p.0.made seen in
          record {
            goes_on = ap (λ (z : Pipeline). z.over) l.rest ∙ h.goes_on;
            there = subst (λ (z : Pipeline). AreThere z.program.now after.ring.completed) (sym l.rest) (subst (AreThere x.program.now) (sym l.completed)
                (there_less x.program.now flow.ring.completed h.there));
            completed = subst HaveCompleted (sym behind) (completed_less w (a ∷ V) (subst HaveCompleted there h.completed));
            foresees = subst (Foresees after.future (registers_of y) y.committed.pc) (sym behind)
                (subst (λ g. Foresees g (registers_of y) y.committed.pc (a ∷ V)) (sym l.future)
                (subst (λ r. Foresees flow.future r y.committed.pc (a ∷ V)) left_registers
                (record { all = past.all; values = past.values; path = past.path ∙ path_any w.next y.committed.pc a V })));
            half = l.half ∙ h.half ∙ ap (half_in x.low) there ∙ half_less x.low y.low w a V ∙ sym (ap (half_in y.low) behind);
            stores = l.stores
                ∙ ap (stores_behind w) (h.stores ∙ ap (λ V. stores (registers_of x) V (length V)) there)
                ∙ stores_passed (registers_of x) w (a ∷ V) v long (λ n. made_value w.made (p.0.made n))
                ∙ ap (λ r. stores r (a ∷ V) (length (a ∷ V))) left_registers
                ∙ sym (ap (λ V. stores (registers_of y) V (length V)) behind);
            accesses = left_accesses flow.accesses after.accesses (access_of i) (accesses (a ∷ V) (length (a ∷ V))) (accesses (window_of y after) (length (window_of y after))) l.accesses
                (h.accesses ∙ ap (λ V. accesses V (length V)) there ∙ accesses_drop (w ∷ a ∷ V) w (length (a ∷ V)) refl) (ap (λ V. accesses V (length V)) behind);
          }

  pub left_flow : IsFlow y after
  left_flow =
      let shows = passed_comes b later w whole first later_is in
      let ring : y.ring ≡ x.ring = ap (λ (p : Pipeline). p.ring) l.rest in
      record {
        unit = shows.unit;
        flowing = flows_on;
        last = l.last ∙ flows.last;
        most = omega (arith, ap length rest_is, length-drop 1 W, flows.most, ring);
        two = omega (arith, flows.two, ring);
      }

  -- it was one of them
  pub left_shorter : length flow.ring.completed ≡ suc (length after.ring.completed)
  left_shorter = grind (arith, common_steps, stations_long, length-drop)

  pub left_runs : (limit : ℕ) → x.committed.count < limit → run_from y limit ≡ run_from x limit
  left_runs = passed_runs b later w whole first later_is

  pub left_less : (limit : ℕ) → x.committed.count < limit → to_do limit y < to_do limit x
  left_less = passed_less b later w whole first later_is

-- there is room for another
pub has_room : (x y : Pipeline) (flow after : Flow) (left : Option Leaver) → Flows x flow → OldestRetired x flow left y after → length after.ring.completed < y.ring
has_room x y flow after left h d = grind (arith, common_steps, stations_long)

-- the next enters the station that was left
pub has_place : (x y : Pipeline) (flow after : Flow) (left : Option Leaver) → OldestRetired x flow left y after → length flow.ring.completed ≡ x.ring → CanEnter y after →
    HasPlace y after (length after.ring.completed) flow.ring.oldest
has_place x y flow after left d full can =
    let long = stations_long y.program.now after.ring.completed in
    let oldest = flow.ring.oldest in
    let there : (after.ring.oldest + length (window_of y after)) % y.ring ≡ oldest =
    ap (λ r. (after.ring.oldest + length (window_of y after)) % r) d.ring
    ∙ ap (λ k. (k + length (window_of y after)) % x.ring) d.place
    ∙ once_around oldest (length (window_of y after)) x.ring d.inside (omega (arith, long, d.shorter, full)) in
    record {
      placed = record {
        before = with_leaver oldest left y;
        flows = d.flows;
        can = record { instr = can.instr; is = can.is; free = can.free; room = can.room };
        from = length after.ring.completed;
        reopens = all_closed (in_order (with_leaver oldest left y) after) after (length after.ring.completed) d.flows.flows refl;
        leavers = sym (ap (λ k. slice_set (slice_set y.leavers oldest left) k None) there ∙ set_back y.leavers oldest None left d.untold);
        rest = refl;
      };
      same = refl;
      small = omega (arith, d.inside, d.flows.flows.unit.ring, d.ring);
      is = sym there ∙ ap (λ n. (after.ring.oldest + n) % y.ring) long ∙ ap (λ r. slot_in r after.ring.oldest (length after.ring.completed)) (sym d.flows.size);
    }
