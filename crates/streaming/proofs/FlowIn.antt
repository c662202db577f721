-- The next instruction enters a flow.
use Rattle.std.proofs.lemmas.Grind.{common_steps}
use Rattle.std.proofs.Common.{◌≡◌, ◌≢◌, ◌<◌, ◌≤◌, ◌^◌, ℕ, ◌+◌, ◌%◌, Bool, false, List, [], ◌∷◌, ◌++◌, length, Option, Some, None}
use Rattle.std.proofs.Common.{eqb, eqb-true, refl, sym, ap, ◌∙◌, subst, suc, arith, length-append}
use Rattle.std.specs.Prelude.{IfSome, slice_set}
use Rattle.instructions.specs.Instruction.{fixed_next, width}
use Rattle.instructions.specs.declared.instr.Instr.{Instr}
use Rattle.instructions.specs.declared.stop.Outcome.{Outcome}
use Rattle.instructions.specs.declared.stop.Outcome.TheVariants.{Address, Next}
use Rattle.streaming.specs.Astray.{FindsOperands, IsUpcoming}
use Rattle.one_thread.specs.Decoding.{IsDecoded}
use Rattle.streaming.specs.Flow.{HasJoined, AreThere, CanRestore, Completes, IsFlow, IsPlaced, Reopens, comes_to, completed_as, completed_by, enters_as, filled, in_order, load_of, outcome_in, window_of}
use Rattle.streaming.specs.CompletedRing.{station_by, stations}
use Rattle.streaming.specs.Reopened.{as_let, reopened, with_reopened}
use Rattle.one_thread.specs.Stages.{CanLet}
use Rattle.one_thread.specs.StandsFor.{StandsForSome}
use Rattle.one_thread.specs.declared.dispatch.Fetched.{Fetched}
use Rattle.streaming.specs.declared.completing.Done.{Done as DoneBy}
use Rattle.one_thread.specs.declared.execute.Operands.{Operands}
use Rattle.one_thread.specs.declared.leaves.Leaves.{Leaves}
use Rattle.streaming.specs.declared.flow.Flow.{Flow}
use Rattle.one_thread.specs.declared.pipeline.Pipeline.{Pipeline}
use Rattle.one_thread.specs.declared.station.Stage.TheVariants.{Done}
use Rattle.one_thread.specs.declared.station.Station.{Station}
use Rattle.one_thread.proofs.Accesses.{accesses_most}
use Rattle.one_thread.proofs.BenchTurns.{let_shows}
use Rattle.streaming.proofs.Completions.{stations_long}
use Rattle.streaming.proofs.Reopened.{reopened_end, reopened_let}
use Rattle.streaming.proofs.Stores.{stores_few}
use Rattle.streaming.proofs.FlowRuns.{Runs, entered_unit, missed_unit, reached_inside}
use Rattle.streaming.proofs.FlowJoins.{flowing_later, joined, joined_window}

pub record Enters (x later : Pipeline) (flow : Flow) (i : Instr) (predicted from : ℕ) : Type 0 where
  pub flows : IsFlow x flow
  pub can : CanLet x.program.now x.ring x.queue x.committed.pc x.low (window_of x flow) (record { instr = i; half = flow.half; pc = flow.future.pc })
  pub small : predicted < 2 ^ 32
  pub reopens : Reopens x flow from
  pub fixed : IfSome (fixed_next i flow.half flow.future.pc) (λ n. predicted ≡ n)
  pub leavers : later.leavers ≡ slice_set x.leavers ((x.oldest + length (window_of x flow)) % x.ring) None
  pub rest : later ≡ record x { leavers = later.leavers }

pub enters : (later : Pipeline) (flow : Flow) (predicted : ℕ) (n : IsUpcoming later flow predicted) → Enters (in_order n.placed.before flow) (in_order later flow) flow n.instr predicted n.placed.from
enters later flow predicted n = grind (arith, common_steps)

pub place_decoded : (later : Pipeline) (flow : Flow) (code : List Instr) (p : IsPlaced later flow) → code ≡ later.code.items → IsDecoded code p.before.program.now
place_decoded later flow code p e = grind (arith, common_steps)

-- where an instruction has gone on another path than was predicted, that was computed
gone_on : (w : Station) (o : Outcome) (v : Option ℕ) → (completed_by w o v).next ≢ w.next → (x : ℕ) × (o ≡ Next x)
gone_on w o v n = grind (arith, common_steps)

other : (x y : ℕ) → x ≢ y → (t : Bool) → eqb x y ≡ t → eqb x y ≡ false
other x y n h3 q = grind (arith, common_steps, eqb-true)

module _ (x later : Pipeline) (flow : Flow) (i : Instr) (predicted from : ℕ) (h : Enters x later flow i predicted from) where
  abbrev all : List Station
  all = window_of x flow

  abbrev b : Pipeline
  b = filled x all

  abbrev next : Fetched
  next = record { instr = i; half = flow.half; pc = flow.future.pc }

  -- the fields where these stations are the window's
  as_later : (V : List Station) → record b { window = V; leavers = slice_set x.leavers ((x.oldest + length all) % x.ring) None } ≡ filled later V
  as_later V = grind (arith, common_steps)

  -- it is let
  pub entered_let : StandsForSome (filled later (all ++ enters_as flow i predicted ∷ []))
  entered_let =
      let V = all ++ enters_as flow i predicted ∷ [] in
      let shows = let_shows b (record b { window = V; leavers = slice_set x.leavers ((x.oldest + length all) % x.ring) None }) next predicted
      h.flows.unit h.flows.flowing.goes_on h.can h.small h.fixed refl refl refl in
      subst StandsForSome (as_later V) shows.unit

  -- there is room for it
  pub entered_room : (length flow.ring.completed < x.ring) × (length flow.ring.stores < 32) × (flow.accesses ≤ 32)
  entered_room = grind (arith, common_steps, stations_long, stores_few, accesses_most)

  -- this number can be as they were let, with it
  open_with : (y : Station) → as_let y ≡ enters_as flow i predicted → StandsForSome (with_reopened from (filled later (all ++ y ∷ [])))
  open_with y same =
      reopened_let b (filled later (all ++ y ∷ [])) next predicted from y h.reopens.inside h.reopens.unit h.flows.flowing.goes_on
      h.can h.small h.fixed refl same
      (ap (λ (p : Pipeline). p.leavers) (sym (as_later (all ++ y ∷ [])))) (sym (as_later (all ++ y ∷ []))
      ∙ ap (λ l. record b { window = all ++ y ∷ []; leavers = l }) (ap (λ (p : Pipeline). p.leavers) (as_later (all ++ y ∷ []))))

  -- it is left as it was let
  abbrev stays : Flow
  stays = record flow { last = Some (enters_as flow i predicted) }

  pub entered_stays : CanRestore later stays from
  entered_stays =
      let y = enters_as flow i predicted in
      let n = from in
      let unit = open_with y refl in
      let end : reopened n (all ++ y ∷ []) ≡ reopened n all ++ y ∷ [] = reopened_end n all y h.reopens.inside in
      let same : reopened n all ≡ reopened n (window_of later stays) = ap (λ (p : Pipeline). reopened n (stations p.program.now flow.ring.completed)) (sym h.rest) in
      let long = stations_long x.program.now flow.ring.completed in
      record {
        unit = subst (λ V. StandsForSome (filled later V)) (end ∙ ap (λ V. V ++ y ∷ []) same) unit;
        there = subst (λ (p : Pipeline). AreThere p.program.now flow.ring.completed) (sym h.rest) h.flows.flowing.there;
        all = h.flows.flowing.foresees.all;
        room = λ w e. omega (arith, long, h.can.room, h.flows.unit.ring);
      }

  -- it runs
  module _ (o : Operands) (f : FindsOperands flow i o) where
    runs : Runs b flow.future flow.ring.stores next predicted o (outcome_in x flow i o)
    runs =
        record {
          unit = h.flows.unit;
          goes_on = h.flows.flowing.goes_on;
          completed = h.flows.flowing.completed;
          foresees = h.flows.flowing.foresees;
          stores = h.flows.flowing.stores;
          can = h.can;
          small = h.small;
          fixed = h.fixed;
          first_small = f.first_small;
          second_small = f.second_small;
          first = f.first;
          second = f.second;
          comes = refl;
        }

    pub entered_inside : (a : ℕ) → outcome_in x flow i o ≡ Address a → a + width i.op ≤ length x.committed.memory
    entered_inside = reached_inside b flow.future flow.ring.stores next predicted o (outcome_in x flow i o) runs

    comes_unit : StandsForSome (filled later (all ++ comes_to x flow i predicted o ∷ []))
    comes_unit =
        subst StandsForSome (as_later (all ++ comes_to x flow i predicted o ∷ []))
        (entered_unit b flow.future flow.ring.stores next predicted o (outcome_in x flow i o) runs)

    -- and has completed
    module _ (d : DoneBy) (leaves : Leaves) (kept : ℕ) (after : Flow) (completes : Completes x flow i predicted o (Some d))
        (j : HasJoined flow after i (completed_as flow predicted d leaves kept) o.b) where
      abbrev y : Station
      y = station_by i (completed_as flow predicted d leaves kept)

      -- where perhaps others have been let and squashed
      module _ (again : Pipeline) (rest : again ≡ record x { leavers = again.leavers }) where
        window_is : window_of again after ≡ all ++ y ∷ []
        window_is = ap (λ (p : Pipeline). stations p.program.now after.ring.completed) rest ∙ joined_window x flow after i (completed_as flow predicted d leaves kept) o.b j h.can.is

        entered_flow : StandsForSome (filled again (all ++ y ∷ [])) → IsFlow again after
        entered_flow unit =
            let long : length (window_of again after) ≡ suc (length all) = ap length window_is ∙ omega (arith, length-append all (y ∷ [])) in
            let ring : again.ring ≡ x.ring = ap (λ (p : Pipeline). p.ring) rest in
            let room = h.can.room in
            record {
              unit = subst StandsForSome (sym (ap (filled again) window_is)) unit;
              flowing = flowing_later x again after rest
                  (joined x flow after i (completed_as flow predicted d leaves kept) o.b j h.can.is h.flows.flowing f.second_small f.second);
              last = j.last ∙ h.flows.last;
              most = omega (arith, long, room, ring);
              two = omega (arith, h.flows.two, ring);
            }

        -- a miss, after which these were let
        pub entered_miss : (behind : List Station) → StandsForSome (filled again (all ++ enters_as flow i predicted ∷ behind)) → d.next ≢ predicted → IsFlow again after
        entered_miss behind unit n =
            let out = outcome_in x flow i o in
            let value = load_of flow.ring.stores x.committed.memory i.op out in
            let w = enters_as flow i predicted in
            let to = gone_on w out value (λ e. n (sym (ap (λ (z : Station). z.next) completes) ∙ e)) in
            let is : y ≡ record w { stage = Done; next = to.0 } = sym completes ∙ ap (λ q. completed_by w q (load_of flow.ring.stores x.committed.memory i.op q)) to.1 in
            let away : to.0 ≢ predicted = λ e. n (ap (λ (z : Station). z.next) is ∙ e) in
            let from : (V : List Station) → filled again V ≡ record b { window = V; leavers = again.leavers } = λ V. ap (λ (p : Pipeline). filled p V) rest in
            let mended = missed_unit b flow.future flow.ring.stores next predicted o out runs again.leavers behind
            (subst StandsForSome (from (all ++ w ∷ behind)) unit) to.0 to.1 (other to.0 predicted away (eqb to.0 predicted) refl) in
            entered_flow (subst StandsForSome (ap (λ z. record b { window = all ++ z ∷ []; leavers = again.leavers }) (sym is) ∙ sym (from (all ++ y ∷ []))) mended)

      -- or as predicted
      pub entered_hit : IsFlow later after
      entered_hit = entered_flow later h.rest (subst StandsForSome (ap (λ w. filled later (all ++ w ∷ [])) completes) comes_unit)

      pub entered_open : d.next ≡ predicted → Reopens later after from
      entered_open hit = grind (arith, common_steps, window_is, length-append, open_with)
