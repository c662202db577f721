-- A completed instruction joins a flow.
use Rattle.std.proofs.Common.{◌≡◌, ◌<◌, ℕ, ◌+◌, List, [], ◌∷◌, ◌++◌, length, Some, refl, sym, ap, ◌∙◌, subst, suc, arith, length-append}
use Rattle.std.specs.Prelude.{slice_index}
use Rattle.instructions.specs.Instruction.{second_of}
use Rattle.instructions.specs.Programs.{instr_at}
use Rattle.instructions.specs.declared.instr.Instr.{Instr}
use Rattle.one_thread.specs.Changes.{registers_of}
use Rattle.streaming.specs.Flow.{HasJoined, AreThere, HaveCompleted, IsFlowing, window_of}
use Rattle.streaming.specs.CompletedRing.{station_by, stations, store_with, stores}
use Rattle.one_thread.specs.Loads.{with_entry}
use Rattle.streaming.specs.Futures.{Foresees}
use Rattle.one_thread.specs.Window.{access_of, accesses, half_in, source_in}
use Rattle.streaming.specs.declared.flow.Flow.{Flow}
use Rattle.streaming.specs.declared.completed_ring.Completed.{Completed}
use Rattle.one_thread.specs.declared.pipeline.Pipeline.{Pipeline}
use Rattle.one_thread.specs.declared.station.Station.{Station}
use Rattle.one_thread.proofs.Accesses.{accesses_end}
use Rattle.streaming.proofs.Completions.{has_completed, station_is, stations_more, there_more}
use Rattle.streaming.proofs.Flowing.{completed_more, half_end}
use Rattle.streaming.proofs.Stores.{stores_more}

module _ (b : Pipeline) (flow after : Flow) (i : Instr) (c : Completed) (content : ℕ) (j : HasJoined flow after i c content) (is : instr_at b.program.now c.pc ≡ Some i) where
  abbrev z : Station
  z = station_by i c

  abbrev W : List Station
  W = window_of b flow

  pub joined_window : window_of b after ≡ W ++ z ∷ []
  joined_window = ap (stations b.program.now) j.completed ∙ stations_more b.program.now flow.ring.completed c ∙ ap (λ w. W ++ w ∷ []) (station_is b.program.now c i is)

  pub joined : IsFlowing b flow → second_of i < 34 → content ≡ slice_index flow.future.values (second_of i) → IsFlowing b after
  joined h small same =
      let all = joined_window in
      let read : source_in (registers_of b) W (second_of i) ≡ Some content = h.foresees.values (second_of i) small ∙ ap Some (sym same) in
      let long : length (W ++ z ∷ []) ≡ suc (length W) = omega (arith, length-append W (z ∷ [])) in
      record {
        goes_on = h.goes_on;
        there = subst (AreThere b.program.now) (sym j.completed) (there_more b.program.now flow.ring.completed c i h.there is);
        completed = subst HaveCompleted (sym all) (completed_more W z h.completed (has_completed i c));
        foresees = subst (Foresees after.future (registers_of b) b.committed.pc) (sym all) (j.future.on z refl refl refl (registers_of b) b.committed.pc W h.foresees);
        half = j.half ∙ sym (half_end b.low W z) ∙ sym (ap (half_in b.low) all);
        stores = j.stores
            ∙ ap (λ l. with_entry l (store_with z content)) h.stores
            ∙ sym (stores_more (registers_of b) W z content read)
            ∙ sym (ap (λ l. stores (registers_of b) l (length l)) all);
        accesses = j.accesses
            ∙ ap (λ n. n + access_of i) h.accesses
            ∙ sym (accesses_end W z)
            ∙ ap (accesses (W ++ z ∷ [])) (sym long)
            ∙ sym (ap (λ l. accesses l (length l)) all);
      }

-- who has left which station does not matter
pub flowing_later : (b later : Pipeline) (flow : Flow) → later ≡ record b { leavers = later.leavers } → IsFlowing b flow → IsFlowing later flow
flowing_later b later flow rest h =
    subst (λ (p : Pipeline). IsFlowing p flow) (sym rest)
    (record { goes_on = h.goes_on; there = h.there; completed = h.completed; foresees = h.foresees; half = h.half; stores = h.stores; accesses = h.accesses })
