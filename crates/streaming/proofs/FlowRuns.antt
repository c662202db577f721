-- The next instruction of a flow is let, perhaps others after it, and is run as far as it comes.
use Rattle.std.proofs.lemmas.Grind.{common_steps}
use Rattle.std.proofs.Common.{◌≡◌, ◌<◌, ◌≤◌, ◌^◌, ℕ, ◌+◌, ◌%◌, Bool, true, false, cond, eqb, List, [], ◌∷◌, ◌++◌, length, Option, Some, None, refl, sym, ap, ◌∙◌, subst, arith, eqb-true, length-append}
use Rattle.std.specs.Prelude.{IfSome, slice_get, slice_index, slice_set}
use Rattle.instructions.specs.Instruction.{first_of, fixed_next, kind, second_of, width}
use Rattle.instructions.specs.Operations.{outcome_of}
use Rattle.instructions.specs.declared.guessing.Leaver.{Leaver}
use Rattle.instructions.specs.declared.op.Kind.{Kind}
use Rattle.instructions.specs.declared.op.Kind.TheVariants.{Computes, Jumps, Links, Loads, Stores}
use Rattle.instructions.specs.declared.stop.Outcome.{Outcome}
use Rattle.instructions.specs.declared.stop.Outcome.TheVariants.{Address, Next, Pair, Stop, Value}
use Rattle.lsq.specs.LoadRule.{answer_over}
use Rattle.lsq.specs.declared.entry.Entry.{Entry}
use Rattle.one_thread.specs.Changes.{CanClaim, LoadGives, registers_of}
use Rattle.streaming.specs.Flow.{HaveCompleted, completed_by, load_of, loaded_behind}
use Rattle.streaming.specs.CompletedRing.{stores}
use Rattle.one_thread.specs.Producers.{gives}
use Rattle.one_thread.specs.Loads.{AreInside, entries, load_in, loaded_over, value_by, waits_by}
use Rattle.one_thread.specs.Notes.{miss_in}
use Rattle.one_thread.specs.Possible.{ToLoad, ToRecover, ToRun}
use Rattle.one_thread.specs.Stages.{CanLet, RecoversTo}
use Rattle.one_thread.specs.declared.bench.Turn.TheVariants.{Loaded, Ran, Recovered}
use Rattle.one_thread.specs.StandsFor.{StandsForSome}
use Rattle.streaming.specs.Futures.{Foresees}
use Rattle.one_thread.specs.Window.{further_on, let_at, stage_after, station_after}
use Rattle.one_thread.specs.declared.dispatch.Fetched.{Fetched}
use Rattle.one_thread.specs.declared.execute.Operands.{Operands}
use Rattle.streaming.specs.declared.future.Future.{Future}
use Rattle.one_thread.specs.declared.pipeline.Pipeline.{Pipeline}
use Rattle.one_thread.specs.declared.station.Stage.TheVariants.{Addr, Done, Miss}
use Rattle.one_thread.specs.declared.station.Station.{Station}
use Rattle.one_thread.proofs.BenchTurns.{let_shows}
use Rattle.one_thread.proofs.CanLeave.{both_there}
use Rattle.streaming.proofs.Flowing.{completed_no_miss}
use Rattle.one_thread.proofs.Inside.{are_inside}
use Rattle.one_thread.proofs.LoadedTurns.{loaded_as}
use Rattle.one_thread.proofs.Moved.{moves_as}
use Rattle.one_thread.proofs.Noted.{miss_gives}
use Rattle.one_thread.proofs.RanTurns.{ran_as}
use Rattle.one_thread.proofs.Scan.{get_end, get_left, set_middle, take_middle}
use Rattle.one_thread.proofs.Start.{same_rest, unit_next}
use Rattle.streaming.proofs.Stores.{stores_answer}
use Rattle.one_thread.proofs.Tests.{gives_here}
use Rattle.one_thread.proofs.Turns.{recovered_turn}

pub record Runs (b : Pipeline) (f : Future) (es : List Entry) (next : Fetched) (predicted : ℕ) (o : Operands) (outcome : Outcome) : Type 0 where
  pub unit : StandsForSome b
  pub goes_on : b.over ≡ None
  pub completed : HaveCompleted b.window
  pub foresees : Foresees f (registers_of b) b.committed.pc b.window
  pub stores : es ≡ stores (registers_of b) b.window (length b.window)
  pub can : CanLet b.program.now b.ring b.queue b.committed.pc b.low b.window next
  pub small : predicted < 2 ^ 32
  pub fixed : IfSome (fixed_next next.instr next.half next.pc) (λ x. predicted ≡ x)
  pub first_small : first_of next.instr < 34
  pub second_small : second_of next.instr < 34
  pub first : o.a ≡ slice_index f.values (first_of next.instr)
  pub second : o.b ≡ slice_index f.values (second_of next.instr)
  pub comes : outcome ≡ outcome_of next.instr next.half next.pc o.a o.b (length b.program.now.bytes)

module _ (b : Pipeline) (f : Future) (es : List Entry) (next : Fetched) (predicted : ℕ) (o : Operands) (outcome : Outcome) (h : Runs b f es next predicted o outcome) where
  -- it is let

  abbrev pub last : Station
  last = let_at next.instr next.half next.pc predicted

  -- with these after it
  abbrev pub let_with : List (Option Leaver) → List Station → Pipeline
  let_with leavers behind = record b { window = b.window ++ last ∷ behind; leavers = leavers }

  abbrev pub let_fields : Pipeline
  let_fields = let_with (slice_set b.leavers ((b.oldest + length b.window) % b.ring) None) []

  pub let_unit : StandsForSome let_fields
  let_unit = grind (arith, common_steps, let_shows)

  ready : (leavers : List (Option Leaver)) (behind : List Station) → CanClaim (let_with leavers behind) (record { at = length b.window; operands = o })
  ready leavers behind = grind (arith, common_steps, gives_here, both_there)

  -- it has run

  abbrev ran : Station
  ran = station_after last outcome

  abbrev ran_with : List (Option Leaver) → List Station → Pipeline
  ran_with leavers behind = record b { window = b.window ++ ran ∷ behind; leavers = leavers }

  abbrev ran_fields : Pipeline
  ran_fields = ran_with let_fields.leavers []

  ran_behind : (leavers : List (Option Leaver)) (behind : List Station) → StandsForSome (let_with leavers behind) → StandsForSome (ran_with leavers behind)
  ran_behind leavers behind unit =
      let at = length b.window in
      let fields = let_with leavers behind in
      let there : slice_get fields.window at ≡ Some last = get_end b.window behind last in
      let set : slice_set fields.window at ran ≡ b.window ++ ran ∷ behind = set_middle b.window behind last ran in
      let later = ran_with leavers behind in
      let runs = ran_as fields later at last o h.goes_on (ready leavers behind) there (sym set ∙ ap (λ x. slice_set fields.window at (station_after last x)) h.comes) refl in
      unit_next fields later (Ran at) unit (moves_as fields later (Some (ToRun at)) (Ran at) runs) (same_rest fields later later.window refl) unit.leavers

  ran_is : StandsForSome ran_fields
  ran_is = ran_behind let_fields.leavers [] let_unit

  pub reached_inside : (a : ℕ) → outcome ≡ Address a → a + width next.instr.op ≤ length b.committed.memory
  reached_inside a e =
      let inside : AreInside (length b.committed.memory) ran_fields.window = are_inside ran_fields ran_is in
      inside (length b.window) ran (get_end b.window [] ran) a (ap (λ x. stage_after x predicted) e)

  -- it has completed, where it can

  abbrev pub value : Option ℕ
  value = load_of es b.committed.memory next.instr.op outcome

  abbrev pub left : Station
  left = completed_by last outcome value

  abbrev pub entered_with : List (Option Leaver) → Station → Pipeline
  entered_with leavers z = record b { window = b.window ++ z ∷ []; leavers = leavers }

  abbrev pub entered_fields : Station → Pipeline
  entered_fields z = entered_with let_fields.leavers z

  as_ran : (z : Station) → z ≡ ran → StandsForSome (entered_fields z)
  as_ran z same = subst (λ w. StandsForSome (entered_fields w)) (sym same) ran_is

  mended_with : (leavers : List (Option Leaver)) (behind : List Station) → StandsForSome (let_with leavers behind) → (x : ℕ) → ran ≡ record last { stage = Miss x } →
      StandsForSome (entered_with leavers (record last { stage = Done; next = x }))
  mended_with leavers behind unit x is =
      let W = b.window in
      let to : RecoversTo (W ++ ran ∷ behind) (W ++ record last { stage = Done; next = x } ∷ []) =
      record {
        i = length W;
        w = record last { stage = Miss x };
        x = x;
        first = record {
          inside = omega (arith, length-append W (ran ∷ behind));
          here = ap (λ y. gives miss_in (W ++ y ∷ behind) (length W)) is ∙ gives_here miss_in W behind (record last { stage = Miss x });
          first = λ k l. miss_gives (W ++ ran ∷ behind) k ∙ ap Rattle.one_thread.proofs.Noted.miss_at (get_left W (ran ∷ behind) k l) ∙ sym (miss_gives W k)
              ∙ completed_no_miss W h.completed k l;
        };
        is = get_end W behind ran ∙ ap Some is;
        new = ap (λ l. l ++ record last { stage = Done; next = x } ∷ []) (sym (take_middle W (ran ∷ behind)));
      } in
      let before = ran_with leavers behind in
      let later = entered_with leavers (record last { stage = Done; next = x }) in
      unit_next before later (Recovered to.i) (ran_behind leavers behind unit) (moves_as before later (Some (ToRecover to.i)) (Recovered to.i) (recovered_turn before later h.goes_on to refl))
      (same_rest before later later.window refl) unit.leavers

  -- where it is a miss, what was let after it is squashed

  away : (x : ℕ) → outcome ≡ Next x → eqb x predicted ≡ false → ran ≡ record last { stage = Miss x }
  away x e q = ap (station_after last) e ∙ ap (λ t. record last { stage = cond t Done (Miss x) }) q

  pub missed_unit : (leavers : List (Option Leaver)) (behind : List Station) → StandsForSome (let_with leavers behind) → (x : ℕ) → outcome ≡ Next x → eqb x predicted ≡ false →
      StandsForSome (entered_with leavers (record last { stage = Done; next = x }))
  missed_unit leavers behind unit x e q = mended_with leavers behind unit x (away x e q)

  loads : (a v : ℕ) → outcome ≡ Address a → kind next.instr.op ≡ Loads → value_by (answer_over es a (width next.instr.op)) b.committed.memory next.instr.op a ≡ Some v →
      StandsForSome (entered_fields (further_on last Done (Some v)))
  loads a v e load got =
      let W = b.window in
      let y = further_on last Done (Some v) in
      let middle : Pipeline = record ran_fields { window = W ++ y ∷ [] } in
      let answered : LoadGives ran_fields (record { at = length W; value = v }) =
      gives_here (load_in (registers_of b) b.committed.memory) W [] ran
      ∙ ap (λ x. loaded_over (entries (registers_of b) W (length W)) b.committed.memory next.instr.op (waits_by (kind next.instr.op) (stage_after x predicted))) e
      ∙ ap (λ k. loaded_over (entries (registers_of b) W (length W)) b.committed.memory next.instr.op (waits_by k (Addr a))) load
      ∙ sym (stores_answer (registers_of b) b.committed.memory W (length W) a next.instr.op)
      ∙ sym (ap (λ l. value_by (answer_over l a (width next.instr.op)) b.committed.memory next.instr.op a) h.stores)
      ∙ got in
      let turned : further_on ran Done (Some v) ≡ y = ap (λ x. further_on (station_after last x) Done (Some v)) e in
      let sets : middle.window ≡ slice_set ran_fields.window (length W) (further_on ran Done (Some v)) = sym (ap (slice_set (W ++ ran ∷ []) (length W)) turned ∙ set_middle W [] ran y) in
      let loads = loaded_as ran_fields middle (length W) ran v h.goes_on answered (get_end W [] ran) sets refl in
      unit_next ran_fields middle (Loaded (length W)) ran_is (moves_as ran_fields middle (Some (ToLoad (length W))) (Loaded (length W)) loads) (same_rest ran_fields middle middle.window refl) ran_is.leavers

  entered : (x : Outcome) → outcome ≡ x → StandsForSome (entered_fields (completed_by last x (load_of es b.committed.memory next.instr.op x)))
  entered (Value v) e = as_ran (station_after last (Value v)) (sym (ap (station_after last) e))
  entered (Pair l u) e = as_ran (station_after last (Pair l u)) (sym (ap (station_after last) e))
  entered (Stop c) e = as_ran (station_after last (Stop c)) (sym (ap (station_after last) e))
  entered (Next x) e = by (eqb x predicted) refl
    where
      by : (t : Bool) → eqb x predicted ≡ t → StandsForSome (entered_fields (record last { stage = Done; next = x }))
      by true q = grind (arith, common_steps, as_ran, eqb-true)
      by false q = missed_unit let_fields.leavers [] let_unit x e q
  entered (Address a) e = by (kind next.instr.op) refl
    where
      plain : StandsForSome (entered_fields (station_after last (Address a)))
      plain = as_ran (station_after last (Address a)) (sym (ap (station_after last) e))

      answered : kind next.instr.op ≡ Loads → (r : Option ℕ) → value_by (answer_over es a (width next.instr.op)) b.committed.memory next.instr.op a ≡ r →
          StandsForSome (entered_fields (completed_by last (Address a) r))
      answered k None q = plain
      answered k (Some v) q = loads a v e k q

      by : (k : Kind) → kind next.instr.op ≡ k → StandsForSome (entered_fields (completed_by last (Address a) (loaded_behind k es b.committed.memory next.instr.op a)))
      by Computes q = plain
      by Jumps q = plain
      by Links q = plain
      by Stores q = plain
      by Loads q = answered q (value_by (answer_over es a (width next.instr.op)) b.committed.memory next.instr.op a) refl

  pub entered_unit : StandsForSome (entered_fields left)
  entered_unit = entered outcome refl
