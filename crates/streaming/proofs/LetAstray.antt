-- What was predicted after a miss is let.
use Rattle.std.proofs.lemmas.Grind.{common_steps}
use Rattle.std.proofs.Common.{◌≡◌, ◌<◌, ◌^◌, ℕ, ◌+◌, ◌%◌, true, List, [], ◌∷◌, ◌++◌, length, Some, None, refl, sym, ap, ◌∙◌, subst, arith, append_assoc, length-append}
use Rattle.std.specs.Prelude.{IfSome, slice_set}
use Rattle.instructions.specs.Instruction.{fixed_next, is_first_half}
use Rattle.instructions.specs.Programs.{instr_at}
use Rattle.inorder.specs.Unit.{half_after}
use Rattle.instructions.specs.declared.instr.Instr.{Instr}
use Rattle.instructions.specs.declared.op.Half.{Half}
use Rattle.streaming.specs.Astray.{IsAstray, IsUpcoming}
use Rattle.one_thread.specs.Decoding.{IsDecoded}
use Rattle.streaming.specs.Flow.{IsFlowing, enters_as, filled, in_order, window_of}
use Rattle.one_thread.specs.StandsFor.{StandsForSome}
use Rattle.one_thread.specs.Window.{access_of, accesses, let_at, reaches_memory}
use Rattle.one_thread.specs.declared.dispatch.Fetched.{Fetched}
use Rattle.streaming.specs.declared.flow.Flow.{Flow}
use Rattle.one_thread.specs.declared.pipeline.Pipeline.{Pipeline}
use Rattle.one_thread.specs.declared.station.Station.{Station}
use Rattle.one_thread.proofs.Accesses.{accesses_end}
use Rattle.one_thread.proofs.BenchTurns.{let_shows}
use Rattle.streaming.proofs.Completions.{stations_long}
use Rattle.streaming.proofs.FlowIn.{entered_let, enters, place_decoded}
use Rattle.streaming.proofs.FlowJoins.{flowing_later}
use Rattle.streaming.proofs.Flowing.{half_end}
use Rattle.streaming.proofs.Futures.{path_end}

-- how many accesses there are with one more
more_accesses : (W : List Station) (w : Station) → accesses (W ++ w ∷ []) (length (W ++ w ∷ [])) ≡ accesses W (length W) + access_of w.instr
more_accesses W w = grind (arith, common_steps, length-append W (w ∷ []), accesses_end W w)

-- the next instruction is the first of them
pub goes_astray : (b : Pipeline) (flow : Flow) (predicted : ℕ) (n : IsUpcoming b flow predicted) (half : Half) (used count : ℕ) → half ≡ half_after (is_first_half n.instr.op flow.half) →
    used ≡ flow.accesses + access_of n.instr → count ≡ length flow.ring.completed + 1 →
    IsAstray (in_order b flow) (window_of b flow) (enters_as flow n.instr predicted) predicted half used count
goes_astray b flow predicted n half used count half_is uses counts =
    let x = in_order n.placed.before flow in
    let y = in_order b flow in
    let e = enters b flow predicted n in
    let w = enters_as flow n.instr predicted in
    let W = window_of b flow in
    let same : window_of x flow ≡ W = ap (λ (p : Pipeline). window_of p flow) (sym e.rest) in
    let flowing : IsFlowing y flow = flowing_later x y flow e.rest e.flows.flowing in
    record {
      behind = [];
      all = W ++ w ∷ [];
      is = refl;
      unit = subst (λ V. StandsForSome (filled y (V ++ w ∷ []))) same (entered_let x y flow n.instr predicted n.placed.from e);
      path = sym (path_end b.committed.pc W w);
      half_is = half_is ∙ sym (half_end b.low W w);
      uses = uses ∙ ap (λ k. k + access_of n.instr) flowing.accesses ∙ sym (more_accesses W w);
      counts = omega (arith, counts, stations_long b.program.now flow.ring.completed, length-append W (w ∷ []));
    }

-- and one more is let after them
pub more_astray : (b later : Pipeline) (W : List Station) (w : Station) (f : Fetched) (used count guess : ℕ) (half : Half) (more : ℕ) → IsAstray b W w f.pc f.half used count →
    b.over ≡ None → count < b.ring →
    instr_at b.program.now f.pc ≡ Some f.instr → (reaches_memory f.instr.op ≡ true → used < b.queue) → guess < 2 ^ 32 → IfSome (fixed_next f.instr f.half f.pc) (λ n. guess ≡ n) →
    later.leavers ≡ slice_set b.leavers ((b.oldest + count) % b.ring) None → later ≡ record b { leavers = later.leavers } → half ≡ half_after (is_first_half f.instr.op f.half) →
    more ≡ access_of f.instr → IsAstray later W w guess half (used + more) (count + 1)
more_astray b later W w f used count guess half more a none room is free small fixed leavers rest half_is more_is =
    let V = a.all in
    let z = let_at f.instr f.half f.pc guess in
    let queue = b.queue in
    let shows = let_shows (filled b V) (filled later (V ++ z ∷ [])) f guess a.unit none
    (record { room = omega (arith, room, a.counts); place = a.path; half = a.half_is; is = is; free = λ e. subst (λ k. k < queue) a.uses (free e) })
    small fixed refl (leavers ∙ ap (λ k. slice_set b.leavers ((b.oldest + k) % b.ring) None) a.counts) (ap (λ (p : Pipeline). filled p (V ++ z ∷ [])) rest) in
    record {
      behind = a.behind ++ z ∷ [];
      all = V ++ z ∷ [];
      is = ap (λ l. l ++ z ∷ []) a.is ∙ append_assoc W (w ∷ a.behind) (z ∷ []);
      unit = shows.unit;
      path = sym (path_end later.committed.pc V z);
      half_is = half_is ∙ sym (half_end later.low V z);
      uses = ap (λ k. used + k) more_is ∙ ap (λ k. k + access_of f.instr) a.uses ∙ sym (more_accesses V z);
      counts = omega (arith, a.counts, length-append V (z ∷ []));
    }

-- All of them have gone astray

module _ (b old : Pipeline) (flow : Flow) (predicted : ℕ) (rest : b ≡ record old { leavers = b.leavers }) where
  module _ (n : IsUpcoming old flow predicted) where
    pub astray_decoded : (code : List Instr) → code ≡ b.code.items → IsDecoded code b.program.now
    astray_decoded code e = grind (arith, common_steps, place_decoded)

    pub astray_open : b.over ≡ None
    astray_open = ap (λ (p : Pipeline). p.over) rest ∙ ap (λ (p : Pipeline). p.over) n.placed.rest ∙ n.placed.flows.flows.flowing.goes_on

    pub astray_instr : instr_at old.program.now flow.future.pc ≡ Some n.instr
    astray_instr = ap (λ (p : Pipeline). instr_at p.program.now flow.future.pc) n.placed.rest ∙ n.is
