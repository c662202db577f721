-- Tenants that were let in a row are again as they were let.
use Rattle.std.proofs.lemmas.Grind.{common_steps}
use Rattle.std.proofs.Common.{◌≡◌, ◌<◌, ◌≤◌, ℕ, zero, suc, ◌+◌, ◌-◌, ◌%◌, ◌^◌, List, [], ◌∷◌, ◌++◌, length, Option, Some, None, refl, sym, ap, ◌∙◌, arith}
use Rattle.std.specs.Prelude.{IfSome, slice_get, slice_set, unwrap_or}
use Rattle.instructions.specs.Instruction.{fixed_next}
use Rattle.one_thread.specs.declared.dispatch.Fetched.{Fetched}
use Rattle.one_thread.specs.declared.pipeline.Pipeline.{Pipeline}
use Rattle.one_thread.specs.declared.station.Station.{Station}
use Rattle.one_thread.specs.Changes.{NextOf}
use Rattle.one_thread.specs.StandsFor.{StandsForSome}
use Rattle.streaming.specs.Reopened.{as_let, reopened, with_reopened}
use Rattle.one_thread.specs.Window.{access_at, accesses, half_behind, let_at, next_after}
use Rattle.one_thread.proofs.BenchTurns.{let_shows}

-- The list

pub reopened_all : (W : List Station) → reopened (length W) W ≡ W
reopened_all [] = refl
reopened_all (w ∷ W) = ap (λ l. w ∷ l) (reopened_all W)

pub reopened_long : (n : ℕ) (W : List Station) → length (reopened n W) ≡ length W
reopened_long n [] = refl
reopened_long zero (w ∷ W) = ap suc (reopened_long zero W)
reopened_long (suc n) (w ∷ W) = ap suc (reopened_long n W)

pub reopened_end : (n : ℕ) (W : List Station) (y : Station) → n ≤ length W → reopened n (W ++ y ∷ []) ≡ reopened n W ++ as_let y ∷ []
reopened_end zero [] y l = refl
reopened_end (suc n) [] y l = absurd (omega (arith, l))
reopened_end zero (w ∷ W) y l = ap (λ l. as_let w ∷ l) (reopened_end zero W y (omega arith))
reopened_end (suc n) (w ∷ W) y l = ap (λ l. w ∷ l) (reopened_end n W y (omega (arith, l)))

-- one more is as it was let
pub reopened_older : (n i : ℕ) (W : List Station) → i < n → slice_get (reopened n W) i ≡ slice_get W i
reopened_older n i [] l = refl
reopened_older zero i (w ∷ W) l = absurd (omega (arith, l))
reopened_older (suc n) zero (w ∷ W) l = refl
reopened_older (suc n) (suc i) (w ∷ W) l = reopened_older n i W (omega (arith, l))

pub reopened_younger : (n i : ℕ) (W : List Station) (w : Station) → n ≤ i → slice_get W i ≡ Some w → slice_get (reopened n W) i ≡ Some (as_let w)
reopened_younger n i [] w l e = absurd (cc)
reopened_younger zero zero (x ∷ W) w l e = ap (λ o. Some (as_let (unwrap_or o x))) e
reopened_younger zero (suc i) (x ∷ W) w l e = reopened_younger zero i W w (omega arith) e
reopened_younger (suc n) zero (x ∷ W) w l e = absurd (omega (arith, l))
reopened_younger (suc n) (suc i) (x ∷ W) w l e = reopened_younger n i W w (omega (arith, l)) e

-- what no stage changes
reopened_same : {X : Type 0} → (g : Option Station → X) → ((w : Station) → g (Some (as_let w)) ≡ g (Some w)) → (n : ℕ) (W : List Station) (k : ℕ) →
    g (slice_get (reopened n W) k) ≡ g (slice_get W k)
reopened_same g h n [] k = refl
reopened_same g h zero (w ∷ W) zero = h w
reopened_same g h zero (w ∷ W) (suc k) = reopened_same g h zero W k
reopened_same g h (suc n) (w ∷ W) zero = refl
reopened_same g h (suc n) (w ∷ W) (suc k) = reopened_same g h n W k

reopened_accesses : (n : ℕ) (W : List Station) (k : ℕ) → accesses (reopened n W) k ≡ accesses W k
reopened_accesses n W zero = refl
reopened_accesses n W (suc k) = ap (λ x. x + access_at (slice_get (reopened n W) k)) (reopened_accesses n W k) ∙ ap (λ x. accesses W k + x) (reopened_same access_at (λ w. refl) n W k)

-- What can be let can be let after them

reopened_lets : (b : Pipeline) (n : ℕ) (f : Fetched) → NextOf b (Some f) → NextOf (with_reopened n b) (Some f)
reopened_lets b n f h =
    let long = reopened_long n b.window in
    record {
      room = omega (arith, long, h.room);
      place = h.place ∙ sym (reopened_same (next_after b.committed.pc) (λ w. refl) n b.window (length b.window - 1)) ∙
          ap (λ m. next_after b.committed.pc (slice_get (reopened n b.window) (m - 1))) (sym long);
      half = h.half ∙ sym (reopened_same (half_behind b.low) (λ w. refl) n b.window (length b.window - 1)) ∙
          ap (λ m. half_behind b.low (slice_get (reopened n b.window) (m - 1))) (sym long);
      is = h.is;
      free = λ e. let before = h.free e in omega (arith, before, long, ap (accesses (reopened n b.window)) long, reopened_accesses n b.window (length b.window));
    }

pub reopened_let : (b later : Pipeline) (f : Fetched) (guess n : ℕ) (y : Station) → n ≤ length b.window → StandsForSome (with_reopened n b) → b.over ≡ None →
    NextOf b (Some f) → guess < 2 ^ 32 → IfSome (fixed_next f.instr f.half f.pc) (λ x. guess ≡ x) → later.window ≡ b.window ++ y ∷ [] → as_let y ≡ let_at f.instr f.half f.pc guess →
    later.leavers ≡ slice_set b.leavers ((b.oldest + length b.window) % b.ring) None → later ≡ record b { window = later.window; leavers = later.leavers } →
    StandsForSome (with_reopened n later)
reopened_let b later f guess n y l h none can small fixed wl is ll rest = grind (arith, common_steps, let_shows, reopened_lets, reopened_end, reopened_long)

-- None of them

pub none_reopened : (b : Pipeline) (n : ℕ) → n ≡ length b.window → StandsForSome b → StandsForSome (with_reopened n b)
none_reopened b n e h = grind (arith, common_steps, reopened_all)
