-- Where all live tenants have completed, halves of pairs among them.
use Rattle.std.proofs.Common.{◌≡◌, ◌<◌, ℕ, suc, ◌-◌, true, List, [], ◌∷◌, ◌++◌, length, Option, Some, None, refl, sym, ap, ◌∙◌, ⊎_elim, arith, length-append}
use Rattle.circular_buffer.proofs.Places.{slice_get-some}
use Rattle.std.specs.Prelude.{slice_get}
use Rattle.instructions.specs.Instruction.{is_first_half}
use Rattle.inorder.specs.Unit.{half_after}
use Rattle.inorder.proofs.SettledRegisters.{length_registers}
use Rattle.one_thread.specs.Changes.{registers_of}
use Rattle.streaming.specs.Flow.{HasCompleted, HaveCompleted, WritesLow}
use Rattle.one_thread.specs.Producers.{NoneGives}
use Rattle.one_thread.specs.Notes.{miss_in, settled_at}
use Rattle.one_thread.specs.StandsFor.{StandsForSome}
use Rattle.one_thread.specs.Window.{half_behind, half_in, next_after, next_in}
use Rattle.one_thread.specs.declared.pipeline.Pipeline.{Pipeline}
use Rattle.one_thread.specs.declared.station.Station.{Station}
use Rattle.one_thread.proofs.Found.{get_append}
use Rattle.one_thread.proofs.Known.{ahead_stands}
use Rattle.one_thread.proofs.Scan.{get_end}
use Rattle.streaming.proofs.Settled.{settled_no_miss}

-- There are 34 registers

pub registers_all : (b : Pipeline) → StandsForSome b → length (registers_of b) ≡ 34
registers_all b h = ap (λ s. length s.registers) (ahead_stands b h.unit h.reached h.stands) ∙ length_registers b.program.now h.unit.tenants

-- All of them are resolved, and none is a miss

pub completed_settled : (W : List Station) → HaveCompleted W → (k : ℕ) → k < length W → settled_at (slice_get W k) ≡ true
completed_settled W h k l = at (slice_get W k) refl
  where
    at : (o : Option Station) → slice_get W k ≡ o → settled_at o ≡ true
    at None e = let there = slice_get-some W k l in absurd (cc (e, there.1))
    at (Some w) e = (h k w e).0.resolved

pub completed_no_miss : (W : List Station) → HaveCompleted W → NoneGives miss_in W
completed_no_miss W h k l = settled_no_miss W k (completed_settled W h k l)

-- One station more, and one less

pub completed_more : (W : List Station) (w : Station) → HaveCompleted W → HasCompleted w × WritesLow w → HaveCompleted (W ++ w ∷ [])
completed_more W w h p k x e = ⊎_elim (λ q. h k x q) (λ q. rw (sym q.1) p) (get_append W w x k e)

pub completed_less : (w : Station) (W : List Station) → HaveCompleted (w ∷ W) → HaveCompleted W
completed_less w W h k x e = h (suc k) x e

-- The half that comes next, after a station

pub half_end : (low : Option ℕ) (W : List Station) (w : Station) → half_in low (W ++ w ∷ []) ≡ half_after (is_first_half w.instr.op w.half)
half_end low W w =
    let last : length (W ++ w ∷ []) - 1 ≡ length W = omega (arith, length-append W (w ∷ [])) in
    ap (λ k. half_behind low (slice_get (W ++ w ∷ []) k)) last ∙ ap (half_behind low) (get_end W [] w)

-- and where another is the oldest
pub half_less : (low later : Option ℕ) (w x : Station) (W : List Station) → half_in low (w ∷ x ∷ W) ≡ half_in later (x ∷ W)
half_less low later w x W =
    let one : suc (length W) - 1 ≡ length W = omega arith in
    let two : suc (suc (length W)) - 1 ≡ suc (length W) = omega arith in
    let last = slice_get-some (x ∷ W) (length W) (omega arith) in
    ap (λ k. half_behind low (slice_get (w ∷ x ∷ W) k)) two
    ∙ ap (half_behind low) last.1
    ∙ sym (ap (half_behind later) last.1)
    ∙ sym (ap (λ k. half_behind later (slice_get (x ∷ W) k)) one)

pub path_any : (pc later : ℕ) (x : Station) (W : List Station) → next_in pc (x ∷ W) ≡ next_in later (x ∷ W)
path_any pc later x W =
    let one : suc (length W) - 1 ≡ length W = omega arith in
    let last = slice_get-some (x ∷ W) (length W) (omega arith) in
    ap (λ k. next_after pc (slice_get (x ∷ W) k)) one
    ∙ ap (next_after pc) last.1
    ∙ sym (ap (next_after later) last.1)
    ∙ sym (ap (λ k. next_after later (slice_get (x ∷ W) k)) one)
