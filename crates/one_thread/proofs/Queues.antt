-- The queue of a window is that of its unit, but for the addresses of loads that are done.
use Rattle.std.proofs.lemmas.Grind.{common_steps}
use Rattle.std.proofs.Common.{◌≡◌, ◌≢◌, ℕ, zero, suc, ◌+◌, ◌<◌, ◌≤◌, Bool, true, false, cond, ◌&&◌, List, [], ◌∷◌, ◌++◌, map, length, take, Option, Some, None, refl, sym, ap, ◌∙◌, subst, arith}
use Rattle.std.proofs.Common.{length-append, true≢false}
use Rattle.std.specs.Prelude.{slice_get, is_none}
use Rattle.std.specs.List.{AllByRecursion}
use Rattle.instructions.specs.Instruction.{is_access, second_of}
use Rattle.instructions.specs.Programs.{Program}
use Rattle.instructions.specs.declared.op.Kind.{Kind}
use Rattle.instructions.specs.declared.stop.Outcome.{Outcome}
use Rattle.inorder.specs.Committed.{ahead}
use Rattle.inorder.specs.Loads.{address_by, entry_of, is_store, queue_of}
use Rattle.inorder.specs.Steps.{IsNoRetiredStop}
use Rattle.inorder.specs.Tenants.{Fate, Live, Retired, Squashed, Standing, Tenant, instr, kind_of, stands_on_path}
use Rattle.inorder.proofs.SettledRegisters.{ahead_if, squashed_not}
use Rattle.inorder.proofs.QueueBytes.{none_live, queue_more}
use Rattle.inorder.proofs.Sound.{IsSound}
use Rattle.lsq.specs.declared.entry.Entry.{Entry}
use Rattle.lsq.specs.Entries.{bytes}
use Rattle.lsq.specs.LoadRule.{answer_over, by_lacking, lacks_address, overlaps, youngest_from, meets}
use Rattle.inorder.specs.Quiescent.{AreQuiescent}
use Rattle.inorder.proofs.OneCaller.Left.{retired_all}
use Rattle.inorder.proofs.Commits.{live_not}
use Rattle.one_thread.specs.declared.station.Station.{Station}
use Rattle.one_thread.specs.Loads.{address_of, entries, entry_at, entry_behind, with_entry}
use Rattle.one_thread.specs.Window.{reaches_memory, source_in, stage_of, station_of, window}
use Rattle.one_thread.proofs.Entries.{entries_left}
use Rattle.one_thread.proofs.Scan.{get_end, take_middle}
use Rattle.one_thread.proofs.Windows.{none_left, source_worth, window_if, window_live}

-- Two entries that are the same, or no stores
pub record IsLike (e f : Entry) : Type 0 where
  pub store : f.store ≡ e.store
  pub same : e.store ≡ true → f ≡ e

abbrev pub AreLike : List Entry → List Entry → Type 0
AreLike [] [] = Unit {0}
AreLike [] (f ∷ fs) = ⊥
AreLike (e ∷ es) [] = ⊥
AreLike (e ∷ es) (f ∷ fs) = IsLike e f × AreLike es fs

pub like_more : (es fs : List Entry) (e f : Entry) → AreLike es fs → IsLike e f → AreLike (es ++ e ∷ []) (fs ++ f ∷ [])
like_more [] [] e f a b = (b, tt)
like_more [] (x ∷ fs) e f a b = absurd a
like_more (x ∷ es) [] e f a b = absurd a
like_more (x ∷ es) (y ∷ fs) e f a b = (a.0, like_more es fs e f a.1 b)

-- A test that no load passes finds the same in both

abbrev NoLoad : (Entry → Bool) → Type 0
NoLoad test = (e : Entry) → e.store ≡ false → test e ≡ false

abbrev placed_if : Bool → ℕ → Entry → Option (ℕ × Entry)
placed_if true at e = Some (at, e)
placed_if false at e = None

placed_cond : (b : Bool) (at : ℕ) (e : Entry) → cond {A = Option (ℕ × Entry)} b (Some (at, e)) None ≡ placed_if b at e
placed_cond b at e = grind (arith, common_steps)

test_like : (test : Entry → Bool) → NoLoad test → (e f : Entry) (at : ℕ) → IsLike e f → placed_if (test f) at f ≡ placed_if (test e) at e
test_like test n e f at l = grind (arith, common_steps)

youngest_like : (test : Entry → Bool) → NoLoad test → (es fs : List Entry) (at : ℕ) → AreLike es fs → youngest_from at test fs ≡ youngest_from at test es
youngest_like test n [] [] at a = refl
youngest_like test n [] (f ∷ fs) at a = absurd a
youngest_like test n (e ∷ es) [] at a = absurd a
youngest_like test n (e ∷ es) (f ∷ fs) at a = grind (arith, common_steps, youngest_like test n es fs (at + 1) a.1, placed_cond (test f) at f, test_like test n e f at a.0, placed_cond (test e) at e)

no_load_lacks : NoLoad lacks_address
no_load_lacks e q = ap (λ b. b && is_none e.address) q

no_load_overlaps : (a w : ℕ) → NoLoad (overlaps a w)
no_load_overlaps a w e q = ap (λ b. b && meets e.address (bytes e.width) a w) q

by_lacking_like : (o : Option (ℕ × Entry)) (es fs : List Entry) (a w : ℕ) → AreLike es fs → by_lacking o fs a w ≡ by_lacking o es a w
by_lacking_like o es fs a w l = grind (arith, common_steps, youngest_like, no_load_overlaps)

pub answer_like : (es fs : List Entry) (a w : ℕ) → AreLike es fs → answer_over fs a w ≡ answer_over es a w
answer_like es fs a w l = grind (arith, common_steps, youngest_like, no_load_lacks, by_lacking_like)

-- One tenant's entry

store_address : (k : Kind) (f : Fate) (o : Outcome) → is_store k ≡ true → address_of (stage_of f) ≡ address_by k f o
store_address k f o e = grind (arith, common_steps, true≢false)

entry_like : (P : Program) (registers : List ℕ) (t : Tenant) (ws : List Station) → t.second.value ≡ source_in registers ws (second_of (instr P t)) →
    IsLike (entry_of P t) (entry_behind registers ws (station_of P t))
entry_like P registers t ws e = grind (arith, common_steps, store_address)

entries_end : (registers : List ℕ) (xs : List Station) (w : Station) → entries registers (xs ++ w ∷ []) (length (xs ++ w ∷ [])) ≡ with_entry (entries registers xs (length xs))
    (cond (reaches_memory w.instr.op) (Some (entry_behind registers xs w)) None)
entries_end registers xs w =
    let long : length (xs ++ w ∷ []) ≡ suc (length xs) = omega (arith, length-append xs (w ∷ [])) in
    let le : length xs ≤ length xs = omega arith in
    ap (entries registers (xs ++ w ∷ [])) long
    ∙ ap (λ es. with_entry es (entry_at registers (xs ++ w ∷ []) (slice_get (xs ++ w ∷ []) (length xs)) (length xs))) (entries_left registers xs (w ∷ []) (length xs) le)
    ∙ ap (λ o. with_entry (entries registers xs (length xs)) (entry_at registers (xs ++ w ∷ []) o (length xs))) (get_end xs [] w)
    ∙ ap (λ l. with_entry (entries registers xs (length xs)) (cond (reaches_memory w.instr.op) (Some (entry_behind registers l w)) None)) (take_middle xs (w ∷ []))

-- The whole queue
pub queue_like : (P : Program) (ts : List Tenant) → IsSound P ts → AllByRecursion IsNoRetiredStop ts → AreQuiescent ts →
    AreLike (queue_of P ts) (entries (ahead P ts).registers (window P ts) (length (window P ts)))
queue_like P [] s n h = tt
queue_like P (t ∷ ts) s n h = go t.standing refl (queue_like P ts s.1 n.1 h.1)
  where
    W : List Station
    W = window P ts

    regs : List Tenant → List ℕ
    regs V = (ahead P V).registers

    all : List ℕ → List Station → List Entry
    all g l = entries g l (length l)

    same : (es fs : List Entry) → queue_of P (t ∷ ts) ≡ es → all (regs (t ∷ ts)) (window P (t ∷ ts)) ≡ fs → AreLike es fs → AreLike (queue_of P (t ∷ ts)) (all (regs (t ∷ ts)) (window P (t ∷ ts)))
    same es fs e f a = subst (λ x. AreLike x (all (regs (t ∷ ts)) (window P (t ∷ ts)))) (sym e) (subst (AreLike es) (sym f) a)

    append_none : (es : List Entry) → es ++ [] ≡ es
    append_none es = Rattle.std.proofs.Common.append-nil es

    go : (st : Standing) → t.standing ≡ st → AreLike (queue_of P ts) (all (regs ts) W) → AreLike (queue_of P (t ∷ ts)) (all (regs (t ∷ ts)) (window P (t ∷ ts)))
    go Squashed e more = grind (arith, common_steps, same, all, regs, queue_more, append_none, window_if, ahead_if, squashed_not)
    go Retired e more = grind (arith, common_steps, retired_all, same, none_live, all, regs, none_left)
    go Live e more = on (is_access (kind_of P t)) refl
      where
        placed : Rattle.inorder.proofs.Sound.IsInPlace P ts t
        placed = s.0.placed (ap stands_on_path e)

        second : t.second.value ≡ source_in (regs ts) W (second_of (instr P t))
        second = h.0.1.value ∙ ap (Rattle.inorder.specs.Unit.value_of ts) placed.second ∙ source_worth P ts s.1 n.1 (second_of (instr P t))

        here : all (regs (t ∷ ts)) (window P (t ∷ ts)) ≡ with_entry (all (regs ts) W) (cond (is_access (kind_of P t)) (Some (entry_behind (regs ts) W (station_of P t))) None)
        here = grind (arith, common_steps, all, regs, window_live, ahead_if, live_not, entries_end)

        on : (b : Bool) → is_access (kind_of P t) ≡ b → AreLike (queue_of P (t ∷ ts)) (all (regs (t ∷ ts)) (window P (t ∷ ts)))
        on b q = grind (arith, common_steps, same, all, regs, queue_more, here, like_more, entry_like, second, append_none)
