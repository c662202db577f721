-- The stores of a full ring: as a load finds them, where a station joins, and where the oldest leaves.
use Rattle.std.proofs.lemmas.Grind.{common_steps}
use Rattle.std.proofs.Common.{◌≡◌, ◌≢◌, ◌<◌, ◌≤◌, ℕ, zero, suc, ◌+◌, Bool, false, cond, ◌&&◌, List, [], ◌∷◌, ◌++◌, length, drop, Option, Some, None, refl, sym, ap, ◌∙◌, arith, length-append}
use Rattle.std.specs.Prelude.{is_none, option_map, slice_get, slice_index}
use Rattle.instructions.specs.Instruction.{kind, second_of, width}
use Rattle.instructions.specs.declared.op.Op.{Op}
use Rattle.inorder.specs.Loads.{is_store}
use Rattle.inorder.specs.Machine.{write}
use Rattle.lsq.specs.Entries.{bytes}
use Rattle.lsq.specs.LoadRule.{answer_over, by_lacking, lacks_address, meets, or_older, overlaps, taken_from, youngest}
use Rattle.lsq.proofs.Youngest.{youngest_from-snoc}
use Rattle.lsq.specs.Bytes.{little_endian}
use Rattle.instructions.specs.Operations.{loaded}
use Rattle.lsq.specs.declared.entry.Entry.{Entry}
use Rattle.streaming.specs.CompletedRing.{store_at, store_with, stores, stores_behind}
use Rattle.one_thread.specs.Loads.{entries, entry_at, entry_behind, value_by, with_entry}
use Rattle.one_thread.specs.Window.{source_in}
use Rattle.one_thread.specs.declared.station.Station.{Station}
use Rattle.streaming.proofs.Futures.{values_passed}
use Rattle.one_thread.proofs.Scan.{get_end, get_left, take_left, take_middle}

with_length : (es : List Entry) (o : Option Entry) → length (with_entry es o) ≤ suc (length es)
with_length es None = omega arith
with_length es (Some e) = omega (arith, length-append es (e ∷ []))

pub stores_few : (registers : List ℕ) (W : List Station) (k : ℕ) → length (stores registers W k) ≤ k
stores_few registers W zero = omega arith
stores_few registers W (suc k) = grind (arith, common_steps, stores_few registers W k, with_length)

-- the first k stations alone matter
pub stores_left : (registers : List ℕ) (xs zs : List Station) (k : ℕ) → k ≤ length xs → stores registers (xs ++ zs) k ≡ stores registers xs k
stores_left registers xs zs zero h = refl
stores_left registers xs zs (suc k) h =
    let less : k < length xs = omega arith in
    let le : k ≤ length xs = omega arith in
    ap (λ es. with_entry es (store_at registers (xs ++ zs) (slice_get (xs ++ zs) k) k)) (stores_left registers xs zs k le)
    ∙ ap (λ o. with_entry (stores registers xs k) (store_at registers (xs ++ zs) o k)) (get_left xs zs k less)
    ∙ ap (with_entry (stores registers xs k)) (same (slice_get xs k) le)
  where
    same : (o : Option Station) → k ≤ length xs → store_at registers (xs ++ zs) o k ≡ store_at registers xs o k
    same o le = grind (arith, common_steps, take_left)

-- with its content, where that was made
pub store_joins : (registers : List ℕ) (ws : List Station) (w : Station) (content : ℕ) → source_in registers ws (second_of w.instr) ≡ Some content →
    cond (is_store (kind w.instr.op)) (Some (entry_behind registers ws w)) None ≡ store_with w content
store_joins registers ws w content e = grind (arith, common_steps)

pub stores_more : (registers : List ℕ) (W : List Station) (w : Station) (content : ℕ) → source_in registers W (second_of w.instr) ≡ Some content →
    stores registers (W ++ w ∷ []) (length (W ++ w ∷ [])) ≡ with_entry (stores registers W (length W)) (store_with w content)
stores_more registers W w content e =
    let long : length (W ++ w ∷ []) ≡ suc (length W) = omega (arith, length-append W (w ∷ [])) in
    let le : length W ≤ length W = omega arith in
    ap (stores registers (W ++ w ∷ [])) long
    ∙ ap (λ es. with_entry es (store_at registers (W ++ w ∷ []) (slice_get (W ++ w ∷ []) (length W)) (length W))) (stores_left registers W (w ∷ []) (length W) le)
    ∙ ap (λ o. with_entry (stores registers W (length W)) (store_at registers (W ++ w ∷ []) o (length W))) (get_end W [] w)
    ∙ ap (λ t. with_entry (stores registers W (length W)) (cond (is_store (kind w.instr.op)) (Some (entry_behind registers t w)) None)) (take_middle W (w ∷ []))
    ∙ ap (with_entry (stores registers W (length W))) (store_joins registers W w content e)

-- The oldest leaves

abbrev first_store : List ℕ → Station → Option Entry
first_store registers w = cond (is_store (kind w.instr.op)) (Some (entry_behind registers [] w)) None

abbrev with_first : Option Entry → List Entry → List Entry
with_first None es = es
with_first (Some e) es = e ∷ es

first_entry : (o p : Option Entry) (es : List Entry) → with_entry (with_first o es) p ≡ with_first o (with_entry es p)
first_entry None p es = refl
first_entry (Some e) None es = refl
first_entry (Some e) (Some x) es = refl

stores_from : (registers : List ℕ) (w : Station) (W : List Station) (v k : ℕ) → length registers ≡ 34 → (w.destination ≢ 0 → w.made ≡ Some v) →
    stores registers (w ∷ W) (suc k) ≡ with_first (first_store registers w) (stores (write registers w.destination v) W k)
stores_from registers w W v zero s m = first (is_store (kind w.instr.op))
  where
    first : (b : Bool) → with_entry [] (cond b (Some (entry_behind registers [] w)) None) ≡ with_first (cond b (Some (entry_behind registers [] w)) None) []
    first b = grind (arith, common_steps)
stores_from registers w W v (suc k) s m =
    ap (λ es. with_entry es (store_at registers (w ∷ W) (slice_get W k) (suc k))) (stores_from registers w W v k s m)
    ∙ ap (with_entry (with_first (first_store registers w) (stores (write registers w.destination v) W k))) (same (slice_get W k))
    ∙ first_entry (first_store registers w) (store_at (write registers w.destination v) W (slice_get W k) k) (stores (write registers w.destination v) W k)
  where
    same : (o : Option Station) → store_at registers (w ∷ W) o (suc k) ≡ store_at (write registers w.destination v) W o k
    same o = grind (arith, common_steps, values_passed)

pub stores_passed : (registers : List ℕ) (w : Station) (W : List Station) (v : ℕ) → length registers ≡ 34 → (w.destination ≢ 0 → w.made ≡ Some v) →
    stores_behind w (stores registers (w ∷ W) (length (w ∷ W))) ≡ stores (write registers w.destination v) W (length W)
stores_passed registers w W v s m =
    ap (stores_behind w) (stores_from registers w W v (length W) s m) ∙ by (is_store (kind w.instr.op))
  where
    es : List Entry
    es = stores (write registers w.destination v) W (length W)

    by : (b : Bool) → cond b (drop 1 (with_first (cond b (Some (entry_behind registers [] w)) None) es)) (with_first (cond b (Some (entry_behind registers [] w)) None) es) ≡ es
    by b = grind (arith, common_steps)

-- To a load they are what all accesses are

-- the youngest entry that passes a test
abbrev last_that : (Entry → Bool) → List Entry → Option Entry
last_that test es = option_map (λ (p : ℕ × Entry). p.1) (youngest test es)

last_end : (test : Entry → Bool) (es : List Entry) (e : Entry) → last_that test (es ++ e ∷ []) ≡ cond (test e) (Some e) (last_that test es)
last_end test es e =
    let at : length es ≡ 0 + length es = omega arith in
    ap (option_map (λ (p : ℕ × Entry). p.1)) (youngest_from-snoc test es e 0 (length es) at) ∙ by (test e) (youngest test es)
  where
    by : (b : Bool) (o : Option (ℕ × Entry)) →
        option_map (λ (p : ℕ × Entry). p.1) (or_older (cond b (Some (length es, e)) None) o) ≡ cond b (Some e) (option_map (λ (p : ℕ × Entry). p.1) o)
    by b o = grind (arith, common_steps)

-- loads pass no test of stores
last_stores : (test : Entry → Bool) → ((e : Entry) → e.store ≡ false → test e ≡ false) → (registers : List ℕ) (W : List Station) (k : ℕ) →
    last_that test (stores registers W k) ≡ last_that test (entries registers W k)
last_stores test loads registers W zero = refl
last_stores test loads registers W (suc k) = by (slice_get W k) (last_stores test loads registers W k)
  where
    es : List Entry
    es = stores registers W k

    fs : List Entry
    fs = entries registers W k

    by : (o : Option Station) → last_that test es ≡ last_that test fs → last_that test (with_entry es (store_at registers W o k)) ≡ last_that test (with_entry fs (entry_at registers W o k))
    by o more = grind (arith, common_steps, es, fs, last_end)

-- the value of a load, by the youngest without its address and the youngest with a byte of the load
value_last : Option Entry → Option Entry → List ℕ → Op → ℕ → ℕ → Option ℕ
value_last (Some e) met memory op a n = None
value_last None None memory op a n = Some (loaded op (little_endian (slice_index memory) a (width op)))
value_last None (Some e) memory op a n = option_map (loaded op) (taken_from e.address (bytes e.width) e.content a n)

last_rule : (p q : Option (ℕ × Entry)) (es : List Entry) (memory : List ℕ) (op : Op) (a n : ℕ) → youngest (overlaps a n) es ≡ q →
    value_last (option_map (λ (x : ℕ × Entry). x.1) p) (option_map (λ (x : ℕ × Entry). x.1) q) memory op a n ≡ value_by (by_lacking p es a n) memory op a
unfolding value_last
last_rule p q es memory op a n h = grind (arith, common_steps)

last_value : (es : List Entry) (memory : List ℕ) (op : Op) (a n : ℕ) →
    value_last (last_that lacks_address es) (last_that (overlaps a n) es) memory op a n ≡ value_by (answer_over es a n) memory op a
last_value es memory op a n = last_rule (youngest lacks_address es) (youngest (overlaps a n) es) es memory op a n refl

pub stores_answer : (registers memory : List ℕ) (W : List Station) (k a : ℕ) (op : Op) →
    value_by (answer_over (stores registers W k) a (width op)) memory op a ≡ value_by (answer_over (entries registers W k) a (width op)) memory op a
stores_answer registers memory W k a op =
    let n = width op in
    let es = stores registers W k in
    let fs = entries registers W k in
    sym (last_value es memory op a n)
    ∙ ap (λ p. value_last p (last_that (overlaps a n) es) memory op a n) (last_stores lacks_address (λ e q. ap (λ b. b && is_none e.address) q) registers W k)
    ∙ ap (λ p. value_last (last_that lacks_address fs) p memory op a n) (last_stores (overlaps a n) (λ e q. ap (λ b. b && meets e.address (bytes e.width) a n) q) registers W k)
    ∙ last_value fs memory op a n
