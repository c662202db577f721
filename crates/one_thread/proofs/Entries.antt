-- The queue of a window, as it is built.
use Rattle.std.proofs.lemmas.Grind.{common_steps}
use Rattle.std.proofs.Common.{◌≡◌, ◌<◌, ◌≤◌, ◌-◌, ℕ, zero, suc, ◌+◌, Bool, true, false, cond, List, [], ◌∷◌, ◌++◌, length, take, Option, Some, None, refl, sym, ap, ◌∙◌, arith, length-append}
use Rattle.std.proofs.Common.{length-take, true≢false}
use Rattle.std.specs.Prelude.{slice_get, is_some, min}
use Rattle.one_thread.specs.declared.station.Station.{Station}
use Rattle.one_thread.specs.Producers.{given_at}
use Rattle.one_thread.specs.Loads.{entries, entry_at, load_in, waits, waits_at, with_entry}
use Rattle.one_thread.proofs.Scan.{get_left, take_left}

-- the first k stations alone matter
pub entries_left : (registers : List ℕ) (xs zs : List Station) (k : ℕ) → k ≤ length xs → entries registers (xs ++ zs) k ≡ entries registers xs k
entries_left registers xs zs zero h = refl
entries_left registers xs zs (suc k) h =
    let less : k < length xs = omega arith in
    let le : k ≤ length xs = omega arith in
    ap (λ es. with_entry es (entry_at registers (xs ++ zs) (slice_get (xs ++ zs) k) k)) (entries_left registers xs zs k le)
    ∙ ap (λ o. with_entry (entries registers xs k) (entry_at registers (xs ++ zs) o k)) (get_left xs zs k less)
    ∙ ap (with_entry (entries registers xs k)) (same (slice_get xs k) le)
  where
    same : (o : Option Station) → k ≤ length xs → entry_at registers (xs ++ zs) o k ≡ entry_at registers xs o k
    same o le = grind (arith, common_steps, take_left)

-- a station that waits for no value is not answered
pub none_by : (registers memory : List ℕ) (W : List Station) (o : Option Station) (k : ℕ) → waits_at o ≡ false → given_at (load_in registers memory) W o k ≡ None
none_by registers memory W o k e = grind (arith, common_steps, true≢false)

-- The first i stations alone

pub same_entries : (registers : List ℕ) (W : List Station) (i : ℕ) → i ≤ length W → entries registers (take i W) (length (take i W)) ≡ entries registers W i
same_entries registers W i h =
    let le : i ≤ length (take i W) = omega (arith, h, length-take i W) in
    let is : length (take i W) ≡ i = omega (arith, h, length-take i W) in
    ap (entries registers (take i W)) is
    ∙ sym (entries_left registers (take i W) (Rattle.std.specs.Prelude.drop i W) i le)
    ∙ ap (λ l. entries registers l i) (Rattle.std.proofs.Common.take-append-drop i W)

-- a load that is given a value waits for it
pub answered_waits : (registers memory : List ℕ) (ws : List Station) (w : Station) (v : ℕ) → load_in registers memory ws w ≡ Some v → (a : ℕ) × (waits w ≡ Some a)
answered_waits registers memory ws w v e = grind (arith, common_steps)
