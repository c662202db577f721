-- What the next tenant finds: where nobody is live, after one station more, and where the oldest has left.
use Rattle.std.proofs.lemmas.Grind.{common_steps}
use Rattle.std.proofs.Common.{◌≡◌, ◌≢◌, ◌<◌, ◌≤◌, ℕ, suc, ◌-◌, true, List, [], ◌∷◌, ◌++◌, length, Option, Some, refl}
use Rattle.std.proofs.Common.{sym, ap, ◌∙◌, arith, eq-eqb, ne_eqb, length-append, length-set, true≢false}
use Rattle.std.proofs.lemmas.Bool.{cases_eq, cases_lt, le-ltb}
use Rattle.std.proofs.lemmas.List.{get_or-set_same, get_or-set_other}
use Rattle.circular_buffer.proofs.Places.{slice_get-some}
use Rattle.std.specs.Prelude.{is_some, slice_get, slice_index, slice_set, unwrap_or}
use Rattle.inorder.specs.Machine.{write}
use Rattle.inorder.proofs.Basics.{read_same, read_other}
use Rattle.streaming.specs.declared.future.Future.{Future}
use Rattle.one_thread.specs.declared.station.Station.{Station}
use Rattle.streaming.specs.Futures.{Foresees, GoesOnBehind}
use Rattle.one_thread.specs.Window.{next_after, next_in, source_in}
use Rattle.one_thread.proofs.Scan.{get_end, register_end}
use Rattle.one_thread.proofs.Sources.{source_by}

-- Nobody is live

pub values_none : (registers : List ℕ) (r : ℕ) → 0 < length registers → r < 34 → source_in registers [] r ≡ Some (slice_index (slice_set registers 0 0) r)
values_none registers r l h = grind (arith, common_steps, get_or-set_same, source_by, get_or-set_other)

pub nobody_live : (values registers : List ℕ) (at pc : ℕ) → values ≡ registers → at ≡ pc → length registers ≡ 34 → Foresees (record { values = slice_set values 0 0; pc = at }) registers pc []
nobody_live values registers at pc same path all = grind (arith, common_steps, length-set, values_none)

-- One station more

-- it writes no register
pub values_same : (registers values : List ℕ) (W : List Station) (w : Station) (r : ℕ) → w.destination ≡ 0 → r < 34 → source_in registers W r ≡ Some (slice_index values r) →
    source_in registers (W ++ w ∷ []) r ≡ Some (slice_index values r)
values_same registers values W w r d l h = grind (arith, common_steps, source_by, register_end, ne_eqb)

-- it writes this value
pub values_set : (registers values : List ℕ) (W : List Station) (w : Station) (v r : ℕ) → w.destination ≢ 0 → w.destination < length values → w.made ≡ Some v → r < 34 →
    source_in registers W r ≡ Some (slice_index values r) → source_in registers (W ++ w ∷ []) r ≡ Some (slice_index (slice_set values w.destination v) r)
values_set registers values W w v r d s m l h = grind (arith, common_steps, get_or-set_other, source_by, register_end, cases_eq, eq-eqb, get_or-set_same, ne_eqb)

-- the path goes on after it
pub path_end : (pc : ℕ) (W : List Station) (w : Station) → next_in pc (W ++ w ∷ []) ≡ w.next
path_end pc W w = grind (arith, common_steps, length-append W (w ∷ []), get_end W [] w)

-- The oldest has left, and what it made is in its register

pub values_left : (registers : List ℕ) (w : Station) (W : List Station) (v r : ℕ) → length registers ≡ 34 → (w.destination ≢ 0 → w.made ≡ Some v) → r < 34 →
    source_in (write registers w.destination v) W r ≡ source_in registers (w ∷ W) r
values_left registers w W v r s m l = grind (arith, common_steps, source_by, cases_eq, read_same, eq-eqb, read_other, ne_eqb)

-- A number that is no register's reads as 0
beyond : (registers : List ℕ) (W : List Station) (r : ℕ) → 34 ≤ r → source_in registers W r ≡ Some 0
beyond registers W r h = grind (arith, common_steps, le-ltb)

pub values_passed : (registers : List ℕ) (w : Station) (W : List Station) (v r : ℕ) → length registers ≡ 34 → (w.destination ≢ 0 → w.made ≡ Some v) →
    source_in (write registers w.destination v) W r ≡ source_in registers (w ∷ W) r
values_passed registers w W v r s m = grind (arith, common_steps, values_left, beyond, cases_lt)

pub path_left : (pc : ℕ) (w : Station) (W : List Station) → next_in w.next W ≡ next_in pc (w ∷ W)
path_left pc w [] = refl
path_left pc w (x ∷ W) =
    let one : suc (length W) - 1 ≡ length W = omega arith in
    let two : suc (suc (length W)) - 1 ≡ suc (length W) = omega arith in
    let last = slice_get-some (x ∷ W) (length W) (omega arith) in
    ap (λ k. next_after w.next (slice_get (x ∷ W) k)) one
    ∙ ap (next_after w.next) last.1
    ∙ sym (ap (next_after pc) last.1)
    ∙ sym (ap (λ k. next_after pc (slice_get (w ∷ x ∷ W) k)) two)

pub made_value : (o : Option ℕ) → is_some o ≡ true → o ≡ Some (unwrap_or o 0)
made_value o e = grind (arith, common_steps, true≢false)

pub foresees_left : (f : Future) (registers : List ℕ) (pc : ℕ) (w : Station) (W : List Station) → length registers ≡ 34 → (w.destination ≢ 0 → is_some w.made ≡ true) →
    Foresees f registers pc (w ∷ W) →
    Foresees f (write registers w.destination (unwrap_or w.made 0)) w.next W
foresees_left f registers pc w W s p h = grind (arith, common_steps, values_left, made_value, path_left)

-- A station that writes a register, or none

pub behind_writes : (f : Future) (destination value next : ℕ) → length f.values ≡ 34 → destination ≢ 0 → destination < 34 →
    GoesOnBehind f destination (Some value) next (record { values = slice_set f.values destination value; pc = next })
behind_writes f destination value next s d l = grind (arith, common_steps, length-set, values_set, path_end)

pub behind_none : (f : Future) (destination : ℕ) (value : Option ℕ) (next : ℕ) → length f.values ≡ 34 → destination ≡ 0 →
    GoesOnBehind f destination value next (record { values = f.values; pc = next })
behind_none f destination value next s d = grind (arith, common_steps, values_same, path_end)
