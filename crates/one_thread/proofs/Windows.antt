-- What a window says of its unit.
use Rattle.std.proofs.lemmas.Grind.{common_steps}
use Rattle.std.proofs.Common.{◌≡◌, ℕ, suc, ◌+◌, ◌-◌, ◌<◌, ltb, ltb-true, Bool, true, false, cond, ◌&&◌, eqb, List, [], ◌∷◌, ◌++◌, length, Option, Some, refl, sym, ap, ◌∙◌, arith}
use Rattle.std.proofs.Common.{append_assoc, append-nil, length-append}
use Rattle.std.specs.Prelude.{slice_get, slice_index}
use Rattle.std.specs.List.{AllByRecursion}
use Rattle.instructions.specs.Instruction.{is_access}
use Rattle.instructions.specs.Programs.{Program}
use Rattle.inorder.specs.Callers.{is_retired}
use Rattle.inorder.specs.Committed.{ahead, committed}
use Rattle.inorder.specs.Steps.{IsNoRetiredStop}
use Rattle.inorder.specs.Tenants.{Live, Retired, Squashed, Standing, Tenant, destination_of, is_first, is_live, is_live_access, kind_of, on_path, stands_live}
use Rattle.inorder.specs.Unit.{creator, front_half, front_pc, half_after, how_many, last_writer, value_of}
use Rattle.inorder.proofs.Basics.{last_writer_below, value_of_more}
use Rattle.inorder.proofs.Commits.{live_not, not_complete}
use Rattle.inorder.proofs.SettledRegisters.{ahead_if, committed_if, committed_pc, register_given, squashed_not, value_of_last, writer_if}
use Rattle.inorder.proofs.Sound.{IsSettled, IsSound, SettledBy}
use Rattle.inorder.proofs.OneCaller.Left.{retired_all, retired_commits}
use Rattle.one_thread.specs.Ahead.{low_after, low_of, waiting_half}
use Rattle.one_thread.specs.declared.station.Station.{Station}
use Rattle.one_thread.specs.Window.{accesses, half_behind, half_in, next_in, register_after, register_in, source_in, station_of, window}
use Rattle.one_thread.proofs.Accesses.{accesses_end}
use Rattle.one_thread.proofs.Waiting.{low_if}
use Rattle.one_thread.proofs.Scan.{get_end, register_end}

-- The list

pub window_if : (P : Program) (t : Tenant) (ts : List Tenant) (b : Bool) → is_live t ≡ b → window P (t ∷ ts) ≡ cond b (window P ts ++ station_of P t ∷ []) (window P ts)
window_if P t ts b e = ap (λ x. cond x (window P ts ++ station_of P t ∷ []) (window P ts)) e

pub window_live : (P : Program) (t : Tenant) (ts : List Tenant) → t.standing ≡ Live → window P (t ∷ ts) ≡ window P ts ++ station_of P t ∷ []
window_live P t ts e = window_if P t ts true (ap stands_live e)

pub window_append : (P : Program) (ys us : List Tenant) → window P (ys ++ us) ≡ window P us ++ window P ys
window_append P [] us = sym (append-nil (window P us))
window_append P (y ∷ ys) us = go (is_live y) refl (window_append P ys us)
  where
    go : (b : Bool) → is_live y ≡ b → window P (ys ++ us) ≡ window P us ++ window P ys → window P (y ∷ (ys ++ us)) ≡ window P us ++ window P (y ∷ ys)
    go b e more = grind (arith, common_steps, window_if, append_assoc)

pub window_length : (P : Program) (U : List Tenant) → length (window P U) ≡ how_many is_live U
window_length P [] = refl
window_length P (t ∷ ts) = go (is_live t) refl (window_length P ts)
  where
    go : (b : Bool) → is_live t ≡ b → length (window P ts) ≡ how_many is_live ts → length (cond b (window P ts ++ station_of P t ∷ []) (window P ts)) ≡ cond b (suc (how_many is_live ts))
        (how_many is_live ts)
    go b e more = grind (arith, common_steps, length-append)

-- Live accesses are counted in the window

pub window_accesses : (P : Program) (U : List Tenant) → accesses (window P U) (length (window P U)) ≡ how_many (is_live_access P) U
window_accesses P [] = refl
window_accesses P (t ∷ ts) = go t.standing refl (window_accesses P ts)
  where
    W : List Station
    W = window P ts

    count : ℕ
    count = how_many (is_live_access P) ts

    all : List Station → ℕ
    all l = accesses l (length l)

    gone : stands_live t.standing ≡ false → all W ≡ count → all (window P (t ∷ ts)) ≡ cond (stands_live t.standing && is_access (kind_of P t)) (suc count) count
    gone e more = ap all (window_if P t ts false e) ∙ more ∙ sym (ap (λ b. cond (b && is_access (kind_of P t)) (suc count) count) e)

    on : (b : Bool) → accesses W (length W) ≡ count → accesses W (length W) + cond b 1 0 ≡ cond b (suc count) count
    on b more = grind (arith, common_steps)

    go : (st : Standing) → t.standing ≡ st → all W ≡ count → all (window P (t ∷ ts)) ≡ cond (stands_live t.standing && is_access (kind_of P t)) (suc count) count
    go Live e more =
        let long : length (W ++ station_of P t ∷ []) ≡ suc (length W) = omega (arith, length-append W (station_of P t ∷ [])) in
        ap all (window_live P t ts e)
        ∙ ap (accesses (W ++ station_of P t ∷ [])) long
        ∙ accesses_end W (station_of P t)
        ∙ on (is_access (kind_of P t)) more
        ∙ sym (ap (λ s. cond (stands_live s && is_access (kind_of P t)) (suc count) count) e)
    go Retired e more = gone (ap stands_live e) more
    go Squashed e more = gone (ap stands_live e) more

-- Nobody is live where all have left

pub none_left : (P : Program) (ts : List Tenant) → AllByRecursion IsSettled ts → window P ts ≡ []
none_left P [] h = refl
none_left P (t ∷ ts) h = go t.standing refl h.0 (none_left P ts h.1)
  where
    go : (st : Standing) → t.standing ≡ st → SettledBy st t.fate → window P ts ≡ [] → window P (t ∷ ts) ≡ []
    go st e q more = grind (arith, common_steps, window_if)

-- Registers

-- the value of register r, by the tenants and by the window
pub writer_worth : (P : Program) (U : List Tenant) → IsSound P U → AllByRecursion IsNoRetiredStop U → (r : ℕ) →
    suc r < 34 →
    value_of U (last_writer P U (suc r)) ≡ register_in (suc r) (Some (slice_index (ahead P U).registers (suc r))) (window P U)
writer_worth P [] s n r lt = register_given P [] s tt r lt
writer_worth P (t ∷ ts) s n r lt = go t.standing refl (writer_worth P ts s.1 n.1 r lt)
  where
    regs : List Tenant → ℕ
    regs V = slice_index (ahead P V).registers (suc r)

    off : (t.standing ≡ Squashed) → value_of (t ∷ ts) (last_writer P (t ∷ ts) (suc r)) ≡ value_of ts (last_writer P ts (suc r))
    off e = grind (arith, common_steps, writer_if, value_of_more, last_writer_below)

    on : (b : Bool) → eqb (destination_of P t) (suc r) ≡ b → t.standing ≡ Live → value_of ts (last_writer P ts (suc r)) ≡ register_in (suc r) (Some (regs ts)) (window P ts) →
        value_of (t ∷ ts) (last_writer P (t ∷ ts) (suc r)) ≡ register_after (suc r) (register_in (suc r) (Some (regs ts)) (window P ts)) (Some (station_of P t))
    on b h1 e more = grind (arith, common_steps, writer_if, value_of_last, regs, value_of_more, last_writer_below)

    go : (st : Standing) → t.standing ≡ st → value_of ts (last_writer P ts (suc r)) ≡ register_in (suc r) (Some (regs ts)) (window P ts) →
        value_of (t ∷ ts) (last_writer P (t ∷ ts) (suc r)) ≡ register_in (suc r) (Some (regs (t ∷ ts))) (window P (t ∷ ts))
    go Live e more =
        on (eqb (destination_of P t) (suc r)) refl e more
        ∙ sym (register_end (suc r) (Some (regs ts)) (window P ts) (station_of P t))
        ∙ sym (ap (register_in (suc r) (Some (regs ts))) (window_live P t ts e))
        ∙ sym (ap (λ c. register_in (suc r) (Some (slice_index c.registers (suc r))) (window P (t ∷ ts))) (ahead_if P t ts false (live_not t e)))
    go Squashed e more = grind (arith, common_steps, off e, regs, window_if, ahead_if, squashed_not)
    go Retired e more =
        let all = retired_all P t ts s e n.0 in
        register_given P (t ∷ ts) s all r lt
        ∙ sym (ap (register_in (suc r) (Some (regs (t ∷ ts)))) (none_left P (t ∷ ts) all))

pub source_worth : (P : Program) (U : List Tenant) → IsSound P U → AllByRecursion IsNoRetiredStop U → (r : ℕ) → value_of U (creator P U r) ≡ source_in (ahead P U).registers (window P U) r
source_worth P U s n h4 = grind (arith, common_steps, ltb, writer_worth, ltb-true)

-- The front pc

next_end : (pc : ℕ) (ws : List Station) (w : Station) → next_in pc (ws ++ w ∷ []) ≡ w.next
next_end pc ws w = grind (arith, common_steps, length-append ws (w ∷ []), get_end ws [] w)

pub front_worth : (P : Program) (U : List Tenant) → IsSound P U → AllByRecursion IsNoRetiredStop U → front_pc U ≡ next_in (committed P U).pc (window P U)
front_worth P [] s n = refl
front_worth P (t ∷ ts) s n = go t.standing refl (front_worth P ts s.1 n.1)
  where
    front_if : (b : Bool) → on_path t ≡ b → front_pc (t ∷ ts) ≡ cond b t.next (front_pc ts)
    front_if b e = ap (λ x. cond x t.next (front_pc ts)) e

    go : (st : Standing) → t.standing ≡ st → front_pc ts ≡ next_in (committed P ts).pc (window P ts) → front_pc (t ∷ ts) ≡ next_in (committed P (t ∷ ts)).pc (window P (t ∷ ts))
    go Live e more = grind (arith, common_steps, front_if, next_end, window_live)
    go Squashed e more = grind (arith, common_steps, front_if, committed_if, not_complete, squashed_not, window_if)
    go Retired e more =
        let all = retired_all P t ts s e n.0 in
        sym (committed_pc P (t ∷ ts) s all) ∙ sym (ap (next_in (committed P (t ∷ ts)).pc) (none_left P (t ∷ ts) all))

-- The half that comes next

half_end : (low : Option ℕ) (ws : List Station) (w : Station) → half_in low (ws ++ w ∷ []) ≡ half_behind low (Some w)
half_end low ws w =
    let last : length (ws ++ w ∷ []) - 1 ≡ length ws = omega (arith, length-append ws (w ∷ [])) in
    ap (λ k. half_behind low (slice_get (ws ++ w ∷ []) k)) last ∙ ap (half_behind low) (get_end ws [] w)

pub half_worth : (P : Program) (U : List Tenant) → IsSound P U → AllByRecursion IsNoRetiredStop U → front_half P U ≡ half_in (low_of P U) (window P U)
half_worth P [] s n = refl
half_worth P (t ∷ ts) s n = go t.standing refl (half_worth P ts s.1 n.1)
  where
    half_if : (b : Bool) → on_path t ≡ b → front_half P (t ∷ ts) ≡ cond b (half_after (is_first P t)) (front_half P ts)
    half_if b e = ap (λ x. cond x (half_after (is_first P t)) (front_half P ts)) e

    behind : (f : Bool) → half_after f ≡ waiting_half (low_after true f t.made (low_of P ts))
    behind f = grind (arith, common_steps)

    go : (st : Standing) → t.standing ≡ st → front_half P ts ≡ half_in (low_of P ts) (window P ts) → front_half P (t ∷ ts) ≡ half_in (low_of P (t ∷ ts)) (window P (t ∷ ts))
    go st e more = grind (arith, common_steps, half_if, half_end, window_live, low_if, squashed_not, window_if, behind, retired_commits, none_left, retired_all)

-- The path: those that have retired, and the window

pub path_length : (P : Program) (U : List Tenant) → how_many on_path U ≡ how_many is_retired U + length (window P U)
path_length P [] = refl
path_length P (t ∷ ts) = go t.standing refl (path_length P ts)
  where
    W : List Station
    W = window P ts

    path_if : (b : Bool) → on_path t ≡ b → how_many on_path (t ∷ ts) ≡ cond b (suc (how_many on_path ts)) (how_many on_path ts)
    path_if b e = ap (λ x. cond x (suc (how_many on_path ts)) (how_many on_path ts)) e

    retired_if : (b : Bool) → is_retired t ≡ b → how_many is_retired (t ∷ ts) ≡ cond b (suc (how_many is_retired ts)) (how_many is_retired ts)
    retired_if b e = ap (λ x. cond x (suc (how_many is_retired ts)) (how_many is_retired ts)) e

    go : (st : Standing) → t.standing ≡ st → how_many on_path ts ≡ how_many is_retired ts + length W → how_many on_path (t ∷ ts) ≡ how_many is_retired (t ∷ ts) + length (window P (t ∷ ts))
    go st e more = grind (arith, common_steps, path_if, retired_if, window_live, length-append, window_if)
