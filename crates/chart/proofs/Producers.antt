-- A new tenant waits for the creators of its sources that have made nothing yet.
use Rattle.std.proofs.Common.{◌≡◌, ◌<◌, ℕ, zero, suc, Bool, true, false, cond, ◌&&◌, eqb, ltb, ltb-true, List, [], ◌∷◌, ◌++◌, length, map, Option, Some, None, refl, sym, ap, ◌∙◌, subst, arith}
use Rattle.std.specs.List.{AllByRecursion}
use Rattle.instructions.specs.Programs.{Program}
use Rattle.inorder.specs.Steps.{IsNoRetiredStop}
use Rattle.inorder.specs.Tenants.{Live, Retired, Squashed, Standing, Tenant, destination_of, on_path, stands_live, stands_on_path}
use Rattle.inorder.specs.Unit.{creator, last_writer, value_of}
use Rattle.inorder.proofs.Basics.{last_writer_below, value_of_more}
use Rattle.inorder.proofs.OneCaller.Left.{retired_all}
use Rattle.inorder.proofs.SettledRegisters.{register_given, value_of_last, writer_if}
use Rattle.inorder.proofs.Sound.{IsSound}
use Rattle.one_thread.specs.declared.station.Station.{Station}
use Rattle.one_thread.specs.Window.{station_of, window}
use Rattle.one_thread.proofs.Windows.{none_left, window_if, window_live}
use Rattle.chart.specs.declared.row.Row.{Row}
use Rattle.chart.specs.Happened.{Awaits}
use Rattle.chart.specs.Named.{live_positions}
use Rattle.chart.specs.Rows.{awaited, unmade, unmade_by, writer_from}
use Rattle.chart.proofs.LivePositions.{positions_live, positions_past}
use Rattle.chart.proofs.RowsNamed.{position_of, positions_length, station_in}

-- The youngest writer among stations and their positions

-- the position of the last one that writes a register, where that has made nothing; or what was found before them
abbrev unmade_in : (register : ℕ) → Option ℕ → List ℕ → List Station → Option ℕ
unmade_in register found [] ws = found
unmade_in register found (p ∷ ps) [] = found
unmade_in register found (p ∷ ps) (w ∷ ws) = unmade_in register (cond (eqb w.destination register) (unmade_by w.made p) found) ps ws

by_rows : (register : ℕ) (found : Option Row) (rows : List Row) →
    unmade (writer_from register found rows) ≡ unmade_in register (unmade found) (map position_of rows) (map station_in rows)
by_rows register found [] = refl
by_rows register found (r ∷ rs) =
    by_rows register (cond (eqb r.station.destination register) (Some r) found) rs
    ∙ ap (λ o. unmade_in register o (map position_of rs) (map station_in rs)) (go (eqb r.station.destination register))
  where
    go : (b : Bool) → unmade (cond b (Some r) found) ≡ cond b (unmade_by r.station.made r.position) (unmade found)
    go true = refl
    go false = refl

one_more : (register : ℕ) (found : Option ℕ) (ps : List ℕ) (ws : List Station) (p : ℕ) (w : Station) → length ps ≡ length ws →
    unmade_in register found (ps ++ p ∷ []) (ws ++ w ∷ []) ≡ cond (eqb w.destination register) (unmade_by w.made p) (unmade_in register found ps ws)
one_more register found [] [] p w e = refl
one_more register found [] (v ∷ ws) p w e = absurd (omega (arith, e))
one_more register found (q ∷ ps) [] p w e = absurd (omega (arith, e))
one_more register found (q ∷ ps) (v ∷ ws) p w e =
    one_more register (cond (eqb v.destination register) (unmade_by v.made q) found) ps ws p w (omega (arith, e))

none_more : (register : ℕ) (found : Option ℕ) (ps : List ℕ) → unmade_in register found ps [] ≡ found
none_more register found [] = refl
none_more register found (p ∷ ps) = refl

-- By the last writer of the path

module _ (P : Program) (r : ℕ) (lt : suc r < 34) where
  -- a tenant that does not write the register, or has left the path
  passes : (t : Tenant) (ts : List Tenant) (o : Option ℕ) → (on_path t && eqb (destination_of P t) (suc r)) ≡ false → Awaits ts (last_writer P ts (suc r)) o →
      Awaits (t ∷ ts) (last_writer P (t ∷ ts) (suc r)) o
  passes t ts o e h = subst (λ c. Awaits (t ∷ ts) c o) (sym (writer_if P t ts (suc r) false e)) (go o h)
    where
      same : value_of (t ∷ ts) (last_writer P ts (suc r)) ≡ value_of ts (last_writer P ts (suc r))
      same = value_of_more t ts (last_writer P ts (suc r)) (last_writer_below P ts (suc r))

      go : (o : Option ℕ) → Awaits ts (last_writer P ts (suc r)) o → Awaits (t ∷ ts) (last_writer P ts (suc r)) o
      go None g = (g.0, same ∙ g.1)
      go (Some p) g = (g.0, same ∙ g.1)

  -- a tenant of the path that writes it
  writes : (t : Tenant) (ts : List Tenant) (m : Option ℕ) → t.made ≡ m → (on_path t && eqb (destination_of P t) (suc r)) ≡ true →
      Awaits (t ∷ ts) (last_writer P (t ∷ ts) (suc r)) (unmade_by m (length ts))
  writes t ts m e f = subst (λ c. Awaits (t ∷ ts) c (unmade_by m (length ts))) (sym (writer_if P t ts (suc r) true f)) (go m e)
    where
      go : (m : Option ℕ) → t.made ≡ m → Awaits (t ∷ ts) (Some (length ts)) (unmade_by m (length ts))
      go None g = (refl, value_of_last t ts ∙ g)
      go (Some v) g = (v, value_of_last t ts ∙ g)

  last_awaits : (ts : List Tenant) → IsSound P ts → AllByRecursion IsNoRetiredStop ts →
      Awaits ts (last_writer P ts (suc r)) (unmade_in (suc r) None (live_positions ts) (window P ts))
  last_awaits [] s n = (0, refl)
  last_awaits (t ∷ ts) s n = go t.standing refl (last_awaits ts s.1 n.1)
    where
      found : Option ℕ
      found = unmade_in (suc r) None (live_positions ts) (window P ts)

      all : Option ℕ
      all = unmade_in (suc r) None (live_positions (t ∷ ts)) (window P (t ∷ ts))

      hit : (b : Bool) → eqb (destination_of P t) (suc r) ≡ b → (on_path t ≡ true) → (on_path t && eqb (destination_of P t) (suc r)) ≡ b
      hit b e f = ap (λ x. x && eqb (destination_of P t) (suc r)) f ∙ e

      on : (b : Bool) → eqb (destination_of P t) (suc r) ≡ b → t.standing ≡ Live → Awaits ts (last_writer P ts (suc r)) found →
          Awaits (t ∷ ts) (last_writer P (t ∷ ts) (suc r)) (cond b (unmade_by t.made (length ts)) found)
      on true e live more = writes t ts t.made refl (hit true e (ap stands_on_path live))
      on false e live more = passes t ts found (hit false e (ap stands_on_path live)) more

      go : (st : Standing) → t.standing ≡ st → Awaits ts (last_writer P ts (suc r)) found → Awaits (t ∷ ts) (last_writer P (t ∷ ts) (suc r)) all
      go Live e more =
          let same : all ≡ cond (eqb (destination_of P t) (suc r)) (unmade_by t.made (length ts)) found =
          ap (λ ps. unmade_in (suc r) None ps (window P (t ∷ ts))) (positions_live t ts e)
          ∙ ap (unmade_in (suc r) None (live_positions ts ++ length ts ∷ [])) (window_live P t ts e)
          ∙ one_more (suc r) None (live_positions ts) (window P ts) (length ts) (station_of P t) (positions_length P ts) in
          subst (Awaits (t ∷ ts) (last_writer P (t ∷ ts) (suc r))) (sym same) (on (eqb (destination_of P t) (suc r)) refl e more)
      go Squashed e more =
          let same : all ≡ found =
          ap (λ ps. unmade_in (suc r) None ps (window P (t ∷ ts))) (positions_past t ts (λ q. let no : Live ≡ Squashed = sym q ∙ e in absurd (cc)))
          ∙ ap (unmade_in (suc r) None (live_positions ts)) (window_if P t ts false (ap stands_live e)) in
          subst (Awaits (t ∷ ts) (last_writer P (t ∷ ts) (suc r))) (sym same)
          (passes t ts found (ap (λ x. stands_on_path x && eqb (destination_of P t) (suc r)) e) more)
      go Retired e more =
          let gone = retired_all P t ts s e n.0 in
          let same : all ≡ None =
          ap (unmade_in (suc r) None (live_positions (t ∷ ts))) (none_left P (t ∷ ts) gone) ∙ none_more (suc r) None (live_positions (t ∷ ts)) in
          subst (Awaits (t ∷ ts) (last_writer P (t ∷ ts) (suc r))) (sym same) (_, register_given P (t ∷ ts) s gone r lt)

-- the rows of the live tenants tell for whom a new one waits
pub row_awaits : (P : Program) (ts : List Tenant) (rows : List Row) (register : ℕ) → IsSound P ts → AllByRecursion IsNoRetiredStop ts →
    map position_of rows ≡ live_positions ts → map station_in rows ≡ window P ts → Awaits ts (creator P ts register) (awaited register rows)
row_awaits P ts rows zero s n e f = (0, refl)
row_awaits P ts rows (suc r) s n e f = go (ltb (suc r) 34) refl
  where
    same : unmade (writer_from (suc r) None rows) ≡ unmade_in (suc r) None (live_positions ts) (window P ts)
    same = by_rows (suc r) None rows ∙ ap (λ ps. unmade_in (suc r) None ps (map station_in rows)) e ∙ ap (unmade_in (suc r) None (live_positions ts)) f

    go : (b : Bool) → ltb (suc r) 34 ≡ b → Awaits ts (cond b (last_writer P ts (suc r)) None) (cond b (unmade (writer_from (suc r) None rows)) None)
    go true b = subst (Awaits ts (last_writer P ts (suc r))) (sym same) (last_awaits P r (ltb-true (suc r) 34 b) ts s n)
    go false b = (0, refl)
