-- Each row is that of the tenant at its position.
use Rattle.std.proofs.Common.{◌≡◌, ◌<◌, ◌≤◌, ℕ, zero, suc, ◌+◌, ◌^◌, Bool, true, false, cond, List, [], ◌∷◌, ◌++◌, length, map, take, drop, Option, Some, None, refl, sym, ap, ◌∙◌, subst, arith}
use Rattle.std.proofs.Common.{add-one, append_assoc, length-append}
use Rattle.std.proofs.lemmas.Bool.{le-ltb, lt-ltb}
use Rattle.std.proofs.lemmas.List.{append-nil, drop-map, length-map, map-append, take-map}
use Rattle.std.proofs.Math.Seq.{take-append_seam, take-length}
use Rattle.std.specs.List.{AllByRecursion}
use Rattle.std.specs.Prelude.{nat_lt, slice_get}
use Rattle.instructions.specs.Programs.{Program}
use Rattle.inorder.specs.Tenants.{Live, Retired as HasRetired, Squashed, Standing, Tenant, is_live, stands_live}
use Rattle.inorder.specs.Unit.{Sizes, UpdateUnit}
use Rattle.inorder.proofs.Positions.{at_more, at_new}
use Rattle.one_thread.specs.declared.bench.Turn.{Turn}
use Rattle.one_thread.specs.declared.bench.Turn.TheVariants.{Halved, Let, Loaded, Over, Ran, Recovered, Retired}
use Rattle.one_thread.specs.declared.station.Station.{Station}
use Rattle.one_thread.specs.Turns.{Before, Does, Now, Nowhere}
use Rattle.one_thread.specs.Window.{station_of, window}
use Rattle.chart.specs.declared.row.Row.{Row}
use Rattle.chart.specs.declared.lines.Style.{Style}
use Rattle.chart.specs.Named.{AreNamed, IsRowOf, StandsIn, live_positions}
use Rattle.lsq.specs.declared.entry.Entry.{Entry}
use Rattle.chart.specs.Blocked.{Queued, all_held, blocker, entry_after, held_by, held_rows, joined, joined_by, no_rows}
use Rattle.chart.specs.Events.{begun, entered, new_row, next_kept, rows_seen, stepped}
use Rattle.chart.specs.Rows.{SoFar, all_seen, seen}
use Rattle.chart.specs.Traced.{AreTurns, Passed, unit_behind, kept_behind}
use Rattle.counted_io.specs.Counted.{raised}
use Rattle.chart.proofs.LivePositions.{Fewer, OneLess, OneMore}
use Rattle.chart.proofs.TurnPositions.{grows, lets, loads, recovers, retires, runs}

-- Rows after a turn

abbrev pub position_of : Row → ℕ
position_of r = r.position

abbrev pub station_in : Row → Station
station_in r = r.station

pub positions_length : (P : Program) (ts : List Tenant) → length (live_positions ts) ≡ length (window P ts)
positions_length P [] = refl
positions_length P (t ∷ ts) = go (is_live t) (positions_length P ts)
  where
    go : (b : Bool) → length (live_positions ts) ≡ length (window P ts) →
        length (cond b (live_positions ts ++ length ts ∷ []) (live_positions ts)) ≡ length (cond b (window P ts ++ station_of P t ∷ []) (window P ts))
    go true e =
        omega (arith, e, length-append (live_positions ts) (length ts ∷ []), length-append (window P ts) (station_of P t ∷ []))
    go false e = e

pub slice_there : {X : Type 0} (xs : List X) (i : ℕ) → i < length xs → (x : X) × (slice_get xs i ≡ Some x)
slice_there [] i l = absurd (omega (arith, l))
slice_there (x ∷ xs) zero l = (x, refl)
slice_there (x ∷ xs) (suc i) l = slice_there xs i (omega (arith, l))

drop_there : {X : Type 0} (xs : List X) (i : ℕ) (x : X) → slice_get xs i ≡ Some x → drop i xs ≡ x ∷ drop (suc i) xs
drop_there [] i x e = absurd (cc)
drop_there (y ∷ ys) zero x e = let same : y ≡ x = cc in ap (λ z. z ∷ ys) same
drop_there (y ∷ ys) (suc i) x e = drop_there ys i x e

pub seen_positions : (turn : ℕ) (W : List Station) (i : ℕ) (rows : List Row) → map position_of (all_seen turn W i rows) ≡ map position_of rows
seen_positions turn W i [] = refl
seen_positions turn W i (r ∷ rs) =
    ap (λ p. p ∷ map position_of (all_seen turn W (i + 1) rs)) (one (slice_get W i))
    ∙ ap (λ l. r.position ∷ l) (seen_positions turn W (i + 1) rs)
  where
    one : (o : Option Station) → (seen turn r o).position ≡ r.position
    one None = refl
    one (Some w) = refl

pub seen_stations : (turn : ℕ) (W : List Station) (i : ℕ) (rows : List Row) → i + length rows ≤ length W →
    map station_in (all_seen turn W i rows) ≡ take (length rows) (drop i W)
seen_stations turn W i [] h = refl
seen_stations turn W i (r ∷ rs) h =
    let there = slice_there W i (omega (arith, h)) in
    let w : Station = there.0 in
    let more = seen_stations turn W (i + 1) rs (omega (arith, h)) in
    ap (λ o. (seen turn r o).station ∷ map station_in (all_seen turn W (i + 1) rs)) there.1
    ∙ ap (λ l. w ∷ l) more
    ∙ ap (λ k. w ∷ take (length rs) (drop k W)) (add-one i)
    ∙ ap (take (suc (length rs))) (sym (drop_there W i w there.1))

-- What a load waits for changes neither its position nor its station

held_map : {X : Type 0} (g : Row → X) (turn : ℕ) → ((r : Row) (o : Option ℕ) → g (held_by turn r o) ≡ g r) → (q : Queued) (rows : List Row) →
    map g (all_held turn q rows).rows ≡ map g q.rows ++ map g rows
held_map g turn same q [] = sym (append-nil (map g q.rows))
held_map g turn same q (r ∷ rs) =
    let held : Row = held_by turn r (blocker q r) in
    held_map g turn same (joined q held) rs
    ∙ ap (λ l. l ++ map g rs) (more (entry_after q.rows held) ∙ map-append g q.rows (held ∷ []))
    ∙ append_assoc (map g q.rows) (g held ∷ []) (map g rs)
    ∙ ap (λ x. map g q.rows ++ (x ∷ map g rs)) (same r (blocker q r))
  where
    more : (e : Option Entry) → map g (joined_by q (held_by turn r (blocker q r)) e).rows ≡ map g (q.rows ++ held_by turn r (blocker q r) ∷ [])
    more None = refl
    more (Some e) = refl

pub held_positions : (turn : ℕ) (rows : List Row) → map position_of (held_rows turn rows) ≡ map position_of rows
held_positions turn rows = held_map position_of turn same no_rows rows
  where
    same : (r : Row) (o : Option ℕ) → (held_by turn r o).position ≡ r.position
    same r None = refl
    same r (Some store) = refl

pub held_stations : (turn : ℕ) (rows : List Row) → map station_in (held_rows turn rows) ≡ map station_in rows
held_stations turn rows = held_map station_in turn same no_rows rows
  where
    same : (r : Row) (o : Option ℕ) → (held_by turn r o).station ≡ r.station
    same r None = refl
    same r (Some store) = refl

-- the live rows after a turn, before the loads that are blocked are looked for
abbrev pub unheld : SoFar → Turn → List Station → SoFar
unheld k answer W = record (stepped (begun k) answer W) { rows = rows_seen (stepped (begun k) answer W) W }

-- The rows are those of the live tenants
pub record Named (P : Program) (ts : List Tenant) (k : SoFar) : Type 0 where
  pub lets : k.lets ≡ length ts
  pub positions : map position_of k.rows ≡ live_positions ts
  pub stations : map station_in k.rows ≡ window P ts

-- The tenants are those that are live, and their stations are still to be seen
record Listed (ts : List Tenant) (s : SoFar) : Type 0 where
  pub lets : s.lets ≡ length ts
  pub positions : map position_of s.rows ≡ live_positions ts

all_named : (P : Program) (ts : List Tenant) (s : SoFar) → Listed ts s → Named P ts (record s { rows = rows_seen s (window P ts) })
all_named P ts s n =
    let W = window P ts in
    let count : length s.rows ≡ length W = sym (length-map s.rows position_of) ∙ ap (λ l. length l) n.positions ∙ positions_length P ts in
    record {
      lets = n.lets;
      positions = seen_positions s.turns W 0 s.rows ∙ n.positions;
      stations = seen_stations s.turns W 0 s.rows (omega (arith, count)) ∙ ap (λ m. take m W) count ∙ take-length W;
    }

module _ (P : Program) (C : Sizes) (U V : UpdateUnit) (k : SoFar) (n : Named P U.tenants k) where
  pub row_count : length k.rows ≡ length (live_positions U.tenants)
  row_count = sym (length-map k.rows position_of) ∙ ap (λ l. length l) n.positions

  -- one was let
  let_next : OneMore U.tenants V.tenants → length V.tenants < 2 ^ 64 → Listed V.tenants (stepped (begun k) Let (window P V.tenants))
  let_next one small =
      let m : ℕ = length k.rows in
      let more : length (live_positions V.tenants) ≡ m + 1 =
      omega (arith, row_count, ap (λ l. length l) one.positions, length-append (live_positions U.tenants) (length U.tenants ∷ [])) in
      let there = slice_there (window P V.tenants) m (omega (arith, more, positions_length P V.tenants)) in
      let next : raised (length U.tenants) ≡ length V.tenants = omega (arith, one.count, small) in
      record {
        lets = ap (λ o. (entered (begun k) o).lets) there.1 ∙ ap raised n.lets ∙ next;
        positions =
            ap (λ o. map position_of (entered (begun k) o).rows) there.1
            ∙ map-append position_of k.rows (new_row (begun k) there.0 ∷ [])
            ∙ ap (λ l. l ++ k.lets ∷ []) n.positions
            ∙ ap (λ p. live_positions U.tenants ++ p ∷ []) n.lets
            ∙ sym one.positions;
      }

  -- the oldest has left
  pub one_less : OneLess U.tenants V.tenants →
      map position_of (cond (nat_lt (length (window P V.tenants)) (length k.rows)) (drop 1 k.rows) k.rows) ≡ live_positions V.tenants
  one_less o =
      let less : length (window P V.tenants) < length k.rows = omega (arith, row_count, ap (λ l. length l) o.positions, positions_length P V.tenants) in
      ap (λ b. map position_of (cond b (drop 1 k.rows) k.rows)) (lt-ltb (length (window P V.tenants)) (length k.rows) less)
      ∙ sym (drop-map position_of 1 k.rows)
      ∙ ap (drop 1) (n.positions ∙ o.positions)

  -- nothing was done
  pub as_before : V ≡ U →
      map position_of (cond (nat_lt (length (window P V.tenants)) (length k.rows)) (drop 1 k.rows) k.rows) ≡ live_positions V.tenants
  as_before e =
      let same : live_positions U.tenants ≡ live_positions V.tenants = ap (λ X. live_positions X.tenants) (sym e) in
      let all : length k.rows ≤ length (window P V.tenants) = omega (arith, row_count, ap (λ l. length l) same, positions_length P V.tenants) in
      ap (λ b. map position_of (cond b (drop 1 k.rows) k.rows)) (le-ltb (length (window P V.tenants)) (length k.rows) all)
      ∙ n.positions
      ∙ same

  pub fewer_left : Fewer U.tenants V.tenants → map position_of (take (length (window P V.tenants)) k.rows) ≡ live_positions V.tenants
  fewer_left f =
      sym (take-map position_of (length (window P V.tenants)) k.rows)
      ∙ ap (take (length (window P V.tenants))) (n.positions ∙ f.positions)
      ∙ ap (λ m. take m (live_positions V.tenants ++ f.gone)) (sym (positions_length P V.tenants))
      ∙ take-append_seam (live_positions V.tenants) f.gone

  listed : (answer : Turn) → Does P C U V answer → length V.tenants < 2 ^ 64 → Listed V.tenants (stepped (begun k) answer (window P V.tenants))
  listed (Recovered age) d small = let f = recovers P C U V d in record { lets = n.lets ∙ sym f.count; positions = fewer_left f }
  listed Let d small = let_next (lets P C U V d) small
  listed (Ran age) d small = let s = runs P C U V d in record { lets = n.lets ∙ sym s.count; positions = n.positions ∙ sym s.positions }
  listed (Loaded age) d small = let s = loads P C U V d in record { lets = n.lets ∙ sym s.count; positions = n.positions ∙ sym s.positions }
  listed Halved d small = let o = retires P C U V d.retires in record { lets = n.lets ∙ sym o.count; positions = one_less o }
  listed Retired d small = let o = retires P C U V d in record { lets = n.lets ∙ sym o.count; positions = one_less o }
  listed (Over c) (Before stopped same) small = record { lets = n.lets ∙ ap (λ X. length X.tenants) (sym same); positions = as_before same }
  listed (Over c) (Now r stopped) small = let o = retires P C U V r in record { lets = n.lets ∙ sym o.count; positions = one_less o }
  listed (Over c) (Nowhere bad nowhere same) small = record { lets = n.lets ∙ ap (λ X. length X.tenants) (sym same); positions = as_before same }

  pub after : (answer : Turn) → Does P C U V answer → length V.tenants < 2 ^ 64 → Named P V.tenants (unheld k answer (window P V.tenants))
  after answer d small = all_named P V.tenants (stepped (begun k) answer (window P V.tenants)) (listed answer d small)

  next : (answer : Turn) → Does P C U V answer → length V.tenants < 2 ^ 64 → Named P V.tenants (next_kept k answer (window P V.tenants))
  next answer d small =
      let n' = after answer d small in
      let s = stepped (begun k) answer (window P V.tenants) in
      record {
        lets = n'.lets;
        positions = held_positions s.turns (rows_seen s (window P V.tenants)) ∙ n'.positions;
        stations = held_stations s.turns (rows_seen s (window P V.tenants)) ∙ n'.stations;
      }

pub named : (f : Style) (P : Program) (C : Sizes) (turns : List Passed) → AreTurns P C turns → length (unit_behind turns).tenants < 2 ^ 64 →
    Named P (unit_behind turns).tenants (kept_behind f P turns)
named f P C [] a small = record { lets = refl; positions = refl; stations = refl }
named f P C (t ∷ ts) a small =
    let more = grows P C (unit_behind ts) t.unit t.answer a.1 in
    next P C (unit_behind ts) t.unit (kept_behind f P ts) (named f P C ts a.0 (omega (arith, more, small))) t.answer a.1 small

-- Row by row

pub Matched : Program → List Tenant → List ℕ → List Station → Type 0
Matched P ts [] [] = Unit {0}
Matched P ts (p ∷ ps) (w ∷ ws) = StandsIn P ts p w × Matched P ts ps ws
Matched P ts [] (w ∷ ws) = ⊥
Matched P ts (p ∷ ps) [] = ⊥

matched_end : (P : Program) (ts : List Tenant) (ps : List ℕ) (ws : List Station) (p : ℕ) (w : Station) → Matched P ts ps ws →
    StandsIn P ts p w → Matched P ts (ps ++ p ∷ []) (ws ++ w ∷ [])
unfolding Matched
matched_end P ts [] [] p w m h = (h, tt)
matched_end P ts (q ∷ ps) (v ∷ ws) p w m h = (m.0, matched_end P ts ps ws p w m.1 h)
matched_end P ts [] (v ∷ ws) p w m h = absurd m
matched_end P ts (q ∷ ps) [] p w m h = absurd m

pub stands_at : (P : Program) (ts : List Tenant) (ps : List ℕ) (ws : List Station) → Matched P ts ps ws → (i p : ℕ) (w : Station) →
    slice_get ps i ≡ Some p → slice_get ws i ≡ Some w → StandsIn P ts p w
unfolding Matched
stands_at P ts [] [] m i p w e f = absurd (cc)
stands_at P ts (q ∷ ps) (v ∷ ws) m zero p w e f =
    let here : q ≡ p = cc in
    let there : v ≡ w = cc in
    subst (λ x. StandsIn P ts x w) here (subst (StandsIn P ts q) there m.0)
stands_at P ts (q ∷ ps) (v ∷ ws) m (suc i) p w e f = stands_at P ts ps ws m.1 i p w e f
stands_at P ts [] (v ∷ ws) m i p w e f = absurd m
stands_at P ts (q ∷ ps) [] m i p w e f = absurd m

matched_more : (P : Program) (t : Tenant) (ts : List Tenant) (ps : List ℕ) (ws : List Station) → Matched P ts ps ws → Matched P (t ∷ ts) ps ws
unfolding Matched
matched_more P t ts [] [] m = tt
matched_more P t ts (p ∷ ps) (w ∷ ws) m = (
  record { tenant = m.0.tenant; is = at_more t ts p m.0.tenant m.0.is; live = m.0.live; station = m.0.station },
  matched_more P t ts ps ws m.1,
)
matched_more P t ts [] (w ∷ ws) m = absurd m
matched_more P t ts (p ∷ ps) [] m = absurd m

pub matched : (P : Program) (ts : List Tenant) → Matched P ts (live_positions ts) (window P ts)
unfolding Matched
matched P [] = tt
matched P (t ∷ ts) = go t.standing refl (matched_more P t ts (live_positions ts) (window P ts) (matched P ts))
  where
    gone : stands_live t.standing ≡ false → Matched P (t ∷ ts) (live_positions ts) (window P ts) → Matched P (t ∷ ts) (live_positions (t ∷ ts)) (window P (t ∷ ts))
    gone e m = subst (λ b. Matched P (t ∷ ts) (cond b (live_positions ts ++ length ts ∷ []) (live_positions ts)) (cond b (window P ts ++ station_of P t ∷ []) (window P ts))) (sym e) m

    go : (st : Standing) → t.standing ≡ st → Matched P (t ∷ ts) (live_positions ts) (window P ts) →
        Matched P (t ∷ ts) (live_positions (t ∷ ts)) (window P (t ∷ ts))
    go Live e m =
        let here : StandsIn P (t ∷ ts) (length ts) (station_of P t) = record { tenant = t; is = at_new t ts; live = e; station = refl } in
        subst (λ b. Matched P (t ∷ ts) (cond b (live_positions ts ++ length ts ∷ []) (live_positions ts)) (cond b (window P ts ++ station_of P t ∷ []) (window P ts)))
        (sym (ap stands_live e)) (matched_end P (t ∷ ts) (live_positions ts) (window P ts) (length ts) (station_of P t) m here)
    go HasRetired e m = gone (ap stands_live e) m
    go Squashed e m = gone (ap stands_live e) m

row_by_row : (P : Program) (ts : List Tenant) (rows : List Row) → Matched P ts (map position_of rows) (map station_in rows) → AllByRecursion (IsRowOf P ts) rows
unfolding Matched
row_by_row P ts [] m = tt
row_by_row P ts (r ∷ rs) m = (m.0, row_by_row P ts rs m.1)

pub each_row : (P : Program) (ts : List Tenant) (k : SoFar) → Named P ts k → AllByRecursion (IsRowOf P ts) k.rows
each_row P ts k n =
    row_by_row P ts k.rows
    (subst (λ ps. Matched P ts ps (map station_in k.rows)) (sym n.positions)
    (subst (Matched P ts (live_positions ts)) (sym n.stations) (matched P ts)))

pub rows_are_named : (f : Style) (P : Program) (C : Sizes) (turns : List Passed) → AreTurns P C turns → length (unit_behind turns).tenants < 2 ^ 64 →
    AreNamed P (unit_behind turns).tenants (kept_behind f P turns).rows
rows_are_named f P C turns a small =
    let n = named f P C turns a small in
    record { positions = n.positions; each = each_row P (unit_behind turns).tenants (kept_behind f P turns) n }
