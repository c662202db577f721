-- What is told of a turn has happened.
use Rattle.std.proofs.Common.{◌≡◌, ◌<◌, ◌≤◌, ℕ, zero, suc, ◌^◌, Bool, true, false, cond, List, [], ◌∷◌, ◌++◌, length, map, take, drop, Option, Some, None, refl, sym, ap, ◌∙◌, subst, arith}
use Rattle.std.proofs.lemmas.Bool.{le-ltb}
use Rattle.std.proofs.lemmas.List.{map-append, reverse-append}
use Rattle.std.specs.List.{AllByRecursion}
use Rattle.std.specs.Prelude.{is_some, nat_lt, reverse, slice_get}
use Rattle.instructions.specs.Instruction.{first_of, second_of}
use Rattle.instructions.specs.Programs.{Program}
use Rattle.inorder.specs.Callers.{is_retired}
use Rattle.inorder.specs.Moves.{IsReached}
use Rattle.inorder.specs.Tenants.{Retired as HasRetired, Squashed, Tenant}
use Rattle.inorder.specs.Unit.{Sizes, UpdateUnit, creator, how_many}
use Rattle.inorder.proofs.OneCaller.Sequences.{sound_of}
use Rattle.one_thread.specs.declared.bench.Turn.{Turn}
use Rattle.one_thread.specs.declared.bench.Turn.TheVariants.{Halved, Let, Loaded, Over, Ran, Recovered, Retired}
use Rattle.one_thread.specs.declared.station.Station.{Station}
use Rattle.one_thread.specs.Turns.{Before, Does, Lets, Now, Nowhere}
use Rattle.one_thread.specs.Window.{window}
use Rattle.lsq.specs.declared.answer.Answer.{Answer}
use Rattle.lsq.specs.declared.answer.Answer.TheVariants.{Blocked as BlockedAt, Forward, Memory}
use Rattle.lsq.specs.declared.entry.Entry.{Entry}
use Rattle.one_thread.specs.Loads.{waits}
use Rattle.chart.specs.declared.event.Event.TheVariants.{Blocked, Left}
use Rattle.chart.specs.declared.event.Way.TheVariants.{Squashed as WasSquashed}
use Rattle.chart.specs.declared.row.Row.{Row}
use Rattle.chart.specs.declared.lines.Style.{Style}
use Rattle.chart.specs.Blocked.{Queued, block_event, block_events, blocker, blocker_of, entry_after, held_by, joined, joined_by, no_rows, position_at, waits_for}
use Rattle.chart.specs.Events.{begun, entered_events, events, moved_events, retired_event, rows_seen, squashes, step_events, stepped, went_on}
use Rattle.chart.specs.Happened.{Awaits, Happened, HasGone, StandsAs}
use Rattle.chart.specs.Named.{IsRowOf, StandsIn, live_positions}
use Rattle.chart.specs.Rows.{SoFar, awaited}
use Rattle.chart.specs.Traced.{AreTurns, Passed, unit_behind, events_at, kept_behind}
use Rattle.chart.proofs.LivePositions.{Fewer, OneLess, OneMore}
use Rattle.chart.proofs.Lists.{all_behind, all_both, all_dropped, all_get, all_take, get_last, get_map}
use Rattle.chart.proofs.Producers.{row_awaits}
use Rattle.chart.proofs.Reached.{by_turns}
use Rattle.chart.proofs.Retirements.{retirements_are}
use Rattle.chart.proofs.RowsNamed.{Named, after, each_row, fewer_left, matched, named, position_of, positions_length, row_count, stands_at, unheld}
use Rattle.chart.proofs.TurnPositions.{grows, lets, loads, recovers, retires, runs}

module _ (P : Program) (us vs : List Tenant) where
  -- Who has left

  retired_happened : (first : ℕ) (rows : List Row) (others : ℕ) → StandsAs vs first HasRetired → map position_of rows ≡ first ∷ live_positions vs →
      AllByRecursion (IsRowOf P us) rows → others ≡ how_many is_retired us → AllByRecursion (Happened P us vs) (retired_event others rows)
  retired_happened first [] others left e h count = tt
  retired_happened first (r ∷ rs) others left e h count =
      let same : first ≡ r.position = cc in
      (record { gone = record { stood = h.0; left = subst (λ p. StandsAs vs p HasRetired) same left }; count = count }, tt)

  squashed_happened : (rows : List Row) → AllByRecursion (λ r. HasGone P us vs r Squashed) rows →
      AllByRecursion (Happened P us vs) (map (λ r. Left r WasSquashed) (reverse rows))
  squashed_happened [] h = tt
  squashed_happened (r ∷ rs) h =
      subst (AllByRecursion (Happened P us vs))
      (sym (map-append (λ x. Left x WasSquashed) (reverse rs) (r ∷ [])) ∙ ap (λ l. map (λ x. Left x WasSquashed) l) (sym (reverse-append (r ∷ []) rs)))
      (all_both (Happened P us vs) (map (λ x. Left x WasSquashed) (reverse rs)) (Left r WasSquashed ∷ []) (squashed_happened rs h.1) (h.0, tt))

  -- Who has gone on

  moved_happened : (age : ℕ) (rows : List Row) → AllByRecursion (IsRowOf P us) rows → map position_of rows ≡ live_positions vs →
      AllByRecursion (Happened P us vs) (moved_events age (window P vs) rows)
  moved_happened age rows h stay = one (slice_get rows age) (slice_get (window P vs) age) refl refl
    where
      one : (r : Option Row) (w : Option Station) → slice_get rows age ≡ r → slice_get (window P vs) age ≡ w →
          AllByRecursion (Happened P us vs) (went_on r w)
      one None w e g = tt
      one (Some r) None e g = tt
      one (Some r) (Some w) e g = (
        record {
          old = r.station;
          new = w;
          stood = all_get (IsRowOf P us) rows h age r e;
          stands =
              stands_at P vs (live_positions vs) (window P vs) (matched P vs) age r.position w
              (ap (λ l. slice_get l age) (sym stay) ∙ get_map position_of rows age r e) g;
          from_is = refl;
          to_is = refl;
        },
        tt,
      )

  -- Who is blocked

  -- somebody is live at a position
  Stands : ℕ → Type 0
  Stands position = (w : Station) × StandsIn P vs position w

  -- a load that waits, and whom it waits for
  record Found (r : Row) (store : ℕ) : Type 0 where
    pub waits : is_some (waits r.station) ≡ true
    pub stands : Stands store

  blocks_happened : (turn : ℕ) (q : Queued) (rows : List Row) → AllByRecursion Stands q.positions → AllByRecursion (IsRowOf P vs) rows →
      AllByRecursion (Happened P us vs) (block_events turn q rows)
  unfolding Stands
  blocks_happened turn q [] h k = tt
  blocks_happened turn q (r ∷ rs) h k =
      all_both (Happened P us vs) (block_event r (blocker q r)) (block_events turn (joined q held) rs) (one (blocker q r) refl)
      (blocks_happened turn (joined q held) rs (grows (entry_after q.rows held)) k.1)
    where
      held : Row
      held = held_by turn r (blocker q r)

      same : (o : Option ℕ) → (held_by turn r o).position ≡ r.position
      same None = refl
      same (Some store) = refl

      grows : (e : Option Entry) → AllByRecursion Stands (joined_by q held e).positions
      grows None = h
      grows (Some e) =
          all_both Stands q.positions (held.position ∷ []) h
          ((r.station, subst (λ p. StandsIn P vs p r.station) (sym (same (blocker q r))) k.0), tt)

      at_place : (x : Answer) (store : ℕ) → position_at q.positions x ≡ Some store → Stands store
      at_place (BlockedAt place) store e = all_get Stands q.positions h place store e
      at_place Memory store e = absurd (cc)
      at_place (Forward value) store e = absurd (cc)

      found : (store : ℕ) (o : Option ℕ) → waits r.station ≡ o → blocker_of q r o ≡ Some store → Found r store
      found store None e b = absurd (cc)
      found store (Some a) e b = record { waits = ap is_some e; stands = at_place _ store b }

      begins : (store : ℕ) (b : Bool) → Found r store → AllByRecursion (Happened P us vs) (cond b [] (Blocked r.position store ∷ []))
      begins store true x = tt
      begins store false x =
          (record { load = r.station; stands = k.0; waits = x.waits; other = x.stands.0; stood = x.stands.1 }, tt)

      one : (o : Option ℕ) → blocker q r ≡ o → AllByRecursion (Happened P us vs) (block_event r o)
      one None e = tt
      one (Some store) e = begins store (waits_for r.held store) (found store (waits r.station) refl e)

module _ (P : Program) (C : Sizes) (U V : UpdateUnit) (k : SoFar) (n : Named P U.tenants k) (count : k.retirements ≡ how_many is_retired U.tenants)
    (reached : IsReached P C U) where
  each : AllByRecursion (IsRowOf P U.tenants) k.rows
  each = each_row P U.tenants k n

  -- the oldest has left
  one_left : (o : OneLess U.tenants V.tenants) →
      AllByRecursion (Happened P U.tenants V.tenants) (cond (nat_lt (length (window P V.tenants)) (length k.rows)) (retired_event k.retirements k.rows) [])
  one_left o = go (nat_lt (length (window P V.tenants)) (length k.rows))
    where
      go : (b : Bool) → AllByRecursion (Happened P U.tenants V.tenants) (cond b (retired_event k.retirements k.rows) [])
      go true = retired_happened P U.tenants V.tenants o.first k.rows k.retirements o.left (n.positions ∙ o.positions) each count
      go false = tt

  -- nobody has
  none_left : V ≡ U →
      AllByRecursion (Happened P U.tenants V.tenants) (cond (nat_lt (length (window P V.tenants)) (length k.rows)) (retired_event k.retirements k.rows) [])
  none_left e =
      let same : live_positions U.tenants ≡ live_positions V.tenants = ap (λ X. live_positions X.tenants) (sym e) in
      let all : length k.rows ≤ length (window P V.tenants) =
      omega (arith, row_count P C U V k n, ap (λ l. length l) same, positions_length P V.tenants) in
      subst (λ b. AllByRecursion (Happened P U.tenants V.tenants) (cond b (retired_event k.retirements k.rows) []))
      (sym (le-ltb (length (window P V.tenants)) (length k.rows) all)) tt

  -- the youngest have
  some_left : (f : Fewer U.tenants V.tenants) → AllByRecursion (Happened P U.tenants V.tenants) (squashes (length (window P V.tenants)) k.rows)
  some_left f =
      squashed_happened P U.tenants V.tenants (drop (length (window P V.tenants)) k.rows)
      (all_dropped (λ r. HasGone P U.tenants V.tenants r Squashed) k.rows (length (window P V.tenants)) gone)
    where
      gone : (i : ℕ) (r : Row) → length (window P V.tenants) ≤ i → slice_get k.rows i ≡ Some r → HasGone P U.tenants V.tenants r Squashed
      gone i r l e =
          let at_i : slice_get (live_positions V.tenants ++ f.gone) i ≡ Some r.position =
          ap (λ x. slice_get x i) (sym (n.positions ∙ f.positions)) ∙ get_map position_of k.rows i r e in
          let past : length (live_positions V.tenants) ≤ i = omega (arith, l, positions_length P V.tenants) in
          record {
            stood = all_get (IsRowOf P U.tenants) k.rows each i r e;
            left = all_behind (λ p. StandsAs V.tenants p Squashed) (live_positions V.tenants) f.gone f.left i r.position past at_i;
          }

  -- one has come
  one_came : Lets P C U V → AllByRecursion (Happened P U.tenants V.tenants) (entered_events (begun k) (slice_get (window P V.tenants) (length k.rows)))
  one_came d = go (slice_get (window P V.tenants) (length k.rows)) refl
    where
      o : OneMore U.tenants V.tenants
      o = lets P C U V d

      waits : (register : ℕ) → Awaits U.tenants (creator P U.tenants register) (awaited register k.rows)
      waits register = row_awaits P U.tenants k.rows register (sound_of P C U reached) d.goes_on n.positions n.stations

      go : (w : Option Station) → slice_get (window P V.tenants) (length k.rows) ≡ w →
          AllByRecursion (Happened P U.tenants V.tenants) (entered_events (begun k) w)
      go None e = tt
      go (Some w) e =
          let last : slice_get (live_positions V.tenants) (length k.rows) ≡ Some k.lets =
          ap (λ l. slice_get l (length k.rows)) o.positions
          ∙ ap (slice_get (live_positions U.tenants ++ length U.tenants ∷ [])) (row_count P C U V k n)
          ∙ get_last (live_positions U.tenants) (length U.tenants)
          ∙ ap Some (sym n.lets) in (
            record {
              position = n.lets;
              stands = stands_at P V.tenants (live_positions V.tenants) (window P V.tenants) (matched P V.tenants) (length k.rows) k.lets w last e;
              awaits_first = waits (first_of w.instr);
              awaits_second = waits (second_of w.instr);
            },
            tt,
          )

  of_step : (answer : Turn) → Does P C U V answer →
      AllByRecursion (Happened P U.tenants V.tenants) (step_events (begun k) answer (window P V.tenants))
  of_step (Recovered age) d =
      let f = recovers P C U V d in
      let W = window P V.tenants in
      all_both (Happened P U.tenants V.tenants) (squashes (length W) k.rows) (moved_events age W (take (length W) k.rows)) (some_left f)
      (moved_happened P U.tenants V.tenants age (take (length W) k.rows) (all_take (IsRowOf P U.tenants) (length W) k.rows each) (fewer_left P C U V k n f))
  of_step Let d = one_came d
  of_step (Ran age) d = moved_happened P U.tenants V.tenants age k.rows each (n.positions ∙ sym (runs P C U V d).positions)
  of_step (Loaded age) d = moved_happened P U.tenants V.tenants age k.rows each (n.positions ∙ sym (loads P C U V d).positions)
  of_step Halved d = one_left (retires P C U V d.retires)
  of_step Retired d = one_left (retires P C U V d)
  of_step (Over c) (Before stopped same) = none_left same
  of_step (Over c) (Now r stopped) = one_left (retires P C U V r)
  of_step (Over c) (Nowhere bad nowhere same) = none_left same

  happened : (answer : Turn) → Does P C U V answer → AllByRecursion (IsRowOf P V.tenants) (unheld k answer (window P V.tenants)).rows →
      AllByRecursion (Happened P U.tenants V.tenants) (events k answer (window P V.tenants))
  happened answer d h =
      let s = stepped (begun k) answer (window P V.tenants) in
      let rows = rows_seen s (window P V.tenants) in
      all_both (Happened P U.tenants V.tenants) (step_events (begun k) answer (window P V.tenants)) (block_events s.turns no_rows rows) (of_step answer d)
      (blocks_happened P U.tenants V.tenants s.turns no_rows rows tt h)

pub all_happened : (f : Style) (P : Program) (C : Sizes) (turns : List Passed) (t : Passed) → AreTurns P C (t ∷ turns) → length t.unit.tenants < 2 ^ 64 →
    AllByRecursion (Happened P (unit_behind turns).tenants t.unit.tenants) (events_at f P turns t)
all_happened f P C turns t a small =
    let more = grows P C (unit_behind turns) t.unit t.answer a.1 in
    let before : length (unit_behind turns).tenants < 2 ^ 64 = omega (arith, more, small) in
    let k = kept_behind f P turns in
    let n = named f P C turns a.0 before in
    happened P C (unit_behind turns) t.unit k n (retirements_are f P C turns a.0 before) (by_turns P C turns a.0)
    t.answer a.1 (each_row P t.unit.tenants (unheld k t.answer (window P t.unit.tenants)) (after P C (unit_behind turns) t.unit k n t.answer a.1 small))
