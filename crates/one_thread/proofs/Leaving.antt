-- The oldest tenant leaves, by steps of the unit.
use Rattle.std.proofs.lemmas.Grind.{common_steps}
use Rattle.std.proofs.Common.{◌≡◌, ◌≢◌, ℕ, ◌+◌, ◌%◌, ◌<◌, ◌≤◌, Bool, true, false, cond, eqb, List, [], ◌∷◌, ◌++◌, length, drop, Option, Some, None, refl, sym, ap, ◌∙◌, subst, add-one}
use Rattle.std.proofs.Common.{arith}
use Rattle.std.specs.Prelude.{slice_get, unwrap_or}
use Rattle.std.specs.List.{AllByRecursion}
use Rattle.instructions.specs.Instruction.{fixed_next, is_first_half, kind, second_of}
use Rattle.instructions.specs.Programs.{Program, instr_at}
use Rattle.instructions.specs.declared.op.Kind.{Kind}
use Rattle.instructions.specs.declared.op.Kind.TheVariants.{Stores}
use Rattle.instructions.specs.declared.stop.Stop.TheVariants.{BadPc}
use Rattle.inorder.specs.declared.history.Act.TheVariants.{Retire}
use Rattle.inorder.specs.declared.history.Step.TheVariants.{On}
use Rattle.inorder.specs.Callers.{is_retired}
use Rattle.inorder.specs.Committed.{ahead, ahead_by, commits, commits_by, committed, completes, with_tenant}
use Rattle.inorder.specs.Steps.{CanRetire, IsNoRetiredStop, MayRetire, retired}
use Rattle.inorder.specs.Tenants.{Addr, Retired as RetiredStanding, Stopped, Tenant, instr, is_first, kind_of}
use Rattle.inorder.specs.Unit.{Sizes, UpdateUnit, how_many}
use Rattle.inorder.proofs.Commits.{live_not, not_complete, over}
use Rattle.inorder.proofs.Halves.{completes_if}
use Rattle.inorder.proofs.SettledRegisters.{committed_if}
use Rattle.inorder.proofs.Sound.{IsSound, IsSoundAt}
use Rattle.inorder.specs.Moves.{IsReached, Leads, with_tenants}
use Rattle.inorder.specs.Quiescent.{AreQuiescent}
use Rattle.inorder.proofs.OneCaller.Alike.{still_put, stops_put}
use Rattle.inorder.proofs.OneCaller.Left.{ahead_middle, committed_middle}
use Rattle.inorder.proofs.OneCaller.Middle.{all_from, at_middle, sound_from, still_from}
use Rattle.inorder.proofs.OneCaller.Retirement.{retire_run}
use Rattle.inorder.proofs.OneCaller.Sequences.{reach_on, sound_of}
use Rattle.one_thread.specs.declared.bench.Turn.{Turn}
use Rattle.one_thread.specs.declared.bench.Turn.TheVariants.{Halved, Over, Retired}
use Rattle.instructions.specs.declared.guessing.Leaver.{Leaver}
use Rattle.one_thread.specs.declared.pipeline.Pipeline.{Pipeline}
use Rattle.one_thread.specs.declared.station.Stage.{Stage}
use Rattle.one_thread.specs.declared.station.Stage.TheVariants.{Open as Opens, Addr as HasAddr, Done as IsDone, Miss as Misses, Stops}
use Rattle.one_thread.specs.declared.station.Station.{Station}
use Rattle.one_thread.specs.Ahead.{low_after, low_of}
use Rattle.one_thread.specs.Changes.{ahead_of, registers_of}
use Rattle.one_thread.specs.Leavers.{leaver, told_at, told_by, told_of}
use Rattle.one_thread.specs.Leaves.{HasEnded, LeavesTo, PassesTo, halved, left, with_station}
use Rattle.one_thread.specs.Stages.{CannotLet}
use Rattle.one_thread.specs.StandsFor.{HasStopped, OverIs, StandsForSome, sizes}
use Rattle.one_thread.specs.Turns.{Nowhere, Now, Retires}
use Rattle.one_thread.specs.Window.{source_in, window}
use Rattle.one_thread.proofs.Found.{Found, drop_first, found, nobody, window_behind, window_middle}
use Rattle.one_thread.proofs.Leavers.{leaver_put, leaver_retire, leavers_set, told_live}
use Rattle.one_thread.proofs.Ring.{mod_first}
use Rattle.one_thread.proofs.Known.{ahead_stands, knows}
use Rattle.one_thread.proofs.Tests.{HasSources, has_sources}
use Rattle.one_thread.proofs.Untold.{oldest_apart, oldest_place, oldest_retired}
use Rattle.one_thread.proofs.Waiting.{ahead_low, low_if, low_over, retired_over}
use Rattle.one_thread.specs.Notes.{settled_by}
use Rattle.one_thread.specs.Possible.{ToRetire}
use Rattle.one_thread.proofs.CanLeave.{settled_leaves}
use Rattle.one_thread.proofs.Commits.{Left, commits_same, done_left, store_left}
use Rattle.one_thread.proofs.Fates.{addr_fate, done_fate, stop_fate}
use Rattle.one_thread.proofs.Moved.{MovedAs, MovesAs}

-- Nobody is live

no_get : (xs : List Station) → slice_get xs 0 ≡ None → xs ≡ []
no_get [] h = refl
no_get (x ∷ xs) h = absurd (cc)

pub nowhere_turn : (b : Pipeline) → b.over ≡ None → 0 < b.ring → CannotLet b.program.now b.ring b.queue b.committed.pc b.window → 2 ≤ b.queue → slice_get b.window 0 ≡ None →
    MovesAs b None (Over BadPc) b
nowhere_turn b going room nl two e U r s =
    record {
      unit = U;
      reached = r;
      stands = s;
      does =
          Nowhere refl (record {
            goes_on = (knows b U going r s).stops;
            nobody = nobody P U.tenants (ap length none);
            no_instr = ap (λ c. instr_at P c.pc) (sym s.committed) ∙ there nl';
          }) refl;
      is = refl;
    }
  where
    P : Program
    P = b.program.now

    empty : b.window ≡ []
    empty = no_get b.window e

    none : window P U.tenants ≡ []
    none = sym s.window ∙ empty

    nl' : CannotLet P b.ring b.queue b.committed.pc []
    nl' = subst (CannotLet P b.ring b.queue b.committed.pc) empty nl

    there : CannotLet P b.ring b.queue b.committed.pc [] → instr_at P b.committed.pc ≡ None
    there h0 = grind (arith, common_steps)

-- The oldest retires

settled_store : (k : Kind) (a : ℕ) → settled_by k (HasAddr a) ≡ true → k ≡ Stores
settled_store k a e = grind (arith, common_steps)

pub leave : (b later : Pipeline) (answer : Turn) (w : Station) → StandsForSome b → b.over ≡ None → slice_get b.window 0 ≡ Some w →
    settled_by (kind w.instr.op) w.stage ≡ true → LeavesTo b w w.stage answer later → MovesAs b (Some ToRetire) answer later
leave b later answer w h none e ended to U r s = go (found P U.tenants 0 w (ap (λ W. slice_get W 0) (sym s.window) ∙ e))
  where
    P : Program
    P = b.program.now

    C : Sizes
    C = sizes b

    over' : AllByRecursion IsNoRetiredStop U.tenants × AreQuiescent U.tenants
    over' = subst (OverIs U.tenants) none s.over

    go : Found P U.tenants 0 w → MovedAs b U (Some ToRetire) answer later
    go d = by w.stage refl to
      where
        t : Tenant
        t = d.t

        ts : List Tenant
        ts = d.ts

        ys : List Tenant
        ys = d.ys

        sound' : IsSound P (ys ++ t ∷ ts)
        sound' = subst (IsSound P) d.split (sound_of P C U r)

        own : IsSoundAt P ts t
        own = (sound_from P ys (t ∷ ts) sound').0

        stops : AllByRecursion IsNoRetiredStop (ys ++ t ∷ ts)
        stops = subst (AllByRecursion IsNoRetiredStop) d.split over'.0

        still : AreQuiescent (ys ++ t ∷ ts)
        still = subst AreQuiescent d.split over'.1

        first : length (window P ts) ≡ 0
        first = sym d.place

        u : Tenant
        u = retired t 0

        V : UpdateUnit
        V = with_tenants U (ys ++ u ∷ ts)

        may : CanRetire (kind_of P t) t.second.value t.fate → MayRetire P 0 ts t
        may c = record { small = omega arith; live = d.live; oldest = nobody P ts first; no_stop = (all_from IsNoRetiredStop ys (t ∷ ts) stops).1; can = c }

        leads : CanRetire (kind_of P t) t.second.value t.fate → Leads P C 0 U (On (length ts) (Retire 0) ∷ []) V
        leads c = subst (λ X. Leads P C 0 (with_tenants U X) (On (length ts) (Retire 0) ∷ []) V) (sym d.split) (retire_run P C 0 0 U ys t ts (may c))

        does : CanRetire (kind_of P t) t.second.value t.fate → Retires P C U V
        does c = grind (arith, common_steps, knows, none, ys, t, ts, leads)

        before : committed P U.tenants ≡ committed P ts
        before = ap (committed P) d.split ∙ committed_middle P ys t ts d.live sound'

        before_ahead : ahead P U.tenants ≡ ahead P ts
        before_ahead = ap (ahead P) d.split ∙ ahead_middle P ys t ts d.live sound'

        commit : (x : Bool) → completes P u ≡ x → committed P V.tenants ≡ cond x (with_tenant P u (ahead P U.tenants)) (committed P U.tenants)
        commit x q = grind (arith, common_steps, over, t, u, ts, ys, sound', committed_if, before, before_ahead)

        low : (x : Bool) → commits u ≡ x → low_of P V.tenants ≡ low_after x (is_first P u) u.made (low_of P ts)
        low x q = low_over P t u ts ys d.live sound' ∙ low_if P u ts x q

        low_before : low_of P U.tenants ≡ low_of P ts
        low_before = ap (low_of P) d.split ∙ low_over P t t ts ys d.live sound' ∙ low_if P t ts false (live_not t d.live)

        retired_before : how_many is_retired U.tenants ≡ how_many is_retired ts
        retired_before = oldest_retired P C U w d r

        next : (b.oldest + 1) % b.ring ≡ how_many is_retired V.tenants % b.ring
        next =
            ap (λ n. (n + 1) % b.ring) (s.oldest ∙ ap (λ n. n % b.ring) retired_before)
            ∙ mod_first (how_many is_retired ts) 1 b.ring
            ∙ ap (λ n. n % b.ring) (add-one (how_many is_retired ts) ∙ sym (retired_over P t u ts ys d.live sound'))

        shown : drop 1 b.window ≡ window P V.tenants
        shown = grind (arith, common_steps, window_middle, ys, t, ts, drop_first, first, window_behind, u)

        apart : AllByRecursion (λ y. y.station ≢ t.station) ys
        apart = oldest_apart P C U w d r

        place : t.station ≡ b.oldest
        place = oldest_place b U w d r s

        tells : (v : Option Leaver) → told_of P u ≡ v → (n : ℕ) → leaver P V.tenants n ≡ cond (eqb b.oldest n) v (leaver P U.tenants n)
        tells v q n = leaver_retire P ys t u ts b.oldest v place place apart q n ∙ ap (λ X. cond (eqb b.oldest n) v (leaver P X n)) (sym d.split)

        near : b.oldest < length b.leavers
        near = omega (arith, h.oldest, h.ring, h.leavers)

        whole : (c : Left b t) → is_first P t ≡ false → answer ≡ Retired → later ≡ left b w → MovedAs b U (Some ToRetire) answer later
        whole c qf qa ql =
            subst (λ x. MovedAs b U (Some ToRetire) x later) (sym qa) (subst (MovedAs b U (Some ToRetire) Retired) (sym ql) (record {
              unit = V;
              reached = reach_on P C 0 U (On (length ts) (Retire 0) ∷ []) V r (leads c.can);
              stands = record {
                window = shown;
                committed = ap (λ x. with_station x (ahead_of b)) (sym d.station)
                    ∙ sym (commits_same P t (ahead_of b) c.same)
                    ∙ ap (with_tenant P u) (ahead_stands b U r s) ∙ sym (commit true (completes_if P u true false c.commits qf));
                leavers = leavers_set b.leavers P U.tenants V.tenants b.oldest b.ring (told_at w) near s.leavers (tells (told_at w) (c.told ∙ ap told_at d.station));
                over = subst (OverIs V.tenants) (sym none) (stops_put ys t u ts c.no_stop stops, still_put ys t u ts c.made refl refl c.free still);
                low = sym (low true c.commits ∙ ap (λ x. low_after true x u.made (low_of P ts)) qf);
                oldest = next;
              };
              does = does c.can;
              is = refl;
            }))

        half : (c : Left b t) → is_first P t ≡ true → answer ≡ Halved → later ≡ halved b w → MovedAs b U (Some ToRetire) answer later
        half c qf qa ql =
            subst (λ x. MovedAs b U (Some ToRetire) x later) (sym qa) (subst (MovedAs b U (Some ToRetire) Halved) (sym ql) (record {
              unit = V;
              reached = reached;
              stands = record {
                window = shown;
                committed = s.committed ∙ sym same;
                leavers = leavers_set b.leavers P U.tenants V.tenants b.oldest b.ring (told_at w) near s.leavers (tells (told_at w) (c.told ∙ ap told_at d.station));
                over = subst (OverIs V.tenants) (sym none) (stops_put ys t u ts c.no_stop stops, still_put ys t u ts c.made refl refl c.free still);
                low = ap (λ x. Some (unwrap_or x.made 0)) (sym d.station) ∙ sym waits;
                oldest = next;
              };
              does = record {
                retires = does c.can;
                first = qf;
                stays = same;
                made = (c.makes qf).0;
                makes = (c.makes qf).1;
                waits =
                    ahead_low P V.tenants (sound_of P C V reached)
                    ∙ ap (λ l. ahead_by l (committed P V.tenants)) (waits ∙ ap (λ m. Some (unwrap_or m 0)) (c.makes qf).1)
                    ∙ ap (ahead_by (Some (c.makes qf).0)) same;
              };
              is = refl;
            }))
          where
            reached : IsReached P C V
            reached = reach_on P C 0 U (On (length ts) (Retire 0) ∷ []) V r (leads c.can)

            same : committed P V.tenants ≡ committed P U.tenants
            same = commit false (completes_if P u true true c.commits qf)

            waits : low_of P V.tenants ≡ Some (unwrap_or t.made 0)
            waits = low true c.commits ∙ ap (λ x. low_after true x u.made (low_of P ts)) qf ∙ ap (λ m. Some (unwrap_or m 0)) c.made

        gone : Left b t → PassesTo (is_first_half w.instr.op w.half) b w answer later → MovedAs b U (Some ToRetire) answer later
        gone c l = on (is_first P t) refl (subst (λ x. PassesTo x b w answer later) (sym (ap (λ x. is_first_half x.instr.op x.half) d.station)) l)
          where
            on : (x : Bool) → is_first P t ≡ x → PassesTo x b w answer later → MovedAs b U (Some ToRetire) answer later
            on true q l = half c q l.0 l.1
            on false q l = whole c q l.0 l.1

        by : (g : Stage) → w.stage ≡ g → LeavesTo b w g answer later → MovedAs b U (Some ToRetire) answer later
        by (Stops c) q l =
            let fate : t.fate ≡ Stopped c = stop_fate t.fate c (ap (λ x. x.stage) d.station ∙ q) in
            let can : CanRetire (kind_of P t) t.second.value t.fate = subst (CanRetire (kind_of P t) t.second.value) (sym fate) tt in
            let has : HasStopped V.tenants c = record { p = length ts; tenant = u; is = at_middle ys u ts; retired = refl; fate = fate } in
            let told : told_of P u ≡ told_of P t = ap (λ g. told_by RetiredStanding g (fixed_next (instr P t) t.half t.pc) t.pc) fate ∙ sym (told_live P t d.live) in
            subst (λ x. MovedAs b U (Some ToRetire) x later) (sym l.0) (subst (MovedAs b U (Some ToRetire) (Over c)) (sym l.1) (record {
              unit = V;
              reached = reach_on P C 0 U (On (length ts) (Retire 0) ∷ []) V r (leads can);
              stands = record {
                window = shown;
                committed = s.committed ∙ sym (commit false (not_complete P u (ap (commits_by RetiredStanding) fate)));
                leavers = λ n k. s.leavers n k ∙ ap Some (ap (λ X. leaver P X n) d.split ∙ sym (leaver_put P n ys t u ts refl told));
                over = has;
                low = s.low ∙ low_before ∙ sym (low false (ap (commits_by RetiredStanding) fate));
                oldest = next;
              };
              does = Now (does can) has;
              is = refl;
            }))
        by IsDone q l = let v = done_fate t.fate (ap (λ x. x.stage) d.station ∙ q) in gone (done_left b t ts v.0 own v.1) l
        by (HasAddr a) q l =
            let fate : t.fate ≡ Addr a = addr_fate t.fate a (ap (λ x. x.stage) d.station ∙ q) in
            let stores : kind_of P t ≡ Stores = ap (λ x. kind x.instr.op) d.station ∙ settled_store (kind w.instr.op) a (sym (ap (settled_by (kind w.instr.op)) q) ∙ ended) in
            let empty : window P ts ≡ [] = nil (window P ts) first in
            let src : HasSources P (registers_of b) t ts = has_sources P (registers_of b) t ts (sound_from P ys (t ∷ ts) sound')
            (still_from ys (t ∷ ts) still) (all_from IsNoRetiredStop ys (t ∷ ts) stops).1
            (ap (λ c. c.registers) (ahead_stands b U r s ∙ before_ahead)) d.live in
            let data' : t.second.value ≡ source_in (registers_of b) [] (second_of (instr P t)) = src.second ∙ ap (λ l. source_in (registers_of b) l (second_of (instr P t))) empty in
            gone (store_left b t ts a own fate stores data') l
          where
            nil : (xs : List Station) → length xs ≡ 0 → xs ≡ []
            nil [] z = refl
            nil (x ∷ xs) z = absurd (omega (arith, z))
        by Opens q l = absurd (subst (HasEnded (length b.committed.memory) w.instr) q (settled_leaves b h w e ended))
        by (Misses x) q l = absurd (subst (HasEnded (length b.committed.memory) w.instr) q (settled_leaves b h w e ended))
