-- The turn Ran is steps of the unit.
use Rattle.std.proofs.Common.{arith}
use Rattle.std.proofs.lemmas.Grind.{common_steps}
use Rattle.std.proofs.Common.{rules, ◌≡◌, ℕ, List, ◌∷◌, ◌++◌, length, take, Option, Some, None, refl, sym, ap, ◌∙◌, subst}
use Rattle.std.specs.Prelude.{slice_get, slice_set}
use Rattle.instructions.specs.Instruction.{first_of, second_of}
use Rattle.instructions.specs.Operations.{outcome_of}
use Rattle.instructions.specs.Programs.{Program}
use Rattle.instructions.specs.declared.stop.Outcome.{Outcome}
use Rattle.inorder.specs.Steps.{IsNoRetiredStop, MayClaim, finished}
use Rattle.inorder.specs.Tenants.{Fate, Open, Tenant, computed, instr, kind_of}
use Rattle.inorder.specs.Unit.{Sizes}
use Rattle.inorder.specs.Moves.{Leads, with_tenants}
use Rattle.inorder.specs.Quiescent.{IsNotBusy}
use Rattle.inorder.proofs.OneCaller.Execution.{ActRun, claimed, ran_run, ran_steps}
use Rattle.inorder.proofs.OneCaller.Middle.{all_from, sound_from, still_from}
use Rattle.inorder.proofs.OneCaller.Sequences.{reach_on}
use Rattle.one_thread.specs.declared.bench.Turn.TheVariants.{Ran}
use Rattle.one_thread.specs.declared.execute.Operands.{Operands}
use Rattle.one_thread.specs.declared.pipeline.Pipeline.{Pipeline}
use Rattle.one_thread.specs.declared.station.Station.{Station}
use Rattle.one_thread.specs.Changes.{registers_of}
use Rattle.one_thread.specs.Producers.{gives}
use Rattle.one_thread.specs.StandsFor.{sizes}
use Rattle.one_thread.specs.Window.{operands_by, operands_in, source_in, stage_of, station_after, station_of, where_open, window}
use Rattle.one_thread.proofs.Noted.{given_station}
use Rattle.one_thread.proofs.Tests.{AreNeeded, HasSources, has_sources, needed_are}
use Rattle.one_thread.proofs.Turns.{FoundIn, found_in}
use Rattle.one_thread.proofs.Known.{IsSplit, knows, split_of}
use Rattle.one_thread.proofs.Changed.{age_is, changed_stands, set_shown}
use Rattle.one_thread.specs.Possible.{ToRun}
use Rattle.one_thread.proofs.Moved.{MovedAs, MovesAs}

-- A tenant that is open, and its operands

pub record IsOpen (f : Fate) (o : Option Operands) (x : Operands) : Type 0 where
  pub open' : f ≡ Open
  pub operands : o ≡ Some x

open_fate : (f : Fate) (o : Option Operands) (x : Operands) → IsNotBusy f → where_open (stage_of f) o ≡ Some x → IsOpen f o x
open_fate f o x n e = search rules

-- the station of a finished tenant
station_ran : (P : Program) (t : Tenant) (o : Outcome) → station_of P (finished t o) ≡ station_after (station_of P t) o
station_ran P t o = search rules

finished_stays : (t : Tenant) (o : Outcome) → ((finished t o).standing ≡ t.standing) × ((finished t o).station ≡ t.station)
finished_stays t o = search rules

-- Ran

pub ran_as : (b later : Pipeline) (i : ℕ) (w : Station) (o : Operands) → b.over ≡ None → gives (operands_in (registers_of b)) b.window i ≡ Some o →
    slice_get b.window i ≡ Some w → later.window ≡ slice_set b.window i (station_after w (outcome_of w.instr w.half w.pc o.a o.b (length b.program.now.bytes))) →
    later ≡ record b { window = later.window } → MovesAs b (Some (ToRun i)) (Ran i) later
ran_as b later i w o none here is new rest U r s = subst (MovedAs b U (Some (ToRun i)) (Ran i)) (sym rest) (go (found_in P b.window U.tenants i w s.window is))
  where
    P : Program
    P = b.program.now

    C : Sizes
    C = sizes b

    regs : List ℕ
    regs = registers_of b

    now : Pipeline
    now = record b { window = later.window }

    go : FoundIn P b.window U.tenants i w → MovedAs b U (Some (ToRun i)) (Ran i) now
    go f = with (ran_run P C 0 U ys t ts sp.sound sp.still sp.stops claim)
      where
        t : Tenant
        t = f.found.t

        ts : List Tenant
        ts = f.found.ts

        ys : List Tenant
        ys = f.found.ys

        W : List Station
        W = window P ts

        sp : IsSplit b ys t ts
        sp = split_of b U ys t ts (knows b U none r s) f.found.split f.found.live

        src : HasSources P regs t ts
        src = has_sources P regs t ts (sound_from P ys (t ∷ ts) sp.sound) (still_from ys (t ∷ ts) sp.still) (all_from IsNoRetiredStop ys (t ∷ ts) sp.stops).1 sp.before f.found.live

        given : operands_in regs W (station_of P t) ≡ Some o
        given = ap (λ l. operands_in regs l (station_of P t)) (sym f.taken) ∙ ap (operands_in regs (take i b.window)) f.found.station ∙ given_station (operands_in regs) b.window i w o is here

        is_open : IsOpen t.fate (operands_by (kind_of P t) (source_in regs W (first_of (instr P t))) (source_in regs W (second_of (instr P t)))) o
        is_open = open_fate t.fate _ o (still_from ys (t ∷ ts) sp.still).0.2 given

        needs : AreNeeded (kind_of P t) t.first.value t.second.value o
        needs = needed_are (kind_of P t) t.first.value t.second.value o (ap (λ x. operands_by (kind_of P t) x t.second.value) src.first ∙
            ap (operands_by (kind_of P t) (source_in regs W (first_of (instr P t)))) src.second ∙ is_open.operands)

        claim : MayClaim P t
        claim = record { live = f.found.live; fate = is_open.open'; needs = needs.none }

        t1 : Tenant
        t1 = claimed 0 t

        u : Tenant
        u = finished t1 (computed P t1)

        comes : computed P t1 ≡ outcome_of (instr P t) t.half t.pc o.a o.b (length P.bytes)
        comes = grind (arith, common_steps, t, needs)

        opened : station_of P t1 ≡ w
        opened = ap (λ g. record (station_of P t) { stage = stage_of g }) (sym is_open.open') ∙ f.found.station

        shown : station_of P u ≡ station_after w (outcome_of w.instr w.half w.pc o.a o.b (length P.bytes))
        shown = grind (arith, common_steps, station_ran, t1, comes, opened)

        keeps : (u.standing ≡ t1.standing) × (u.station ≡ t1.station)
        keeps = finished_stays t1 (computed P t1)

        with : ActRun P C 0 U ys t u ts (ran_steps ts) → MovedAs b U (Some (ToRun i)) (Ran i) now
        with k =
            let leads : Leads P C 0 U (k.delivers ++ ran_steps ts) (with_tenants U k.later) = subst (λ X. Leads P C 0 (with_tenants U X) (k.delivers ++ ran_steps ts) (with_tenants U k.later))
            (sym f.found.split) k.leads in
            record {
              unit = with_tenants U k.later;
              reached = reach_on P C 0 U (k.delivers ++ ran_steps ts) (with_tenants U k.later) r leads;
              stands = changed_stands b later U ys t u ts (ran_steps ts)
                  (station_after w (outcome_of w.instr w.half w.pc o.a o.b (length P.bytes))) none r s f.found.split f.found.live
                  (keeps.0 ∙ f.found.live) keeps.1 (tt, (tt, tt)) k leads shown (new ∙ set_shown P b.window U.tenants i w
                  (station_after w (outcome_of w.instr w.half w.pc o.a o.b (length P.bytes))) f);
              does = record {
                goes_on = (knows b U none r s).stops;
                ys = ys;
                tenant = t;
                ts = ts;
                stands = f.found.split;
                aged = age_is b U i w f;
                delivers = k.delivers;
                are = k.are;
                leads = leads;
                every = k.still;
              };
              is = refl;
            }
