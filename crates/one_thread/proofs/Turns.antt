-- The turn Recovered is steps of the unit.
use Rattle.std.proofs.Common.{arith}
use Rattle.std.proofs.lemmas.Grind.{common_steps}
use Rattle.std.proofs.Common.{rules, ◌≡◌, ℕ, ◌<◌, List, ◌∷◌, ◌++◌, length, take, Option, Some, None, refl, sym, ap, ◌∙◌, subst}
use Rattle.std.specs.Prelude.{slice_get}
use Rattle.std.specs.List.{AllByRecursion}
use Rattle.instructions.specs.Programs.{Program}
use Rattle.inorder.specs.declared.history.Act.TheVariants.{Mend}
use Rattle.inorder.specs.declared.history.Step.TheVariants.{On}
use Rattle.inorder.specs.Committed.{committed}
use Rattle.inorder.specs.Laws.{IsNoRetire}
use Rattle.inorder.specs.Steps.{IsNoRetiredStop}
use Rattle.inorder.specs.Tenants.{Fate, Miss, Tenant}
use Rattle.inorder.specs.Unit.{Sizes, UpdateUnit}
use Rattle.inorder.specs.Moves.{IsSquash, Leads, with_tenants}
use Rattle.inorder.specs.Quiescent.{AreQuiescent}
use Rattle.inorder.proofs.OneCaller.Recovery.{RecoverRun, gone, mended_to, recover_run}
use Rattle.inorder.proofs.OneCaller.Sequences.{all_weaker, committed_on, reach_on, sound_of, squash_quiet}
use Rattle.one_thread.specs.declared.bench.Turn.TheVariants.{Recovered}
use Rattle.one_thread.specs.declared.pipeline.Pipeline.{Pipeline}
use Rattle.one_thread.specs.declared.station.Station.{Station}
use Rattle.one_thread.specs.Producers.{NoneGives, gives}
use Rattle.one_thread.specs.Leavers.{leaver}
use Rattle.one_thread.specs.Notes.{miss_in}
use Rattle.one_thread.specs.Stages.{RecoversTo}
use Rattle.one_thread.specs.StandsFor.{OverIs, StandsFor, sizes}
use Rattle.one_thread.specs.Possible.{ToRecover}
use Rattle.one_thread.proofs.Moved.{MovedAs, MovesAs}
use Rattle.one_thread.proofs.Windows.{window_length}
use Rattle.one_thread.specs.Window.{miss_of, stage_of, station_of, window}
use Rattle.one_thread.proofs.Waiting.{LeavesSame, same_recover}
use Rattle.one_thread.proofs.Found.{Found, found, window_gone, window_middle}
use Rattle.one_thread.proofs.Leavers.{leaver_recover}
use Rattle.one_thread.proofs.Noted.{given_station}
use Rattle.one_thread.proofs.Scan.{take_middle}
use Rattle.one_thread.proofs.Tests.{NoneIs, gives_left, no_miss, none_is}

-- What was found in the window of a unit
pub record FoundIn (P : Program) (W : List Station) (U : List Tenant) (i : ℕ) (w : Station) : Type 0 where
  pub found : Found P U i w
  pub whole : W ≡ window P found.ts ++ station_of P found.t ∷ window P found.ys
  pub taken : take i W ≡ window P found.ts

pub found_in : (P : Program) (W : List Station) (U : List Tenant) (i : ℕ) (w : Station) → W ≡ window P U → slice_get W i ≡ Some w → FoundIn P W U i w
found_in P W U i w e h = go (found P U i w (ap (λ l. slice_get l i) (sym e) ∙ h))
  where
    go : Found P U i w → FoundIn P W U i w
    go f =
        let whole : W ≡ window P f.ts ++ station_of P f.t ∷ window P f.ys = e ∙ ap (window P) f.split ∙ window_middle P f.ys f.t f.ts f.live in
        record {
          found = f;
          whole = whole;
          taken = ap (λ k. take k W) f.place ∙ ap (take (length (window P f.ts))) whole ∙ take_middle (window P f.ts) (station_of P f.t ∷ window P f.ys);
        }

-- what the stations before it do not give, the tenants before it do not give
pub oldest_is : {X : Type 0} → (give : List Station → Station → Option X) (P : Program) (W : List Station) (U : List Tenant) (i : ℕ) (w : Station) → (f : FoundIn P W U i w) →
    ((k : ℕ) → k < i → gives give W k ≡ None) → NoneIs give P f.found.ts
oldest_is give P W U i w f first =
    none_is give P f.found.ts
    (λ k h. sym (gives_left give (window P f.found.ts) (station_of P f.found.t ∷ window P f.found.ys) k h) ∙ ap (λ l. gives give l k) (sym f.whole) ∙
    first k (subst (λ n. k < n) (sym f.found.place) h))

pub none_in : {X : Type 0} → (give : List Station → Station → Option X) (P : Program) (W : List Station) (U : List Tenant) → W ≡ window P U → NoneGives give W → NoneIs give P U
none_in give P W U e h = none_is give P U (λ k l. ap (λ x. gives give x k) (sym e) ∙ h k (subst (λ x. k < length x) (sym e) l))

-- The fields stand for a unit where nothing was committed
pub stand_on : (b : Pipeline) (W : List Station) (U V : UpdateUnit) → b.over ≡ None →
    StandsFor b U → committed b.program.now V.tenants ≡ committed b.program.now U.tenants → ((s : ℕ) →
    leaver b.program.now V.tenants s ≡ leaver b.program.now U.tenants s) →
    LeavesSame b.program.now U.tenants V.tenants → W ≡ window b.program.now V.tenants →
    AllByRecursion IsNoRetiredStop V.tenants → AreQuiescent V.tenants →
    StandsFor (record b { window = W }) V
stand_on b W U V none s c l k w ns still = search rules

miss_fate : (f : Fate) (x : ℕ) → miss_of (stage_of f) ≡ Some x → f ≡ Miss x
miss_fate f x e = search rules

-- Recovered

pub recovered_turn : (b later : Pipeline) → b.over ≡ None → (to : RecoversTo b.window later.window) → later ≡ record b { window = later.window } →
    MovesAs b (Some (ToRecover to.i)) (Recovered to.i) later
recovered_turn b later none to rest U r s = subst (MovedAs b U (Some (ToRecover to.i)) (Recovered to.i)) (sym rest) (go (found_in P b.window U.tenants to.i to.w s.window to.is))
  where
    P : Program
    P = b.program.now

    C : Sizes
    C = sizes b

    over : AllByRecursion IsNoRetiredStop U.tenants × AreQuiescent U.tenants
    over = subst (OverIs U.tenants) none s.over

    now : Pipeline
    now = record b { window = later.window }

    go : FoundIn P b.window U.tenants to.i to.w → MovedAs b U (Some (ToRecover to.i)) (Recovered to.i) now
    go f = with (recover_run P C 0 U f.found.ys f.found.t f.found.ts to.x f.found.live miss)
      where
        t : Tenant
        t = f.found.t

        ts : List Tenant
        ts = f.found.ts

        ys : List Tenant
        ys = f.found.ys

        miss : t.fate ≡ Miss to.x
        miss = miss_fate t.fate to.x (ap (λ w. miss_of w.stage) f.found.station ∙ given_station miss_in b.window to.i to.w to.x to.is to.first.here)

        V : UpdateUnit
        V = with_tenants U (gone ys ++ mended_to to.x t ∷ ts)

        shown : later.window ≡ window P V.tenants
        shown = grind (arith, common_steps, ts, window_gone, ys, mended_to, t)

        with : RecoverRun P C 0 U ys t ts to.x → MovedAs b U (Some (ToRecover to.i)) (Recovered to.i) now
        with k =
            let steps = On (length ts) Mend ∷ k.squashes in
            let leads : Leads P C 0 U steps V = subst (λ X. Leads P C 0 (with_tenants U X) steps V) (sym f.found.split) k.leads in
            record {
              unit = V;
              reached = reach_on P C 0 U steps V r leads;
              stands = stand_on b later.window U V none s
                  (committed_on P C 0 U steps V leads (sound_of P C U r) (tt, all_weaker IsSquash IsNoRetire squash_quiet k.squashes k.are))
                  (λ n. leaver_recover P n ys t ts to.x f.found.live ∙ ap (λ X. leaver P X n) (sym f.found.split))
                  (subst (λ X. LeavesSame P X V.tenants) (sym f.found.split) (same_recover P ys t ts to.x f.found.live)) shown
                  (k.stops (subst (AllByRecursion IsNoRetiredStop) f.found.split over.0)) (k.still (subst AreQuiescent f.found.split over.1));
              does = record {
                goes_on = over.0;
                ys = ys;
                tenant = t;
                ts = ts;
                stands = f.found.split;
                aged = sym (window_length P ts) ∙ sym f.found.place;
                live = f.found.live;
                x = to.x;
                miss = miss;
                oldest = no_miss P ts (oldest_is miss_in P b.window U.tenants to.i to.w f to.first.first);
                squashes = k.squashes;
                are = k.are;
                leads = leads;
              };
              is = refl;
            }
