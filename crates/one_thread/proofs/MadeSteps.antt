-- A step that the fields permit is a turn.
use Rattle.std.proofs.lemmas.Grind.{common_steps}
use Rattle.std.proofs.Common.{◌≡◌, ℕ, ◌<◌, true, List, length, Option, Some, None, ap, ◌∙◌, arith}
use Rattle.std.specs.Prelude.{slice_get}
use Rattle.std.proofs.lemmas.Option.{slice_get_within}
use Rattle.one_thread.specs.declared.bench.Turn.{Turn}
use Rattle.one_thread.specs.declared.bench.Turn.TheVariants.{Loaded, Ran, Recovered}
use Rattle.one_thread.specs.declared.execute.Ready.{Ready}
use Rattle.one_thread.specs.declared.memory_port.Answered.{Answered}
use Rattle.one_thread.specs.declared.pipeline.Pipeline.{Pipeline}
use Rattle.one_thread.specs.declared.window.Missed.{Missed}
use Rattle.one_thread.specs.declared.station.Station.{Station}
use Rattle.one_thread.specs.Changes.{CanClaim, LoadGives, LoadsAt, RunsAt, registers_of}
use Rattle.one_thread.specs.Producers.{FirstGives, gives}
use Rattle.one_thread.specs.Leaves.{RetiresTo}
use Rattle.one_thread.specs.Loads.{load_in}
use Rattle.one_thread.specs.Notes.{settled_at}
use Rattle.one_thread.specs.Possible.{ToLoad, ToRecover, ToRetire, ToRun}
use Rattle.one_thread.specs.Stages.{FirstMiss, RecoversTo}
use Rattle.one_thread.specs.StandsFor.{StandsForSome}
use Rattle.one_thread.specs.Window.{operands_in}
use Rattle.one_thread.proofs.CanLeave.{some_leaves}
use Rattle.one_thread.proofs.EndTurns.{retires_as, retires_falls}
use Rattle.one_thread.proofs.Inside.{window_room}
use Rattle.one_thread.proofs.LoadedTurns.{loaded_as}
use Rattle.one_thread.proofs.Moved.{MovesAs, moves_as}
use Rattle.one_thread.proofs.Ranks.{load_falls, recover_falls, run_falls}
use Rattle.one_thread.proofs.RanTurns.{ran_as}
use Rattle.one_thread.proofs.Start.{Comes, retires_keeps, same_rest, unit_next}
use Rattle.one_thread.proofs.Turns.{recovered_turn}

-- A station that gives something is there

pub record Giver (W : List Station) (i : ℕ) : Type 0 where
  pub station : Station
  pub is : slice_get W i ≡ Some station
  pub inside : i < length W

pub giver : {X : Type 0} → (give : List Station → Station → Option X) (W : List Station) (i : ℕ) (x : X) → gives give W i ≡ Some x → Giver W i
giver give W i x h = grind (arith, common_steps, slice_get_within)

-- only one is the first
first_same : {X : Type 0} → (give : List Station → Station → Option X) (W : List Station) (i j : ℕ) (x y : X) → FirstGives give W i x → FirstGives give W j y → i ≡ j
first_same give = grind (arith, common_steps)

-- Recovery

pub recover_as : (b later : Pipeline) (m : Missed) → b.over ≡ None → FirstMiss b.window (Some m) → RecoversTo b.window later.window →
    later ≡ record b { window = later.window } → MovesAs b (Some (ToRecover m.at)) (Recovered m.at) later
recover_as b later m none first to rest = grind (arith, common_steps, first_same, recovered_turn)

pub recover_comes : (b later : Pipeline) (m : Missed) → StandsForSome b → b.over ≡ None → FirstMiss b.window (Some m) → RecoversTo b.window later.window →
    later ≡ record b { window = later.window } → Comes b (Recovered m.at) later
recover_comes b later m h none first to rest =
    let same = same_rest b later later.window rest in
    record {
      falls = (ap (λ x. x.committed) rest, ap (λ x. x.low) rest, recover_falls b.window later.window (window_room b h) to);
      unit = unit_next b later (Recovered m.at) h (moves_as b later (Some (ToRecover m.at)) (Recovered m.at) (recover_as b later m none first to rest)) same
          (ap (λ x. length x.leavers) rest ∙ h.leavers);
      same = same;
    }

-- Execution

pub run_as : (b later : Pipeline) (r : Ready) → b.over ≡ None → CanClaim b r → RunsAt b r later → later ≡ record b { window = later.window } →
    MovesAs b (Some (ToRun r.at)) (Ran r.at) later
run_as b later r none can runs rest = grind (arith, common_steps, giver, ran_as)

pub run_comes : (b later : Pipeline) (r : Ready) → StandsForSome b → b.over ≡ None → CanClaim b r → RunsAt b r later →
    later ≡ record b { window = later.window } → Comes b (Ran r.at) later
run_comes b later r h none can runs rest =
    let w = giver (operands_in (registers_of b)) b.window r.at r.operands can in
    let same = same_rest b later later.window rest in
    record {
      falls = (
        ap (λ x. x.committed) rest,
        ap (λ x. x.low) rest,
        run_falls (registers_of b) (length b.program.now.bytes) b.window later.window r.at w.station r.operands
            (window_room b h) can w.is (runs w.station w.is),
      );
      unit = unit_next b later (Ran r.at) h (moves_as b later (Some (ToRun r.at)) (Ran r.at) (run_as b later r none can runs rest)) same (ap (λ x. length x.leavers) rest ∙ h.leavers);
      same = same;
    }

-- A load

pub load_as : (b later : Pipeline) (l : Answered) → b.over ≡ None → LoadGives b l → LoadsAt b l later →
    later ≡ record b { window = later.window } → MovesAs b (Some (ToLoad l.at)) (Loaded l.at) later
load_as b later l none can loads rest =
    let w = giver (load_in (registers_of b) b.committed.memory) b.window l.at l.value can in
    loaded_as b later l.at w.station l.value none can w.is (loads w.station w.is) rest

pub load_comes : (b later : Pipeline) (l : Answered) → StandsForSome b → b.over ≡ None → LoadGives b l → LoadsAt b l later →
    later ≡ record b { window = later.window } → Comes b (Loaded l.at) later
load_comes b later l h none can loads rest =
    let w = giver (load_in (registers_of b) b.committed.memory) b.window l.at l.value can in
    let same = same_rest b later later.window rest in
    record {
      falls = (ap (λ x. x.committed) rest, ap (λ x. x.low) rest, load_falls (registers_of b) b.committed.memory b.window later.window l.at w.station l.value (window_room b h) can w.is (loads w.station w.is));
      unit = unit_next b later (Loaded l.at) h (moves_as b later (Some (ToLoad l.at)) (Loaded l.at) (load_as b later l none can loads rest)) same (ap (λ x. length x.leavers) rest ∙ h.leavers);
      same = same;
    }

-- A retirement

pub retire_comes : (b later : Pipeline) (answer : Turn) → StandsForSome b → b.over ≡ None → settled_at (slice_get b.window 0) ≡ true →
    RetiresTo b (slice_get b.window 0) answer later → Comes b answer later
retire_comes b later answer h none can to =
    let kept = retires_keeps b later answer to in
    record {
      falls = retires_falls b later answer h none (some_leaves b h can) to;
      unit = unit_next b later answer h (moves_as b later (Some ToRetire) answer (retires_as b later answer h none can to)) kept.same (kept.leavers ∙ h.leavers);
      same = kept.same;
    }
