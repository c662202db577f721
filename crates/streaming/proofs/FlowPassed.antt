-- The oldest of completed tenants retires.
use Rattle.std.proofs.lemmas.Grind.{common_steps}
use Rattle.std.proofs.Common.{◌≡◌, ◌≢◌, ◌<◌, ◌≤◌, ℕ, ◌+◌, ◌%◌, Bool, true, false, cond, length, drop, Option, Some, None, ap, ◌∙◌, subst, arith, true≢false}
use Rattle.std.specs.Prelude.{is_none, is_some, slice_get}
use Rattle.instructions.specs.Instruction.{is_first_half}
use Rattle.instructions.specs.declared.stop.Stop.{Stop}
use Rattle.one_thread.specs.Changes.{run_from}
use Rattle.streaming.specs.Departing.{committed_by, low_by, to_do}
use Rattle.streaming.specs.Flow.{HaveCompleted}
use Rattle.one_thread.specs.Leaves.{HasEnded, LeavesTo, OldestHasEnded, PassesTo, RetiresTo, leavers_with}
use Rattle.one_thread.specs.Notes.{settled_at}
use Rattle.one_thread.specs.StandsFor.{StandsForSome}
use Rattle.one_thread.specs.declared.bench.Turn.{Turn}
use Rattle.one_thread.specs.declared.bench.Turn.TheVariants.{Halved, Retired}
use Rattle.one_thread.specs.declared.pipeline.Pipeline.{Pipeline}
use Rattle.one_thread.specs.declared.station.Stage.{Stage}
use Rattle.one_thread.specs.declared.station.Stage.TheVariants.{Stops}
use Rattle.one_thread.specs.declared.station.Station.{Station}
use Rattle.one_thread.proofs.Ends.{ends_same}
use Rattle.one_thread.specs.Possible.{ToRetire}
use Rattle.one_thread.specs.Turns.{Moves}
use Rattle.one_thread.proofs.CanLeave.{some_leaves}
use Rattle.one_thread.proofs.EndTurns.{retires_as}
use Rattle.one_thread.proofs.MadeSteps.{retire_comes}
use Rattle.one_thread.proofs.Moved.{moves_as}
use Rattle.one_thread.proofs.Start.{Comes}

pub record IsFilled (b : Pipeline) : Type 0 where
  pub unit : StandsForSome b
  pub goes_on : b.over ≡ None
  pub completed : HaveCompleted b.window

settled_first : (b : Pipeline) (w : Station) → IsFilled b → slice_get b.window 0 ≡ Some w → settled_at (slice_get b.window 0) ≡ true
settled_first b w d is = ap settled_at is ∙ (d.completed 0 w is).0.resolved

pub filled_ended : (b : Pipeline) (w : Station) → IsFilled b → slice_get b.window 0 ≡ Some w → HasEnded (length b.committed.memory) w.instr w.stage
filled_ended b w d is = subst (OldestHasEnded (length b.committed.memory)) is (some_leaves b d.unit (settled_first b w d is))

-- The oldest retires

abbrev pub answer_by : Bool → Turn
answer_by true = Halved
answer_by false = Retired

leaves_as : (b later : Pipeline) (w : Station) (answer : Turn) (s : Stage) → ((c : Stop) → s ≢ Stops c) → PassesTo (is_first_half w.instr.op w.half) b w answer later → LeavesTo b w s answer later
leaves_as b later w answer s n p = grind (arith, common_steps)

-- the fields where it has
abbrev pub passed_from : Bool → Pipeline → Station → Pipeline
passed_from h b w =
    record b {
      committed = committed_by h w b.low b.committed;
      low = low_by h w;
      leavers = leavers_with b w;
      window = drop 1 b.window;
      oldest = (b.oldest + 1) % b.ring;
    }

passes : (h : Bool) (b later : Pipeline) (w : Station) → later ≡ passed_from h b w → PassesTo h b w (answer_by h) later
passes h b later w e = grind (arith, common_steps)

-- the oldest of a window retires
record Passed (b later : Pipeline) (answer : Turn) : Type 0 where
  resolves : settled_at (slice_get b.window 0) ≡ true
  to : RetiresTo b (slice_get b.window 0) answer later

passed : (b later : Pipeline) (w : Station) → IsFilled b → slice_get b.window 0 ≡ Some w → later ≡ passed_from (is_first_half w.instr.op w.half) b w →
    Passed b later (answer_by (is_first_half w.instr.op w.half))
passed b later w d is e = grind (arith, common_steps, settled_first, leaves_as, passes)

pub passed_comes : (b later : Pipeline) (w : Station) → IsFilled b → slice_get b.window 0 ≡ Some w → later ≡ passed_from (is_first_half w.instr.op w.half) b w →
    Comes b (answer_by (is_first_half w.instr.op w.half)) later
passed_comes b later w d is e =
    let p = passed b later w d is e in
    retire_comes b later (answer_by (is_first_half w.instr.op w.half)) d.unit d.goes_on p.resolves p.to

-- The result of the run is as before

runs_by : (h : Bool) (b later : Pipeline) → StandsForSome b → Comes b (answer_by h) later → Moves b (answer_by h) later → (limit : ℕ) → b.committed.count < limit → run_from later limit ≡ run_from b limit
runs_by h b later u s m limit less = grind (arith, common_steps, ends_same)

pub passed_runs : (b later : Pipeline) (w : Station) → IsFilled b → slice_get b.window 0 ≡ Some w → later ≡ passed_from (is_first_half w.instr.op w.half) b w →
    (limit : ℕ) → b.committed.count < limit →
    run_from later limit ≡ run_from b limit
passed_runs b later w d is e limit less =
    let h : Bool = is_first_half w.instr.op w.half in
    let p = passed b later w d is e in
    runs_by h b later d.unit (passed_comes b later w d is e) (moves_as b later (Some ToRetire) (answer_by h) (retires_as b later (answer_by h) d.unit d.goes_on p.resolves p.to)) limit less

-- and less is to be done

abbrev waiting : Option ℕ → ℕ
waiting o = cond (is_none o) 1 0

at_most : (o : Option ℕ) → waiting o ≤ 1
at_most o = grind (arith, common_steps)

none_waits : (o : Option ℕ) → o ≡ None → waiting o ≡ 1
none_waits o e = grind (arith, common_steps)

some_waits : (o : Option ℕ) → is_some o ≡ true → waiting o ≡ 0
some_waits o e = grind (arith, common_steps, true≢false)

less_by : (h : Bool) (b later : Pipeline) → Comes b (answer_by h) later → (limit : ℕ) → b.committed.count < limit → to_do limit later < to_do limit b
less_by h b later s limit less = grind (arith, common_steps, none_waits, some_waits, at_most)

pub passed_less : (b later : Pipeline) (w : Station) → IsFilled b → slice_get b.window 0 ≡ Some w → later ≡ passed_from (is_first_half w.instr.op w.half) b w →
    (limit : ℕ) → b.committed.count < limit →
    to_do limit later < to_do limit b
passed_less b later w d is e limit less = less_by (is_first_half w.instr.op w.half) b later (passed_comes b later w d is e) limit less
