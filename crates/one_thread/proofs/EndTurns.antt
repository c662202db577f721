-- The turns Retired, Halved and Over are steps of the unit.
use Rattle.std.proofs.Common.{arith}
use Rattle.std.proofs.lemmas.Grind.{common_steps}
use Rattle.std.proofs.Common.{◌≡◌, Bool, true, false, length, Option, Some, None, refl, sym, ap, subst}
use Rattle.std.specs.Prelude.{is_some, slice_get}
use Rattle.instructions.specs.Instruction.{is_first_half}
use Rattle.one_thread.specs.declared.bench.Turn.{Turn}
use Rattle.one_thread.specs.declared.pipeline.Pipeline.{Pipeline}
use Rattle.one_thread.specs.declared.station.Stage.{Stage}
use Rattle.one_thread.specs.declared.station.Station.{Station}
use Rattle.one_thread.specs.Leaves.{HasEnded, LeavesTo, OldestHasEnded, PassesTo, RetiresTo}
use Rattle.one_thread.specs.StandsFor.{StandsForSome}
use Rattle.one_thread.specs.Turns.{Falls}
use Rattle.one_thread.specs.Notes.{settled_at}
use Rattle.one_thread.specs.Possible.{ToRetire}
use Rattle.one_thread.proofs.Leaving.{leave}
use Rattle.one_thread.proofs.Moved.{MovesAs}
use Rattle.one_thread.proofs.Whole.{first_alone}

-- The oldest retires, whatever else is possible

pub retires_as : (b later : Pipeline) (answer : Turn) → StandsForSome b → b.over ≡ None → settled_at (slice_get b.window 0) ≡ true →
    RetiresTo b (slice_get b.window 0) answer later → MovesAs b (Some ToRetire) answer later
retires_as b later answer h none can to = grind (arith, common_steps, leave)

pub retires_falls : (b later : Pipeline) (answer : Turn) → StandsForSome b → b.over ≡ None →
    OldestHasEnded (length b.committed.memory) (slice_get b.window 0) → RetiresTo b (slice_get b.window 0) answer later →
    Falls answer b later
retires_falls b later answer unit none can to = go (slice_get b.window 0) refl can to
  where
    passes : (x : Bool) (w : Station) → slice_get b.window 0 ≡ Some w → is_first_half w.instr.op w.half ≡ x → PassesTo x b w answer later → Falls answer b later
    passes true w e q l = subst (λ x. Falls x b later) (sym l.0) (ap (λ x. x.committed) l.1, first_alone b w unit none e q, ap (λ x. is_some x.low) l.1)
    passes false w e q l = subst (λ x. Falls x b later) (sym l.0) (ap (λ x. x.committed.count) l.1)

    by : (w : Station) → slice_get b.window 0 ≡ Some w → (g : Stage) → HasEnded (length b.committed.memory) w.instr g → LeavesTo b w g answer later → Falls answer b later
    by w e h2 h l = grind (arith, common_steps, passes)

    go : (o : Option Station) → slice_get b.window 0 ≡ o → OldestHasEnded (length b.committed.memory) o → RetiresTo b o answer later → Falls answer b later
    go o e c l = grind (arith, common_steps, by)
