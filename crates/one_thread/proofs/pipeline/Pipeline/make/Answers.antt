-- Each step that can be made.
use Rattle.std.proofs.Common.{◌≡◌, true, Some, refl, subst}
use Rattle.std.specs.Prelude.{slice_get}
use Rattle.one_thread.specs.Changes.{CanClaim, LoadGives}
use Rattle.one_thread.specs.Notes.{settled_at}
use Rattle.one_thread.specs.Stages.{FirstMiss}
use Rattle.one_thread.specs.Steps.{Permits}
use Rattle.one_thread.specs.Turns.{fields}
use Rattle.one_thread.specs.declared.bench.Turn.TheVariants.{Loaded, Ran, Recovered}
use Rattle.one_thread.specs.declared.pipeline.Pipeline.{Pipeline}
use Rattle.one_thread.specs.declared.possible.Step.TheVariants.{Load, Recover, Retire, Run}
use Rattle.one_thread.proofs.BenchTurns.{plain_makes}
use Rattle.one_thread.proofs.CanLeave.{some_leaves}
use Rattle.one_thread.proofs.EndTurns.{retires_as}
use Rattle.one_thread.proofs.Start.{Comes}
use Rattle.one_thread.proofs.MadeSteps.{load_as, load_comes, recover_as, recover_comes, retire_comes, run_as, run_comes}
use Rattle.one_thread.proofs.pipeline.Pipeline.make.Given.{Over}
use Rattle.one_thread.proofs.pipeline.Pipeline.make.Goals as goal

-- A miss is mended

recovered : (g : Over) (c : goal.After-recover g) → Comes c.args.self.now (Recovered c.in-Recover.miss.at) (record c.args.self.now { window = c.recover.new.self })
recovered g c =
    let first : FirstMiss c.args.self.now.window (Some c.in-Recover.miss) = subst (Permits c.args.self.now) c.in-Recover.is c.requires.can in
    recover_comes c.args.self.now (record c.args.self.now { window = c.recover.new.self }) c.in-Recover.miss c.requires.unit c.requires.open first c.recover.ensures refl

pub returns-in-Recover-clause-turn : goal.returns-in-Recover-clause-turn
returns-in-Recover-clause-turn g c =
    let b = c.args.self.now in
    let p = c.args.predictor.now in
    let later : Pipeline = record b { window = c.recover.new.self } in
    let first : FirstMiss b.window (Some c.in-Recover.miss) = subst (Permits b) c.in-Recover.is c.requires.can in
    plain_makes g.P.Predictor.Predicts g.P.Predictor.Learns (fields b p) (fields later p) c.args.step (Recover c.in-Recover.miss) (Recovered c.in-Recover.miss.at) c.in-Recover.is (λ e. cc e)
    (recover_as b later c.in-Recover.miss c.requires.open first c.recover.ensures refl) refl

pub returns-in-Recover-clause-falls : goal.returns-in-Recover-clause-falls
returns-in-Recover-clause-falls g c = (recovered g c).falls

pub returns-in-Recover-clause-unit : goal.returns-in-Recover-clause-unit
returns-in-Recover-clause-unit g c = (recovered g c).unit

-- A tenant runs

can_run : (g : Over) (c : goal.After-claim g) → CanClaim c.args.self.now c.in-Run.ready
can_run g c = subst (Permits c.args.self.now) c.in-Run.is c.requires.can

ran : (g : Over) (c : goal.After-claim g) → Comes c.args.self.now (Ran c.in-Run.ready.at) c.claim.new.self
ran g c =
    let made = c.claim.ensures in
    run_comes c.args.self.now c.claim.new.self c.in-Run.ready c.requires.unit c.requires.open (can_run g c) made.window made.rest

pub returns-in-Run-clause-turn : goal.returns-in-Run-clause-turn
returns-in-Run-clause-turn g c =
    let b = c.args.self.now in
    let p = c.args.predictor.now in
    let later = c.claim.new.self in
    plain_makes g.P.Predictor.Predicts g.P.Predictor.Learns (fields b p) (fields later p) c.args.step (Run c.in-Run.ready) (Ran c.in-Run.ready.at) c.in-Run.is (λ e. cc e)
    (run_as b later c.in-Run.ready c.requires.open (can_run g c) c.claim.ensures.window c.claim.ensures.rest) refl

pub returns-in-Run-clause-falls : goal.returns-in-Run-clause-falls
returns-in-Run-clause-falls g c = (ran g c).falls

pub returns-in-Run-clause-unit : goal.returns-in-Run-clause-unit
returns-in-Run-clause-unit g c = (ran g c).unit

-- A load has its value

can_load : (g : Over) (c : goal.After-answers g) → LoadGives c.args.self.now c.in-Load.answered
can_load g c = subst (Permits c.args.self.now) c.in-Load.is c.requires.can

loaded : (g : Over) (c : goal.After-answers g) → Comes c.args.self.now (Loaded c.in-Load.answered.at) c.answers.new.self
loaded g c =
    let made = c.answers.ensures in
    load_comes c.args.self.now c.answers.new.self c.in-Load.answered c.requires.unit c.requires.open (can_load g c) made.window made.rest

pub returns-in-Load-clause-turn : goal.returns-in-Load-clause-turn
returns-in-Load-clause-turn g c =
    let b = c.args.self.now in
    let p = c.args.predictor.now in
    let later = c.answers.new.self in
    plain_makes g.P.Predictor.Predicts g.P.Predictor.Learns (fields b p) (fields later p) c.args.step (Load c.in-Load.answered) (Loaded c.in-Load.answered.at) c.in-Load.is (λ e. cc e)
    (load_as b later c.in-Load.answered c.requires.open (can_load g c) c.answers.ensures.window c.answers.ensures.rest) refl

pub returns-in-Load-clause-falls : goal.returns-in-Load-clause-falls
returns-in-Load-clause-falls g c = (loaded g c).falls

pub returns-in-Load-clause-unit : goal.returns-in-Load-clause-unit
returns-in-Load-clause-unit g c = (loaded g c).unit

-- The oldest tenant retires

pub retires-requires-clause-can : goal.retires-requires-clause-can
retires-requires-clause-can g c = some_leaves c.args.self.now c.requires.unit (subst (Permits c.args.self.now) c.in-Retire.is c.requires.can)

can_retire : (g : Over) (c : goal.After-retires g) → settled_at (slice_get c.args.self.now.window 0) ≡ true
can_retire g c = subst (Permits c.args.self.now) c.in-Retire.is c.requires.can

retired : (g : Over) (c : goal.After-retires g) → Comes c.args.self.now c.retires.result c.retires.new.self
retired g c =
    retire_comes c.args.self.now c.retires.new.self c.retires.result c.requires.unit c.requires.open (can_retire g c) c.retires.ensures

pub returns-in-Retire-clause-turn : goal.returns-in-Retire-clause-turn
returns-in-Retire-clause-turn g c =
    let b = c.args.self.now in
    let p = c.args.predictor.now in
    let later = c.retires.new.self in
    plain_makes g.P.Predictor.Predicts g.P.Predictor.Learns (fields b p) (fields later p) c.args.step Retire c.retires.result c.in-Retire.is (λ e. cc e)
    (retires_as b later c.retires.result c.requires.unit c.requires.open (can_retire g c) c.retires.ensures) refl

pub returns-in-Retire-clause-falls : goal.returns-in-Retire-clause-falls
returns-in-Retire-clause-falls g c = (retired g c).falls

pub returns-in-Retire-clause-unit : goal.returns-in-Retire-clause-unit
returns-in-Retire-clause-unit g c = (retired g c).unit

pub returns-in-Retire-clause-same : goal.returns-in-Retire-clause-same
returns-in-Retire-clause-same g c = (retired g c).same
