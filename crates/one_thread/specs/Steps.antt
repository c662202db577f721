-- The steps that are possible, by the stations of the live tenants.
use Rattle.std.specs.Prelude.{◌≡◌, ℕ, zero, suc, true, false, List, [], ◌∷◌, ◌++◌, length, map, Option, Some, None, IfSome, slice_get, if◌then◌else◌}
use Rattle.std.specs.List.{AllByRecursion}
use Rattle.instructions.specs.declared.stop.Stop.{Stop}
use Rattle.instructions.specs.declared.instr.Instr.{Instr}
use Rattle.inorder.specs.Moves.{IsReached}
use Rattle.inorder.specs.Unit.{UpdateUnit}
use Rattle.one_thread.specs.declared.bench.Turn.{Turn}
use Rattle.one_thread.specs.declared.dispatch.Fetched.{Fetched}
use Rattle.one_thread.specs.declared.execute.Operands.{Operands}
use Rattle.one_thread.specs.declared.pipeline.Pipeline.{Pipeline}
use Rattle.one_thread.specs.declared.possible.Step.{Step}
use Rattle.one_thread.specs.declared.possible.Step.TheVariants.{Let, Load, Recover, Retire, Run}
use Rattle.one_thread.specs.declared.window.Missed.{Missed}
use Rattle.one_thread.specs.declared.station.Station.{Station}
use Rattle.one_thread.specs.Changes.{CanClaim, LoadGives, NextOf, NoneLoads, NoneRecovers, NoneRuns, registers_of}
use Rattle.one_thread.specs.Choices.{step_made}
use Rattle.one_thread.specs.Producers.{gives}
use Rattle.one_thread.specs.Loads.{load_in}
use Rattle.one_thread.specs.Notes.{settled_at}
use Rattle.one_thread.specs.Possible.{Possible, ToLet, ToLoad, ToRecover, ToRetire, ToRun}
use Rattle.one_thread.specs.Stages.{FirstAnswered, FirstMiss, FirstReady}
use Rattle.one_thread.specs.StandsFor.{StandsFor, sizes}
use Rattle.one_thread.specs.Turns.{BenchFields, Made}
use Rattle.one_thread.specs.Window.{operands_in}

-- A step by its name in a unit
abbrev pub named : Step → Possible
named (Recover m) = ToRecover m.at
named (Let f) = ToLet
named (Run r) = ToRun r.at
named (Load l) = ToLoad l.at
named Retire = ToRetire

-- The names of steps
abbrev pub names : List Step → List Possible
names steps = map named steps

-- The fields permit a step
abbrev pub Permits : Pipeline → Step → Type 0
Permits b (Recover m) = FirstMiss b.window (Some m)
Permits b (Let f) = NextOf b (Some f)
Permits b (Run r) = CanClaim b r
Permits b (Load l) = LoadGives b l
Permits b Retire = settled_at (slice_get b.window 0) ≡ true

-- The recovery of a miss, if there is one
abbrev pub recovery : Option Missed → List Step
recovery None = []
recovery (Some m) = Recover m ∷ []

-- The let of what can be let, if there is something
abbrev pub next_let : Option Fetched → List Step
next_let None = []
next_let (Some f) = Let f ∷ []

-- The step of a station, if that gives something
abbrev pub given_step : {X : Type 0} → (ℕ → X → Step) → ℕ → Option X → List Step
given_step step k None = []
given_step step k (Some x) = step k x ∷ []

-- A step for each of the first k stations that gives something
abbrev pub given_steps : {X : Type 0} → (List Station → Station → Option X) → (ℕ → X → Step) → List Station → ℕ →
    List Step
given_steps give step W zero = []
given_steps give step W (suc k) = given_steps give step W k ++ given_step step k (gives give W k)

-- The execution of a station with these sources
abbrev pub run_at : ℕ → Operands → Step
run_at k o = Run (record { at = k; operands = o })

-- The load of a station with this value
abbrev pub load_at : ℕ → ℕ → Step
load_at k v = Load (record { at = k; value = v })

-- The executions of the first k stations that can be claimed
abbrev pub runs_of : List ℕ → List Station → ℕ → List Step
runs_of registers W k = given_steps (operands_in registers) run_at W k

-- The loads of the first k stations that are not blocked
abbrev pub loads_of : List ℕ → List ℕ → List Station → ℕ → List Step
loads_of registers memory W k = given_steps (load_in registers memory) load_at W k

-- The retirement of the oldest station, if that can retire
abbrev pub retirement_of : Option Station → List Step
retirement_of w = if settled_at w then Retire ∷ [] else []

-- All steps that the fields permit, in their order
abbrev pub all_steps : Pipeline → Option Missed → Option Fetched → List Step
all_steps b miss next =
    recovery miss ++ next_let next ++ runs_of (registers_of b) b.window (length b.window)
    ++ loads_of (registers_of b) b.committed.memory b.window (length b.window)
    ++ retirement_of (slice_get b.window 0)

-- These are all of them
pub record ArePossible (b : Pipeline) (steps : List Step) : Type 0 where
  pub miss : Option Missed
  pub is_miss : FirstMiss b.window miss
  pub next : Option Fetched
  pub is_next : NextOf b next
  pub list : steps ≡ all_steps b miss next

-- The first step that the fields permit, or that there is none
abbrev pub IsFirstStep : Pipeline → Option Step → Type 0
IsFirstStep b (Some (Recover m)) = FirstMiss b.window (Some m)
IsFirstStep b (Some (Let f)) = NoneRecovers b × NextOf b (Some f)
IsFirstStep b (Some (Run r)) = NoneRecovers b × NextOf b None × FirstReady (registers_of b) b.window (Some r)
IsFirstStep b (Some (Load l)) =
    NoneRecovers b × NextOf b None × NoneRuns b ×
    FirstAnswered (registers_of b) b.committed.memory b.window (Some l)
IsFirstStep b (Some Retire) =
    NoneRecovers b × NextOf b None × NoneRuns b × NoneLoads b × (settled_at (slice_get b.window 0) ≡ true)
IsFirstStep b None =
    NoneRecovers b × NextOf b None × NoneRuns b × NoneLoads b × (settled_at (slice_get b.window 0) ≡ false)

-- A step may be made: the unit has not ended, and the fields permit it
abbrev pub MayMake : Pipeline → Step → Type 0
MayMake b step = (b.over ≡ None) × Permits b step

-- The next step: none where the unit has ended, else the first that the fields permit
pub record IsNextStep (b : Pipeline) (step : Option Step) : Type 0 where
  pub first : b.over ≡ None → IsFirstStep b step
  pub ended : (c : Stop) → b.over ≡ Some c → step ≡ None
  pub can : IfSome step (MayMake b)

-- The steps that may be made, in their order: none where the unit has ended, else all that the fields permit
pub record AreNextSteps (b : Pipeline) (steps : List Step) : Type 0 where
  pub all : b.over ≡ None → ArePossible b steps
  pub ended : (c : Stop) → b.over ≡ Some c → steps ≡ []
  pub can : AllByRecursion (MayMake b) steps

-- Turns that make a step, with what they do to a predictor
module _ {S : Type 0} (Predicts : S → ℕ → Instr → ℕ → S → Type 0) (Learns : S → ℕ → ℕ → S → Type 0) where
  -- From the unit U the turn makes this step
  pub record MadeAs (b : BenchFields S) (U : UpdateUnit) (step : Step) (answer : Turn) (later : BenchFields S)
      : Type 0 where
    pub made : Made Predicts Learns b U answer later
    pub is :
        step_made b.pipeline.program.now (sizes b.pipeline) U made.unit answer made.does ≡ Some (named step)

  -- A turn is made so from each unit that the bench stands for
  abbrev pub Makes : BenchFields S → Step → Turn → BenchFields S → Type 0
  Makes b step answer later =
      (U : UpdateUnit) → IsReached b.pipeline.program.now (sizes b.pipeline) U → StandsFor b.pipeline U →
      MadeAs b U step answer later
