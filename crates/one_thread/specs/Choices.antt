-- Turns by choice: one of the possible steps is made, that which a chooser names.
use Rattle.std.specs.Prelude.{◌≡◌, ◌%◌, ◌<◌, ◌≤◌, ℕ, zero, suc, List, [], length, Option, Some, None, slice_get}
use Rattle.instructions.specs.Programs.{Program}
use Rattle.instructions.specs.declared.end.Ending.{Ending}
use Rattle.instructions.specs.declared.end.Ending.TheVariants.{Limit, Stop as ByStop}
use Rattle.instructions.specs.declared.instr.Instr.{Instr}
use Rattle.instructions.specs.declared.stop.Stop.{Stop}
use Rattle.inorder.specs.Machine.{State}
use Rattle.inorder.specs.Moves.{IsReached}
use Rattle.inorder.specs.Unit.{Sizes, UpdateUnit}
use Rattle.one_thread.specs.declared.bench.Turn.{Turn}
use Rattle.one_thread.specs.declared.bench.Turn.TheVariants.{Halved, Let, Loaded, Over, Ran, Recovered, Retired}
use Rattle.one_thread.specs.Possible.{Possible, ToLet, ToLoad, ToRecover, ToRetire, ToRun, possible}
use Rattle.one_thread.specs.StandsFor.{StandsFor, sizes}
use Rattle.one_thread.specs.Turns.{Before, BenchFields, Does, EndsHere, Made, Now, Nowhere, SizesStay}

-- The step that comes with the end of a unit: the retirement of a stop, if there is one
abbrev pub step_at_end : (P : Program) (C : Sizes) (U V : UpdateUnit) (c : Stop) → EndsHere P C U V c →
    Option Possible
step_at_end P C U V c (Before stopped same) = None
step_at_end P C U V c (Now retires stopped) = Some ToRetire
step_at_end P C U V c (Nowhere bad nowhere same) = None

-- The step that a turn makes, by what it does
abbrev pub step_made : (P : Program) (C : Sizes) (U V : UpdateUnit) (answer : Turn) → Does P C U V answer →
    Option Possible
step_made P C U V (Recovered age) does = Some (ToRecover age)
step_made P C U V Let does = Some ToLet
step_made P C U V (Ran age) does = Some (ToRun age)
step_made P C U V (Loaded age) does = Some (ToLoad age)
step_made P C U V Halved does = Some ToRetire
step_made P C U V Retired does = Some ToRetire
step_made P C U V (Over c) does = step_at_end P C U V c does

-- A chooser, which was this one and is that one now, picks a step by what it says of being asked: where some are
-- possible it is asked once, by these, and its answer names one of them, modulo how many there are
pub data Picks {Q : Type 0} (Chooses : Q → List Possible → ℕ → Q → Type 0) (steps : List Possible) (step : Option Possible)
    (old new : Q) : Type 0 where
  Nothing : steps ≡ [] → step ≡ None → new ≡ old → Picks Chooses steps step old new
  OneOf : (answer : ℕ) → Chooses old steps answer new → 0 < length steps →
      step ≡ slice_get steps (answer % length steps) → Picks Chooses steps step old new

-- Turns by the choices of a chooser
module _ {S Q : Type 0} (Predicts : S → ℕ → Instr → ℕ → S → Type 0) (Learns : S → ℕ → ℕ → S → Type 0)
    (Chooses : Q → List Possible → ℕ → Q → Type 0) where
  -- From the unit U a turn makes the step that the chooser picks of those that are possible
  pub record TurnedBy (b : BenchFields S) (U : UpdateUnit) (q : Q) (answer : Turn) (later : BenchFields S)
      (r : Q) : Type 0 where
    pub made : Made Predicts Learns b U answer later
    pub picks :
        Picks Chooses (possible b.pipeline.program.now (sizes b.pipeline) U)
        (step_made b.pipeline.program.now (sizes b.pipeline) U made.unit answer made.does) q r

  -- A turn is made so from each unit that the bench stands for
  abbrev pub IsTurnBy : BenchFields S → Q → Turn → BenchFields S → Q → Type 0
  IsTurnBy b q answer later r =
      (U : UpdateUnit) → IsReached b.pipeline.program.now (sizes b.pipeline) U → StandsFor b.pipeline U →
      TurnedBy b U q answer later r

  -- A turn by choice below a limit. The program and the sizes stay, so a unit that is reached stands behind the later
  -- bench if one stands behind the bench before
  pub record IsTurnBelow (limit : ℕ) (b : BenchFields S) (q : Q) (answer : Turn) (later : BenchFields S)
      (r : Q) : Type 0 where
    pub below : b.pipeline.committed.count < limit
    pub turn : IsTurnBy b q answer later r
    pub same : SizesStay b.pipeline later.pipeline

  -- n turns by choice, each below the limit, lead from one bench and chooser to another
  abbrev pub AreTurnsBy : (turns limit : ℕ) → BenchFields S → Q → BenchFields S → Q → Type 0
  AreTurnsBy zero limit b q later r = (later ≡ b) × (r ≡ q)
  AreTurnsBy (suc k) limit b q later r =
      (m : BenchFields S) × (p : Q) × (answer : Turn) × AreTurnsBy k limit b q m p ×
      IsTurnBelow limit m p answer later r

  -- A run by choice ends here: its count has reached the limit, or a last turn below the limit answers Over
  abbrev pub EndsBy : (limit : ℕ) → BenchFields S → Q → Ending → BenchFields S → Q → Type 0
  EndsBy limit b q Limit later r = (limit ≤ b.pipeline.committed.count) × (later ≡ b) × (r ≡ q)
  EndsBy limit b q (ByStop c) later r = IsTurnBelow limit b q (Over c) later r

  -- A run by choice has come to this ending and state: turns by choice, each below the limit, lead to where it ends
  pub record HasRunBy (limit : ℕ) (b : BenchFields S) (q r : Q) (end : Ending × State) : Type 0 where
    pub turns : ℕ
    pub before : BenchFields S
    pub asked : Q
    pub are : AreTurnsBy turns limit b q before asked
    pub later : BenchFields S
    pub ends : EndsBy limit before asked end.0 later r
    pub state : end.1 ≡ later.pipeline.committed
