-- A run that is traced, turn by turn.
use Rattle.std.specs.Prelude.{⊤, ◌≡◌, ◌≤◌, ◌<◌, ℕ, Bool, true, false, List, [], ◌∷◌}
use Rattle.instructions.specs.Programs.{Program}
use Rattle.instructions.specs.Settings.{Settings}
use Rattle.instructions.specs.declared.end.Ending.{Ending}
use Rattle.instructions.specs.declared.end.Ending.TheVariants.{Stop as ByStop, Limit as ByLimit}
use Rattle.instructions.specs.declared.stop.Stop.{Stop}
use Rattle.inorder.specs.Committed.{committed}
use Rattle.inorder.specs.Machine.{State}
use Rattle.inorder.specs.Moves.{IsReached}
use Rattle.inorder.specs.Runs.{end_of}
use Rattle.inorder.specs.Unit.{Sizes, UpdateUnit, empty_unit}
use Rattle.one_thread.specs.declared.bench.Turn.{Turn}
use Rattle.one_thread.specs.declared.bench.Turn.TheVariants.{Over}
use Rattle.one_thread.specs.declared.chooser.Order.{Order}
use Rattle.one_thread.specs.declared.pipeline.Pipeline.{Pipeline}
use Rattle.one_thread.specs.Changes.{run_from}
use Rattle.one_thread.specs.Choices.{Picks, step_made}
use Rattle.one_thread.specs.Possible.{possible}
use Rattle.one_thread.specs.Seeds.{ChoosesBy, order_by}
use Rattle.one_thread.specs.StandsFor.{StandsFor, sizes}
use Rattle.one_thread.specs.Turns.{Does, Falls, Trains}
use Rattle.one_thread.specs.Window.{window}
use Rattle.command_line.specs.Predictors.{IsChosen, LearnsAs, PredictsAs}
use Rattle.command_line.specs.declared.chosen.Chosen.{Chosen}
use Rattle.command_line.specs.declared.request.RunRequest.{RunRequest}
use Rattle.chart.specs.declared.event.Event.{Event}
use Rattle.chart.specs.declared.lines.Style.{Style}
use Rattle.chart.specs.declared.traced.Traced.{Traced}
use Rattle.chart.specs.Events.{closed, events, next_kept}
use Rattle.chart.specs.Rows.{SoFar, kept, start_kept}

-- A turn that was made: its answer, and the unit after it
pub record Passed : Type 0 where
  pub answer : Turn
  pub unit : UpdateUnit

-- The unit after these turns, the last one first
abbrev pub unit_behind : List Passed → UpdateUnit
unit_behind [] = empty_unit
unit_behind (t ∷ ts) = t.unit

-- Each is a turn from the unit that the turns before it have left: legal steps
abbrev pub AreTurns : Program → Sizes → List Passed → Type 0
AreTurns P C [] = ⊤
AreTurns P C (t ∷ ts) = AreTurns P C ts × Does P C (unit_behind ts) t.unit t.answer

-- The count of instructions after these turns
abbrev pub count_behind : Program → List Passed → ℕ
count_behind P ts = (committed P (unit_behind ts).tenants).count

-- The last of these turns says that the unit has ended with this code
abbrev pub LastIsOver : List Passed → Stop → Type 0
LastIsOver [] code = ⊥
LastIsOver (t ∷ ts) code = t.answer ≡ Over code

-- A further turn is due: the unit has not ended, and the count is below the limit
pub record IsDue (P : Program) (limit : ℕ) (ts : List Passed) : Type 0 where
  pub going : (code : Stop) → LastIsOver ts code → ⊥
  pub below : count_behind P ts < limit

-- Each of these turns was due after those before it
abbrev pub AreDue : Program → (limit : ℕ) → List Passed → Type 0
AreDue P limit [] = ⊤
AreDue P limit (t ∷ ts) = AreDue P limit ts × IsDue P limit ts

-- After these turns none is due: the unit has ended so, or its count is the limit
abbrev pub NoTurnIsDue : Program → (limit : ℕ) → List Passed → Ending → Type 0
NoTurnIsDue P limit ts (ByStop code) = LastIsOver ts code
NoTurnIsDue P limit ts ByLimit = count_behind P ts ≡ limit

-- The rows, lines and counts after these turns
abbrev pub kept_behind : Style → Program → List Passed → SoFar
kept_behind s P [] = start_kept s
kept_behind s P (t ∷ ts) = next_kept (kept_behind s P ts) t.answer (window P t.unit.tenants)

-- The events of a turn after others
abbrev pub events_at : Style → Program → List Passed → Passed → List Event
events_at s P ts t = events (kept_behind s P ts) t.answer (window P t.unit.tenants)

-- The predictor was this one before these turns, and is that one after them: at each let it was told of who has left,
-- and then asked
abbrev pub HasGuessed : Program → (first : Chosen) → List Passed → (last : Chosen) → Type 0
HasGuessed P first [] last = last ≡ first
HasGuessed P first (t ∷ ts) last =
    (before : Chosen) × HasGuessed P first ts before
    × Trains PredictsAs LearnsAs P (unit_behind ts) t.unit t.answer before last

-- The order was this one before these turns, and is that one after them: each turn makes the step that it picks
abbrev pub AreOrdered : (P : Program) (C : Sizes) (first : Order) (ts : List Passed) → AreTurns P C ts → (last : Order) → Type 0
AreOrdered P C first [] are last = last ≡ first
AreOrdered P C first (t ∷ ts) are last =
    (before : Order) × AreOrdered P C first ts are.0 before
    × Picks ChoosesBy (possible P C (unit_behind ts)) (step_made P C (unit_behind ts) t.unit t.answer are.1) before last

-- The sizes that a configuration gives a unit
abbrev pub sizes_by : Settings → Sizes
sizes_by c = record { ring = c.ring; queue = c.queue; first_tag = c.first_tag }

-- The run that is asked for, its program, and the lines that are drawn of it
pub record Plan : Type 0 where
  pub run : RunRequest
  pub program : Program
  pub style : Style

-- A plan by its parts
abbrev pub plan : RunRequest → Program → Style → Plan
plan run program style = record { run = run; program = program; style = style }

-- The turns of a run so far: legal ones, each of which was due, by the guesses of the predictor that is asked for, in
-- the order of the seed, and with these rows and lines after them
pub record AreTurnsOf (p : Plan) (turns : List Passed) (predictor : Chosen) (order : Order) (k : SoFar) : Type 0 where
  pub first : Chosen
  pub chosen : IsChosen p.run.predictor first
  pub are : AreTurns p.program (sizes_by p.run.config) turns
  pub due : AreDue p.program p.run.config.limit turns
  pub guessed : HasGuessed p.program first turns predictor
  pub ordered : AreOrdered p.program (sizes_by p.run.config) (order_by p.run.seed) turns are order
  pub kept : k ≡ kept_behind p.style p.program turns

-- The last of these turns has ended the run, or has not
abbrev pub IsLast : (over : Bool) → Pipeline → (limit : ℕ) → List Passed → Type 0
IsLast true b limit ts = (code : Stop) × LastIsOver ts code × (run_from b limit ≡ (ByStop code, b.committed))
IsLast false b limit ts = (code : Stop) → LastIsOver ts code → ⊥

-- The bench stands for the unit after these turns, and goes on as the run that is asked for
pub record StandsAfter (p : Plan) (turns : List Passed) (t : Traced) : Type 0 where
  pub program : t.bench.pipeline.program.now ≡ p.program
  pub sizes : sizes t.bench.pipeline ≡ sizes_by p.run.config
  pub limit : t.limit ≡ p.run.config.limit
  pub reached : IsReached p.program (sizes_by p.run.config) (unit_behind turns)
  pub stands : StandsFor t.bench.pipeline (unit_behind turns)
  pub within : t.bench.pipeline.committed.count ≤ t.limit
  pub last : IsLast t.is_over t.bench.pipeline t.limit turns
  pub ends : run_from t.bench.pipeline t.limit ≡ end_of p.program p.run.config.limit

-- The run that is asked for was traced so far
pub record HasTraced (p : Plan) (t : Traced) : Type 0 where
  pub turns : List Passed
  pub are : AreTurnsOf p turns t.bench.predictor t.order (kept t.rows)
  pub stood : StandsAfter p turns t

-- A turn that ends the run
abbrev pub is_last : Turn → Bool
is_last (Over code) = true
is_last _ = false

-- One more turn was made, which was due, with these events
pub record HasTurned (p : Plan) (old new : Traced) (before : HasTraced p old) (all : List Event) : Type 0 where
  pub traced : HasTraced p new
  pub turn : Passed
  pub more : traced.turns ≡ turn ∷ before.turns
  pub are : all ≡ events_at p.style p.program before.turns turn
  pub going : old.is_over ≡ false
  pub below : old.bench.pipeline.committed.count < old.limit
  pub falls : Falls turn.answer old.bench.pipeline new.bench.pipeline
  pub last : new.is_over ≡ is_last turn.answer
  pub limit : new.limit ≡ old.limit

-- No turn is due, and none was made
pub data IsDone (old new : Traced) : Type 0 where
  Ended : old.is_over ≡ true → new ≡ old → IsDone old new
  Full : old.limit ≤ old.bench.pipeline.committed.count → new ≡ old → IsDone old new

-- The run that is asked for was traced to its end: it ends as the in-order machine does, and the rows and lines are those
-- after all its turns
pub record IsTraced (p : Plan) (end : Ending × State) (k : SoFar) : Type 0 where
  pub turns : List Passed
  pub predictor : Chosen
  pub order : Order
  pub open_rows : SoFar
  pub are : AreTurnsOf p turns predictor order open_rows
  pub over : NoTurnIsDue p.program p.run.config.limit turns end.0
  pub ends : committed p.program (unit_behind turns).tenants ≡ end.1
  pub is : end ≡ end_of p.program p.run.config.limit
  pub closes : k ≡ closed open_rows
