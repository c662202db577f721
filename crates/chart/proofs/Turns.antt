-- What was traced, turn by turn.
use Rattle.std.proofs.Common.{◌≡◌, ◌<◌, ◌≤◌, ◌-◌, ℕ, suc, Bool, true, false, List, [], ◌∷◌, Option, Some, IfSome, refl, sym, ap, ◌∙◌, subst, arith}
use Rattle.instructions.specs.Programs.{Program}
use Rattle.instructions.specs.Settings.{Settings}
use Rattle.instructions.specs.declared.end.End.{End}
use Rattle.instructions.specs.declared.end.Ending.TheVariants.{Stop as ByStop, Limit as ByLimit}
use Rattle.instructions.specs.declared.stop.Stop.{Stop}
use Rattle.inorder.specs.Committed.{committed}
use Rattle.inorder.specs.Machine.{start}
use Rattle.inorder.specs.Moves.{IsReached}
use Rattle.inorder.specs.Runs.{end_from, end_state}
use Rattle.inorder.specs.Unit.{Sizes, UpdateUnit, empty_unit}
use Rattle.one_thread.specs.declared.bench.Turn.{Turn}
use Rattle.one_thread.specs.declared.bench.Turn.TheVariants.{Halved, Let, Loaded, Over, Ran, Recovered, Retired}
use Rattle.one_thread.specs.declared.chooser.Order.{Order}
use Rattle.one_thread.specs.declared.pipeline.Pipeline.{Pipeline}
use Rattle.one_thread.specs.Changes.{run_from}
use Rattle.one_thread.specs.Choices.{IsTurnBy, Picks, TurnedBy, step_made}
use Rattle.one_thread.specs.Possible.{possible}
use Rattle.one_thread.specs.Seeds.{ChoosesBy, order_by}
use Rattle.one_thread.specs.StandsFor.{StandsFor, StandsForSome, sizes}
use Rattle.one_thread.specs.Turns.{BenchFields, Does, Falls, Moves, SizesStay, Trains}
use Rattle.one_thread.specs.Window.{window}
use Rattle.one_thread.proofs.ChosenTurns.{moves_by}
use Rattle.one_thread.proofs.Ends.{ends_over, ends_same, left, left_falls}
use Rattle.command_line.specs.Predictors.{IsChosen, LearnsAs, PredictsAs}
use Rattle.command_line.specs.declared.chosen.Chosen.{Chosen}
use Rattle.chart.specs.declared.event.Event.{Event}
use Rattle.chart.specs.declared.traced.Traced.{Traced}
use Rattle.chart.specs.Events.{closed, events, next_kept}
use Rattle.chart.specs.Rows.{SoFar, kept, start_kept}
use Rattle.chart.specs.Traced.{AreTurnsOf, HasTraced, HasTurned, IsDone, IsDue, IsLast, IsTraced, NoTurnIsDue, Passed, Plan, StandsAfter, count_behind, is_last, kept_behind, sizes_by, unit_behind}
use Rattle.chart.specs.Traced.{Ended, Full}

-- Sizes

sizes_same : (b later : Pipeline) → SizesStay b later → sizes later ≡ sizes b
sizes_same b later e =
    ap (λ n. record (sizes later) { ring = n }) e.ring
    ∙ ap (λ n. record (sizes later) { ring = b.ring; queue = n }) e.queue
    ∙ ap (λ n. record (sizes later) { ring = b.ring; queue = b.queue; first_tag = n }) e.first_tag

sizes_are : (b : Pipeline) (c : Settings) → b.ring ≡ c.ring → b.queue ≡ c.queue → b.first_tag ≡ c.first_tag → sizes b ≡ sizes_by c
sizes_are b c r q t =
    ap (λ n. record (sizes b) { ring = n }) r
    ∙ ap (λ n. record (sizes b) { ring = c.ring; queue = n }) q
    ∙ ap (λ n. record (sizes b) { ring = c.ring; queue = c.queue; first_tag = n }) t

-- Where a run goes on, and where it ends

-- a turn before which the count was below the limit does not pass it
count_next : (limit : ℕ) (b later : Pipeline) (answer : Turn) → b.committed.count < limit → Falls answer b later → later.committed.count ≤ limit
count_next limit b later (Recovered age) less falls = let same = ap (λ e. e.count) falls.0 in omega (arith, less, same)
count_next limit b later Let less falls = let same = ap (λ e. e.count) falls.0 in omega (arith, less, same)
count_next limit b later (Ran age) less falls = let same = ap (λ e. e.count) falls.0 in omega (arith, less, same)
count_next limit b later (Loaded age) less falls = let same = ap (λ e. e.count) falls.0 in omega (arith, less, same)
count_next limit b later Halved less falls = let same = ap (λ e. e.count) falls.0 in omega (arith, less, same)
count_next limit b later Retired less falls = omega (arith, less, falls)
count_next limit b later (Over c) less falls = let same = ap (λ e. e.count) falls in omega (arith, less, same)

-- no instruction is left where the limit is reached
at_limit : (limit : ℕ) (b : Pipeline) → limit ≤ b.committed.count → run_from b limit ≡ (ByLimit, b.committed)
at_limit limit b reached = let none : limit - b.committed.count ≡ 0 = omega (arith, reached) in ap (λ n. end_from b.program.now n b.committed) none

module _ (limit : ℕ) (b later : Pipeline) (unit : StandsForSome b) (same : SizesStay b later) (less : b.committed.count < limit) where
  run_of : run_from later limit ≡ end_from b.program.now (limit - later.committed.count) later.committed
  run_of = ap (λ p. end_from p.now (limit - later.committed.count) later.committed) same.program

  goes_on : (answer : Turn) → Moves b answer later → ((c : Stop) → answer ≡ Over c → ⊥) → Falls answer b later → run_from later limit ≡ run_from b limit
  goes_on answer moves more falls = run_of ∙ ends_same limit b later answer unit moves same less more falls

  is_over : (c : Stop) → Moves b (Over c) later → Falls (Over c) b later → run_from later limit ≡ (ByStop c, later.committed)
  is_over c moves falls =
      run_of ∙ ap (λ s. end_from b.program.now (limit - s.count) s) falls ∙ sym (ends_over limit b later c unit moves same less falls)

  -- a run ends after any turn as before it
  ends_so : (answer : Turn) → Moves b answer later → Falls answer b later → run_from later limit ≡ run_from b limit
  ends_so (Over c) moves falls = is_over c moves falls ∙ ends_over limit b later c unit moves same less falls
  ends_so (Recovered age) moves falls = goes_on (Recovered age) moves (λ c e. absurd (cc)) falls
  ends_so Let moves falls = goes_on Let moves (λ c e. absurd (cc)) falls
  ends_so (Ran age) moves falls = goes_on (Ran age) moves (λ c e. absurd (cc)) falls
  ends_so (Loaded age) moves falls = goes_on (Loaded age) moves (λ c e. absurd (cc)) falls
  ends_so Halved moves falls = goes_on Halved moves (λ c e. absurd (cc)) falls
  ends_so Retired moves falls = goes_on Retired moves (λ c e. absurd (cc)) falls

  last_is : (answer : Turn) (unit' : UpdateUnit) (ts : List Passed) → Moves b answer later → Falls answer b later →
      IsLast (is_last answer) later limit (record { answer = answer; unit = unit' } ∷ ts)
  last_is (Over c) V ts moves falls = (c, refl, is_over c moves falls)
  last_is (Recovered age) V ts moves falls = λ c e. absurd (cc)
  last_is Let V ts moves falls = λ c e. absurd (cc)
  last_is (Ran age) V ts moves falls = λ c e. absurd (cc)
  last_is (Loaded age) V ts moves falls = λ c e. absurd (cc)
  last_is Halved V ts moves falls = λ c e. absurd (cc)
  last_is Retired V ts moves falls = λ c e. absurd (cc)

-- One turn more

-- a turn from the unit U to the unit V is made of legal steps, and its step is the one that the order picks
abbrev DoesBy : Program → Sizes → UpdateUnit → UpdateUnit → Turn → (old new : Order) → Type 0
DoesBy P C U V answer old new = (does : Does P C U V answer) × Picks ChoosesBy (possible P C U) (step_made P C U V answer does) old new

-- the turn that was made, after those that were traced
record HasPassed (P : Program) (C : Sizes) (b later : BenchFields Chosen) (o o' : Order) (ts : List Passed) (answer : Turn) : Type 0 where
  pub unit : UpdateUnit
  pub reached : IsReached P C unit
  pub stands : StandsFor later.pipeline unit
  pub does : DoesBy P C (unit_behind ts) unit answer o o'
  pub trains : Trains PredictsAs LearnsAs P (unit_behind ts) unit answer b.predictor later.predictor

has_passed : (P : Program) (C : Sizes) (b later : BenchFields Chosen) (o o' : Order) (ts : List Passed) (answer : Turn) →
    b.pipeline.program.now ≡ P → sizes b.pipeline ≡ C → IsReached P C (unit_behind ts) → StandsFor b.pipeline (unit_behind ts) →
    IsTurnBy PredictsAs LearnsAs ChoosesBy b o answer later o' → HasPassed P C b later o o' ts answer
has_passed P C b later o o' ts answer program size r s turned = go (turned (unit_behind ts) before s)
  where
    before : IsReached b.pipeline.program.now (sizes b.pipeline) (unit_behind ts)
    before = subst (λ X. IsReached X (sizes b.pipeline) (unit_behind ts)) (sym program) (subst (λ D. IsReached P D (unit_behind ts)) (sym size) r)

    go : TurnedBy PredictsAs LearnsAs ChoosesBy b (unit_behind ts) o answer later o' → HasPassed P C b later o o' ts answer
    go m =
        let does : DoesBy b.pipeline.program.now (sizes b.pipeline) (unit_behind ts) m.made.unit answer o o' = (m.made.does, m.picks) in
        record {
          unit = m.made.unit;
          reached = subst (λ D. IsReached P D m.made.unit) size (subst (λ X. IsReached X (sizes b.pipeline) m.made.unit) program m.made.reached);
          stands = m.made.stands;
          does = subst (λ D. DoesBy P D (unit_behind ts) m.made.unit answer o o') size
              (subst (λ X. DoesBy X (sizes b.pipeline) (unit_behind ts) m.made.unit answer o o') program does);
          trains = subst (λ X. Trains PredictsAs LearnsAs X (unit_behind ts) m.made.unit answer b.predictor later.predictor) program m.made.trains;
        }

-- the facts that a turn leaves of a run
pub record HasMade (old new : Traced) (answer : Turn) : Type 0 where
  pub going : old.is_over ≡ false
  pub below : old.bench.pipeline.committed.count < old.limit
  pub some : StandsForSome old.bench.pipeline
  pub turned : IsTurnBy PredictsAs LearnsAs ChoosesBy old.bench old.order answer new.bench new.order
  pub same : SizesStay old.bench.pipeline new.bench.pipeline
  pub falls : Falls answer old.bench.pipeline new.bench.pipeline
  pub last : new.is_over ≡ is_last answer
  pub limit : new.limit ≡ old.limit
  pub rows : kept new.rows ≡ next_kept (kept old.rows) answer new.bench.pipeline.window

moves_of : (old new : Traced) (answer : Turn) → HasMade old new answer → Moves old.bench.pipeline answer new.bench.pipeline
moves_of old new answer m = moves_by PredictsAs LearnsAs ChoosesBy old.bench new.bench old.order new.order answer m.turned

module _ (p : Plan) (old new : Traced) (answer : Turn) (m : HasMade old new answer) (t : HasTraced p old) where
  abbrev P : Program
  P = p.program

  abbrev C : Sizes
  C = sizes_by p.run.config

  s : StandsAfter p t.turns old
  s = t.stood

  passed : HasPassed P C old.bench new.bench old.order new.order t.turns answer
  passed = has_passed P C old.bench new.bench old.order new.order t.turns answer s.program s.sizes s.reached s.stands m.turned

  abbrev turn : Passed
  turn = record { answer = answer; unit = passed.unit }

  program : new.bench.pipeline.program.now ≡ P
  program = ap (λ x. x.now) m.same.program ∙ s.program

  -- the count by the fields is that after the turns
  count_is : old.bench.pipeline.committed.count ≡ count_behind P t.turns
  count_is = ap (λ e. e.count) (s.stands.committed ∙ ap (λ X. committed X (unit_behind t.turns).tenants) s.program)

  is_due : IsDue P p.run.config.limit t.turns
  is_due = record {
    going = subst (λ o. IsLast o old.bench.pipeline old.limit t.turns) m.going s.last;
    below = subst (λ n. n < p.run.config.limit) count_is (subst (λ n. old.bench.pipeline.committed.count < n) s.limit m.below);
  }

  shows : new.bench.pipeline.window ≡ window P passed.unit.tenants
  shows = passed.stands.window ∙ ap (λ X. window X passed.unit.tenants) program

  are : AreTurnsOf p (turn ∷ t.turns) new.bench.predictor new.order (kept new.rows)
  are = record {
    first = t.are.first;
    chosen = t.are.chosen;
    are = (t.are.are, passed.does.0);
    due = (t.are.due, is_due);
    guessed = (old.bench.predictor, t.are.guessed, passed.trains);
    ordered = (old.order, t.are.ordered, passed.does.1);
    kept = m.rows ∙ ap (λ x. next_kept x answer new.bench.pipeline.window) t.are.kept ∙ ap (λ W. next_kept (kept_behind p.style P t.turns) answer W) shows;
  }

  stood : StandsAfter p (turn ∷ t.turns) new
  stood = let moves = moves_of old new answer m in record {
    program = program;
    sizes = sizes_same old.bench.pipeline new.bench.pipeline m.same ∙ s.sizes;
    limit = m.limit ∙ s.limit;
    reached = passed.reached;
    stands = passed.stands;
    within = subst (λ n. new.bench.pipeline.committed.count ≤ n) (sym m.limit) (count_next old.limit old.bench.pipeline new.bench.pipeline answer m.below m.falls);
    last = subst (λ o. IsLast o new.bench.pipeline new.limit (turn ∷ t.turns)) (sym m.last) (subst (λ n. IsLast (is_last answer) new.bench.pipeline n (turn ∷ t.turns))
        (sym m.limit) (last_is old.limit old.bench.pipeline new.bench.pipeline m.some m.same m.below answer passed.unit t.turns moves m.falls));
    ends = ap (run_from new.bench.pipeline) m.limit
        ∙ ends_so old.limit old.bench.pipeline new.bench.pipeline m.some m.same m.below answer moves m.falls ∙ s.ends;
  }

  pub has_turned : (all : List Event) → all ≡ events (kept old.rows) answer new.bench.pipeline.window → HasTurned p old new t all
  has_turned all is = record {
    going = m.going;
    below = m.below;
    falls = m.falls;
    last = m.last;
    limit = m.limit;
    traced = record { turns = turn ∷ t.turns; are = are; stood = stood };
    turn = turn;
    more = refl;
    are = is ∙ ap (λ x. events x answer new.bench.pipeline.window) t.are.kept ∙ ap (events (kept_behind p.style P t.turns) answer) shows;
  }

-- how much a run has still to do: it falls with each turn
abbrev pub ahead_by : Bool → (limit : ℕ) → Pipeline → ℕ
ahead_by true limit b = 0
ahead_by false limit b = suc (left limit b)

abbrev pub ahead : Traced → ℕ
ahead t = ahead_by t.is_over t.limit t.bench.pipeline

falls_by : (limit : ℕ) (b later : Pipeline) (answer : Turn) → b.committed.count < limit → Falls answer b later → ahead_by (is_last answer) limit later < suc (left limit b)
falls_by limit b later (Over c) less f = omega arith
falls_by limit b later (Recovered age) less f = let n = left_falls limit b later (Recovered age) less (λ c e. absurd (cc)) f in omega (arith, n)
falls_by limit b later Let less f = let n = left_falls limit b later Let less (λ c e. absurd (cc)) f in omega (arith, n)
falls_by limit b later (Ran age) less f = let n = left_falls limit b later (Ran age) less (λ c e. absurd (cc)) f in omega (arith, n)
falls_by limit b later (Loaded age) less f = let n = left_falls limit b later (Loaded age) less (λ c e. absurd (cc)) f in omega (arith, n)
falls_by limit b later Halved less f = let n = left_falls limit b later Halved less (λ c e. absurd (cc)) f in omega (arith, n)
falls_by limit b later Retired less f = let n = left_falls limit b later Retired less (λ c e. absurd (cc)) f in omega (arith, n)

pub ahead_falls : (p : Plan) (old new : Traced) (before : HasTraced p old) (all : List Event) → HasTurned p old new before all → ahead new < ahead old
ahead_falls p old new before all m =
    let answer = m.turn.answer in
    subst (λ o. ahead new < ahead_by o old.limit old.bench.pipeline) (sym m.going)
    (subst (λ o. ahead_by o new.limit new.bench.pipeline < suc (left old.limit old.bench.pipeline)) (sym m.last)
    (subst (λ n. ahead_by (is_last answer) n new.bench.pipeline < suc (left old.limit old.bench.pipeline)) (sym m.limit)
    (falls_by old.limit old.bench.pipeline new.bench.pipeline answer m.below m.falls)))

-- what holds of what there is
pub of_some : {V : Type 0} (Q : V → Type 0) (o : Option V) (x : V) → o ≡ Some x → IfSome o Q → Q x
of_some Q o x e h = subst (λ y. IfSome y Q) e h

-- Whole runs

pub has_begun : (p : Plan) (t : Traced) (first : Chosen) → IsChosen p.run.predictor first → t.bench.pipeline.program.now ≡ p.program →
    t.bench.pipeline.ring ≡ p.run.config.ring → t.bench.pipeline.queue ≡ p.run.config.queue → t.bench.pipeline.first_tag ≡ p.run.config.first_tag →
    t.bench.pipeline.committed ≡ start p.program → StandsFor t.bench.pipeline empty_unit → t.bench.predictor ≡ first → t.order ≡ order_by p.run.seed →
    kept t.rows ≡ start_kept p.style → t.limit ≡ p.run.config.limit → t.is_over ≡ false → HasTraced p t
has_begun p t first chosen program r q tag starts fresh untold unasked none limit going = record {
  turns = [];
  are = record { first = first; chosen = chosen; are = tt; due = tt; guessed = untold; ordered = unasked; kept = none };
  stood = record {
    program = program;
    sizes = sizes_are t.bench.pipeline p.run.config r q tag;
    limit = limit;
    reached = record { history = []; allowed = tt; is = refl; never = refl };
    stands = fresh;
    within = let zero : t.bench.pipeline.committed.count ≡ 0 = ap (λ e. e.count) fresh.committed in omega (arith, zero);
    last = subst (λ o. IsLast o t.bench.pipeline t.limit []) (sym going) (λ c e. e);
    ends = ap (run_from t.bench.pipeline) limit ∙ ap (λ e. end_from t.bench.pipeline.program.now (p.run.config.limit - e.count) e) starts
        ∙ ap (λ X. end_from X (p.run.config.limit - 0) (start p.program)) program
        ∙ let all : p.run.config.limit - 0 ≡ p.run.config.limit = omega arith in ap (λ n. end_from p.program n (start p.program)) all;
  };
}
