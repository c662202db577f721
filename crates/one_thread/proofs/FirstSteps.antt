-- The first step that the fields permit is the first that is possible.
use Rattle.std.proofs.Common.{arith}
use Rattle.std.proofs.lemmas.Grind.{common_steps}
use Rattle.std.proofs.Common.{rules, ◌≡◌, ℕ, ◌++◌, true, false, cond, Bool, List, [], ◌∷◌, length, take, map, Option, Some, None, refl, sym, ap, ◌∙◌, subst, true≢false}
use Rattle.std.specs.Prelude.{slice_get}
use Rattle.instructions.specs.declared.instr.Instr.{Instr}
use Rattle.instructions.specs.declared.stop.Stop.{Stop}
use Rattle.instructions.specs.declared.stop.Stop.TheVariants.{BadPc}
use Rattle.inorder.specs.Moves.{IsReached}
use Rattle.inorder.specs.Unit.{UpdateUnit}
use Rattle.one_thread.specs.declared.bench.Turn.{Turn}
use Rattle.one_thread.specs.declared.bench.Turn.TheVariants.{Over}
use Rattle.one_thread.specs.declared.pipeline.Pipeline.{Pipeline}
use Rattle.one_thread.specs.declared.possible.Step.{Step}
use Rattle.one_thread.specs.declared.possible.Step.TheVariants.{Let, Load, Recover, Retire, Run}
use Rattle.one_thread.specs.declared.station.Station.{Station}
use Rattle.one_thread.specs.Changes.{NoneLoads, NoneRuns, registers_of}
use Rattle.one_thread.specs.Loads.{load_in}
use Rattle.one_thread.specs.Notes.{settled_at}
use Rattle.one_thread.specs.Order.{IsTurn}
use Rattle.one_thread.specs.Possible.{Possible, can_be_let, can_recover, each_that, possible, ToLet, ToLoad, ToRecover, ToRetire, ToRun}
use Rattle.one_thread.specs.StandsFor.{HasStopped, OverIs, StandsFor, StandsForSome, sizes}
use Rattle.one_thread.specs.Steps.{IsFirstStep, Makes, load_at, loads_of, named, retirement_of, run_at, runs_of}
use Rattle.one_thread.specs.Turns.{Before, BenchFields, Moves}
use Rattle.one_thread.specs.Window.{operands_in}
use Rattle.one_thread.proofs.CanLeave.{refused_settles}
use Rattle.one_thread.proofs.Firsts.{first_made, head_left}
use Rattle.one_thread.proofs.Known.{Knows, knows}
use Rattle.one_thread.proofs.Leaving.{nowhere_turn}
use Rattle.one_thread.proofs.Listed.{first_given, none_given}
use Rattle.one_thread.proofs.PlainTurns.{does_plain}
use Rattle.one_thread.proofs.PossibleUnit.{let_alike, listed_is, loads_alike_in, recovery_alike, retire_alike, runs_alike}

-- It is permitted

-- Where there is none, nobody is live

pub nobody_first : (b : Pipeline) → StandsForSome b → IsFirstStep b None → slice_get b.window 0 ≡ None
nobody_first b h f = go (slice_get b.window 0) refl
  where
    go : (o : Option Station) → slice_get b.window 0 ≡ o → o ≡ None
    go None e = refl
    go (Some w) e = absurd (true≢false (sym (refused_settles b h f w e) ∙ sym (ap settled_at e) ∙ f.4))

-- It begins the list of those that are possible

taken_head : (xs : List Step) (x : Step) → take 1 xs ≡ x ∷ [] → slice_get (map named xs) 0 ≡ Some (named x)
taken_head xs x e = grind (arith, common_steps)

module _ (b : Pipeline) (U : UpdateUnit) (none : b.over ≡ None) (r : IsReached b.program.now (sizes b) U) (s : StandsFor b U) where
  abbrev recovers : List Possible
  recovers = take 1 (each_that can_recover ToRecover U.tenants)

  abbrev lets : List Possible
  lets = cond (can_be_let b.program.now (sizes b) U.tenants) (ToLet ∷ []) []

  abbrev runs : List Possible
  runs = map named (runs_of (registers_of b) b.window (length b.window))

  abbrev loads : List Possible
  loads = map named (loads_of (registers_of b) b.committed.memory b.window (length b.window))

  abbrev retires : List Possible
  retires = map named (retirement_of (slice_get b.window 0))

  k : Knows b U
  k = knows b U none r s

  no_runs : NoneRuns b → runs ≡ []
  no_runs h = ap (map named) (none_given (operands_in (registers_of b)) run_at b.window (length b.window) h)

  no_loads : NoneLoads b → loads ≡ []
  no_loads h = ap (map named) (none_given (load_in (registers_of b) b.committed.memory) load_at b.window (length b.window) h)

  retiring : (x : Bool) → settled_at (slice_get b.window 0) ≡ x → retires ≡ cond x (ToRetire ∷ []) []
  retiring x e = grind (arith, common_steps)

  begins : (x : Possible) (a l m n z : List Possible) → a ≡ recovers → l ≡ lets → m ≡ runs → n ≡ loads → z ≡ retires → slice_get (a ++ l ++ m ++ n ++ z) 0 ≡ Some x →
      Some x ≡ slice_get (possible b.program.now (sizes b) U) 0
  begins x a l m n z ea el em en ez h =
      sym h
      ∙ ap (λ xs. slice_get xs 0) (listed_is b.program.now (sizes b) U a l m n z k.stops ea el (em ∙ runs_alike b U k s) (en ∙ loads_alike_in b U k s) (ez ∙ retire_alike b U none r s))

  pub first_begins : (step : Step) → IsFirstStep b (Some step) → Some (named step) ≡ slice_get (possible b.program.now (sizes b) U) 0
  first_begins (Recover m) f = begins (ToRecover m.at) (ToRecover m.at ∷ []) lets runs loads retires (recovery_alike b U (Some m) s f) refl refl refl refl refl
  first_begins (Let n) f = begins ToLet [] (ToLet ∷ []) runs loads retires (recovery_alike b U None s f.0) (let_alike b U (Some n) none r s f.1) refl refl refl refl
  first_begins (Run x) f =
      let first = taken_head _ (run_at x.at x.operands) (first_given (operands_in (registers_of b)) run_at b.window x.at x.operands (length b.window) f.2.inside f.2) in
      begins (ToRun x.at) [] [] runs loads retires (recovery_alike b U None s f.0) (let_alike b U None none r s f.1) refl refl refl
      (head_left (runs ++ loads) retires (ToRun x.at) (head_left runs loads (ToRun x.at) first))
  first_begins (Load x) f =
      let first = taken_head _ (load_at x.at x.value) (first_given (load_in (registers_of b) b.committed.memory) load_at b.window x.at x.value (length b.window) f.3.inside f.3) in
      begins (ToLoad x.at) [] [] [] loads retires (recovery_alike b U None s f.0) (let_alike b U None none r s f.1) (sym (no_runs f.2)) refl refl
      (head_left loads retires (ToLoad x.at) first)
  first_begins Retire f =
      begins ToRetire [] [] [] [] (ToRetire ∷ []) (recovery_alike b U None s f.0) (let_alike b U None none r s f.1) (sym (no_runs f.2)) (sym (no_loads f.3))
      (sym (retiring true f.4)) refl

  pub none_begins : IsFirstStep b None → None ≡ slice_get (possible b.program.now (sizes b) U) 0
  none_begins f =
      ap (λ xs. slice_get xs 0)
      (listed_is b.program.now (sizes b) U [] [] [] [] [] k.stops (recovery_alike b U None s f.0) (let_alike b U None none r s f.1)
      (sym (no_runs f.2) ∙ runs_alike b U k s) (sym (no_loads f.3) ∙ loads_alike_in b U k s) (sym (retiring false f.4) ∙ retire_alike b U none r s))

-- So the turn that makes it is the first

module _ {S : Type 0} (Predicts : S → ℕ → Instr → ℕ → S → Type 0) (Learns : S → ℕ → ℕ → S → Type 0) where
  pub first_turn : (b later : BenchFields S) (step : Step) (answer : Turn) → b.pipeline.over ≡ None → IsFirstStep b.pipeline (Some step) → Makes Predicts Learns b step answer later →
      IsTurn Predicts Learns b answer later
  first_turn b later step answer none first makes U r s = search (rules, first_made, first_begins)

  pub nothing_turn : (b : BenchFields S) → StandsForSome b.pipeline → b.pipeline.over ≡ None → IsFirstStep b.pipeline None → IsTurn Predicts Learns b (Over BadPc) b
  nothing_turn b h none first U r s =
      let m = nowhere_turn b.pipeline none h.room first.1 h.least (nobody_first b.pipeline h first) U r s in
      let P = b.pipeline.program.now in
      record {
        unit = m.unit;
        reached = m.reached;
        plain = does_plain P (sizes b.pipeline) U m.unit (Over BadPc) m.does;
        stands = m.stands;
        does = (m.does, first_made P (sizes b.pipeline) U m.unit (Over BadPc) m.does (m.is ∙ none_begins b.pipeline U none r s first));
        trains = refl;
      }

  pub before_turn : (b : BenchFields S) (c : Stop) → b.pipeline.over ≡ Some c → IsTurn Predicts Learns b (Over c) b
  before_turn b c e U r s =
      let o : HasStopped U.tenants c = subst (OverIs U.tenants) e s.over in
      record { unit = U; reached = r; plain = λ p. p; stands = s; does = (Before o refl, tt); trains = refl }

  -- Such a turn is made of legal steps
  pub turn_moves : (b later : BenchFields S) (answer : Turn) → IsTurn Predicts Learns b answer later → Moves b.pipeline answer later.pipeline
  turn_moves b later answer t U r s = let m = t U r s in record { unit = m.unit; reached = m.reached; stands = m.stands; does = m.does.0 }
