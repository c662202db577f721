-- Turns by choice.
use Rattle.std.proofs.lemmas.Grind.{common_steps}
use Rattle.std.proofs.Common.{◌≡◌, ℕ, ◌%◌, ◌<◌, ◌++◌, true, false, Bool, cond, List, [], ◌∷◌, length, Some, None, refl, sym, ap, ◌∙◌, subst, arith, eqb}
use Rattle.std.specs.Prelude.{option_map, slice_get}
use Rattle.std.proofs.lemmas.List.{length-map}
use Rattle.std.proofs.lemmas.Option.{slice_get-map}
use Rattle.instructions.specs.declared.instr.Instr.{Instr}
use Rattle.instructions.specs.declared.stop.Stop.{Stop}
use Rattle.instructions.specs.declared.stop.Stop.TheVariants.{BadPc}
use Rattle.one_thread.specs.declared.bench.Turn.{Turn}
use Rattle.one_thread.specs.declared.bench.Turn.TheVariants.{Over}
use Rattle.one_thread.specs.declared.pipeline.Pipeline.{Pipeline}
use Rattle.one_thread.specs.declared.possible.Step.{Step}
use Rattle.one_thread.specs.Choices.{IsTurnBy, Nothing, OneOf}
use Rattle.one_thread.specs.Possible.{Possible, possible, steps_of}
use Rattle.one_thread.specs.StandsFor.{HasStopped, OverIs, StandsForSome, sizes}
use Rattle.one_thread.specs.Steps.{ArePossible, IsFirstStep, Makes, named, names}
use Rattle.one_thread.specs.Turns.{Before, BenchFields, Moves}
use Rattle.one_thread.proofs.FirstSteps.{nobody_first}
use Rattle.one_thread.proofs.Leaving.{nowhere_turn}
use Rattle.one_thread.proofs.Listed.{given_none}
use Rattle.one_thread.proofs.PlainTurns.{does_plain}
use Rattle.one_thread.proofs.PossibleUnit.{one_stopped, possible_is}

-- The list that is chosen from

pub none_listed : (steps : List Step) (b : Bool) → b ≡ eqb (length steps) 0 → b ≡ true → steps ≡ []
none_listed steps b e t = grind (arith, common_steps)

pub some_listed : (steps : List Step) (b : Bool) → b ≡ eqb (length steps) 0 → b ≡ false → 0 < length steps
some_listed steps b e f = grind (arith, common_steps)

-- Where none is listed there is no first

first_empty : (xs ys : List Step) → xs ++ ys ≡ [] → xs ≡ []
first_empty [] ys e = refl
first_empty (x ∷ xs) ys e = absurd (cc e)

second_empty : (xs ys : List Step) → xs ++ ys ≡ [] → ys ≡ []
second_empty [] ys e = e
second_empty (x ∷ xs) ys e = absurd (cc e)

pub none_possible : (b : Pipeline) → ArePossible b [] → IsFirstStep b None
none_possible b p = grind (arith, common_steps, first_empty, second_empty, given_none)

module _ {S Q : Type 0} (Predicts : S → ℕ → Instr → ℕ → S → Type 0) (Learns : S → ℕ → ℕ → S → Type 0) (Chooses : Q → List Possible → ℕ → Q → Type 0) where
  -- The unit has ended before
  pub before_by : (b : BenchFields S) (q : Q) (c : Stop) → b.pipeline.over ≡ Some c → IsTurnBy Predicts Learns Chooses b q (Over c) b q
  before_by b q c e U r s =
      let o : HasStopped U.tenants c = subst (OverIs U.tenants) e s.over in
      record {
        made = record { unit = U; reached = r; plain = λ p. p; stands = s; does = Before o refl; trains = refl };
        picks = Nothing (ap (λ x. cond x [] (steps_of b.pipeline.program.now (sizes b.pipeline) U.tenants)) (one_stopped U.tenants c o)) refl refl;
      }

  -- Nothing is possible
  pub nothing_by : (b : BenchFields S) (q : Q) → StandsForSome b.pipeline → b.pipeline.over ≡ None → ArePossible b.pipeline [] →
      IsTurnBy Predicts Learns Chooses b q (Over BadPc) b q
  nothing_by b q h none p U r s =
      let first = none_possible b.pipeline p in
      let m = nowhere_turn b.pipeline none h.room first.1 h.least (nobody_first b.pipeline h first) U r s in
      record {
        made = record {
          unit = m.unit;
          reached = m.reached;
          plain = does_plain b.pipeline.program.now (sizes b.pipeline) U m.unit (Over BadPc) m.does;
          stands = m.stands;
          does = m.does;
          trains = refl;
        };
        picks = Nothing (sym (possible_is b.pipeline U [] none r s p)) m.is refl;
      }

  -- One of them was chosen
  pub chosen_by : (b later : BenchFields S) (q r : Q) (steps : List Step) (step : Step) (choice : ℕ) (turn : Turn) → b.pipeline.over ≡ None →
      ArePossible b.pipeline steps → Chooses q (names steps) choice r → 0 < length steps → slice_get steps (choice % length steps) ≡ Some step →
      Makes Predicts Learns b step turn later → IsTurnBy Predicts Learns Chooses b q turn later r
  chosen_by b later q r steps step choice turn none p chosen some at makes U ru s =
      let m = makes U ru s in
      let all = possible_is b.pipeline U steps none ru s p in
      let long : length steps ≡ length (possible b.pipeline.program.now (sizes b.pipeline) U) = sym (length-map steps named) ∙ ap length all in
      record {
        made = m.made;
        picks = OneOf choice (subst (λ xs. Chooses q xs choice r) all chosen) (subst (λ n. 0 < n) long some)
            (m.is ∙ ap (option_map named) (sym at) ∙ sym (slice_get-map named steps (choice % length steps)) ∙ ap (λ l. slice_get l (choice % length steps)) all
            ∙ ap (λ n. slice_get (possible b.pipeline.program.now (sizes b.pipeline) U) (choice % n)) long);
      }

  -- Such a turn is made of legal steps
  pub moves_by : (b later : BenchFields S) (q r : Q) (turn : Turn) → IsTurnBy Predicts Learns Chooses b q turn later r → Moves b.pipeline turn later.pipeline
  moves_by b later q r turn t U ru s = let m = (t U ru s).made in record { unit = m.unit; reached = m.reached; stands = m.stands; does = m.does }
