-- The turns, with what they do to the predictor.
use Rattle.std.proofs.lemmas.Grind.{common_steps}
use Rattle.std.proofs.Common.{◌≡◌, ℕ, ◌+◌, ◌-◌, ◌%◌, ◌^◌, ◌<◌, [], ◌∷◌, ◌++◌, length, Option, Some, None, refl, sym, ap, ◌∙◌, subst, arith, mod-lt}
use Rattle.std.specs.Prelude.{IfSome, slice_get, slice_set}
use Rattle.instructions.specs.Guesses.{Guesses, IsAsked}
use Rattle.instructions.specs.Instruction.{fixed_next}
use Rattle.instructions.specs.Programs.{Program}
use Rattle.instructions.specs.declared.instr.Instr.{Instr}
use Rattle.inorder.specs.Unit.{Sizes, UpdateUnit}
use Rattle.inorder.specs.Moves.{IsReached}
use Rattle.one_thread.specs.declared.bench.Turn.{Turn}
use Rattle.one_thread.specs.declared.bench.Turn.TheVariants.{Let}
use Rattle.one_thread.specs.declared.dispatch.Fetched.{Fetched}
use Rattle.instructions.specs.declared.guessing.Leaver.{Leaver}
use Rattle.one_thread.specs.declared.pipeline.Pipeline.{Pipeline}
use Rattle.one_thread.specs.Stages.{CanLet}
use Rattle.one_thread.specs.StandsFor.{StandsFor, StandsForSome, sizes}
use Rattle.one_thread.specs.Turns.{BenchFields, Does, Falls, Moves, SizesStay, Trains, rank}
use Rattle.one_thread.specs.Choices.{step_made}
use Rattle.one_thread.specs.Possible.{Possible, ToLet}
use Rattle.one_thread.specs.Steps.{Makes, named}
use Rattle.one_thread.specs.declared.possible.Step.{Step}
use Rattle.one_thread.specs.declared.possible.Step.TheVariants.{Let as LetStep}
use Rattle.one_thread.proofs.Moved.{MovesAs}
use Rattle.one_thread.proofs.PlainTurns.{does_plain}
use Rattle.one_thread.specs.Window.{let_at}
use Rattle.one_thread.proofs.Start.{Comes, unit_next}
use Rattle.one_thread.proofs.LetTurns.{LetTurned, let_turn}
use Rattle.one_thread.proofs.Ranks.{let_falls}

-- A turn that makes another step than a let leaves the predictor

module _ {S : Type 0} (Predicts : S → ℕ → Instr → ℕ → S → Type 0) (Learns : S → ℕ → ℕ → S → Type 0) where
  no_let_trains : (P : Program) (C : Sizes) (U V : UpdateUnit) (answer : Turn) (does : Does P C U V answer) (s : Possible) (old new : S) →
      step_made P C U V answer does ≡ Some s → (ToLet ≡ s → ⊥) → new ≡ old → Trains Predicts Learns P U V answer old new
  no_let_trains P C U V answer does s old new is other e = grind (arith, common_steps)

  pub plain_makes : (b later : BenchFields S) (asked step : Step) (answer : Turn) → asked ≡ step → (ToLet ≡ named step → ⊥) →
      MovesAs b.pipeline (Some (named step)) answer later.pipeline → later.predictor ≡ b.predictor → Makes Predicts Learns b asked answer later
  plain_makes b later asked step answer is other m e U r s =
      let x = m U r s in
      record {
        made = record {
          unit = x.unit;
          reached = x.reached;
          plain = does_plain b.pipeline.program.now (sizes b.pipeline) U x.unit answer x.does;
          stands = x.stands;
          does = x.does;
          trains = no_let_trains b.pipeline.program.now (sizes b.pipeline) U x.unit answer x.does (named step) b.predictor later.predictor x.is other e;
        };
        is = x.is ∙ ap (λ p. Some (named p)) (sym is);
      }

  -- a guess where the next pc is fixed is that
  pub guess_fixed : (f : Option ℕ) (pc : ℕ) (i : Instr) (guess : ℕ) (old new : S) → IsAsked Predicts f pc i guess old new → IfSome f (λ x. guess ≡ x)
  guess_fixed f pc i guess old new a = grind (arith, common_steps)

  let_trains : (b later : BenchFields S) (f : Fetched) (guess : ℕ) (left : Option Leaver) (U : UpdateUnit) (x : LetTurned b.pipeline U f guess later.pipeline) →
      slice_get b.pipeline.leavers ((b.pipeline.oldest + length b.pipeline.window) % b.pipeline.ring) ≡ Some left →
      Guesses Predicts Learns left f.instr f.half f.pc guess b.predictor later.predictor →
      Trains Predicts Learns b.pipeline.program.now U x.unit Let b.predictor later.predictor
  let_trains b later f guess left U x el g = grind (arith, common_steps)

  -- the let trains as it guesses
  pub let_turned : (b later : BenchFields S) (f : Fetched) (guess : ℕ) (left : Option Leaver) →
      slice_get b.pipeline.leavers ((b.pipeline.oldest + length b.pipeline.window) % b.pipeline.ring) ≡ Some left →
      Guesses Predicts Learns left f.instr f.half f.pc guess b.predictor later.predictor → ((U : UpdateUnit) →
      IsReached b.pipeline.program.now (sizes b.pipeline) U → StandsFor b.pipeline U →
      LetTurned b.pipeline U f guess later.pipeline) → Makes Predicts Learns b (LetStep f) Let later
  let_turned b later f guess left el g h U r s =
      let x = h U r s in
      record {
        made = record {
          unit = x.unit;
          reached = x.reached;
          plain = does_plain b.pipeline.program.now (sizes b.pipeline) U x.unit Let x.does;
          stands = x.stands;
          does = x.does;
          trains = let_trains b later f guess left U x el g;
        };
        is = refl;
      }

-- Let

pub let_shows : (b later : Pipeline) (f : Fetched) (guess : ℕ) → StandsForSome b → b.over ≡ None →
    CanLet b.program.now b.ring b.queue b.committed.pc b.low b.window f → guess < 2 ^ 32 →
    IfSome (fixed_next f.instr f.half f.pc) (λ x. guess ≡ x) →
    later.window ≡ b.window ++ let_at f.instr f.half f.pc guess ∷ [] →
    later.leavers ≡ slice_set b.leavers ((b.oldest + length b.window) % b.ring) None →
    later ≡ record b { window = later.window; leavers = later.leavers } → Comes b Let later
let_shows b later f guess h none to small predicts wl ll rest =
    record { falls = falls; unit = unit_next b later Let h turn same long; same = same }
  where
    less : (b.oldest + length b.window) % b.ring < b.ring
    less = mod-lt (b.oldest + length b.window) h.room

    turn : Moves b Let later
    turn U r s =
        let x = let_turn b later f guess ((b.oldest + length b.window) % b.ring) none h.room h.ring h.leavers to small predicts refl less wl ll rest U r s in
        record { unit = x.unit; reached = x.reached; stands = x.stands; does = x.does }

    room : length b.window < 32
    room = omega (arith, to.room, h.ring)

    falls : Falls Let b later
    falls = (ap (λ x. x.committed) rest, ap (λ x. x.low) rest, subst (λ W. rank 32 W < rank 32 b.window) (sym wl) (let_falls b.window (let_at f.instr f.half f.pc guess) room (omega arith)))

    same : SizesStay b later
    same = record { program = ap (λ x. x.program) rest; code = ap (λ x. x.code) rest; ring = ap (λ x. x.ring) rest; queue = ap (λ x. x.queue) rest; first_tag = ap (λ x. x.first_tag) rest }

    long : length later.leavers ≡ 32
    long = ap length ll ∙ Rattle.std.proofs.Common.length-set b.leavers _ _ ∙ h.leavers

-- the let of a bench
module _ {S : Type 0} (Predicts : S → ℕ → Instr → ℕ → S → Type 0) (Learns : S → ℕ → ℕ → S → Type 0) where
  pub let_bench : (b later : BenchFields S) (f : Fetched) (guess : ℕ) (left : Option Leaver) → StandsForSome b.pipeline →
      b.pipeline.over ≡ None → CanLet b.pipeline.program.now b.pipeline.ring b.pipeline.queue b.pipeline.committed.pc b.pipeline.low b.pipeline.window f →
      guess < 2 ^ 32 →
      slice_get b.pipeline.leavers ((b.pipeline.oldest + length b.pipeline.window) % b.pipeline.ring) ≡ Some left →
      Guesses Predicts Learns left f.instr f.half f.pc guess b.predictor later.predictor →
      later.pipeline.window ≡ b.pipeline.window ++ let_at f.instr f.half f.pc guess ∷ [] →
      later.pipeline.leavers ≡ slice_set b.pipeline.leavers ((b.pipeline.oldest + length b.pipeline.window) % b.pipeline.ring) None →
      later.pipeline ≡ record b.pipeline { window = later.pipeline.window; leavers = later.pipeline.leavers } →
      Makes Predicts Learns b (LetStep f) Let later
  let_bench b later f guess left h none to small el g wl ll rest =
      let fixed = guess_fixed Predicts Learns (fixed_next f.instr f.half f.pc) f.pc f.instr guess g.middle later.predictor g.asked in
      let less : (b.pipeline.oldest + length b.pipeline.window) % b.pipeline.ring < b.pipeline.ring = mod-lt (b.pipeline.oldest + length b.pipeline.window) h.room in
      let_turned Predicts Learns b later f guess left el g
      (λ U r s. let_turn b.pipeline later.pipeline f guess
      ((b.pipeline.oldest + length b.pipeline.window) % b.pipeline.ring) none h.room h.ring h.leavers to small fixed refl less wl ll rest U r s)
