-- A turn of the front, without what its predictor is told.
use Rattle.std.proofs.Common.{◌≡◌, ℕ, List, Option, Some, None}
use Rattle.instructions.specs.Guesses.{IsAsked}
use Rattle.instructions.specs.Instruction.{fixed_next}
use Rattle.instructions.specs.Programs.{Program, instr_of}
use Rattle.instructions.specs.declared.instr.Instr.{Instr}
use Rattle.inorder.specs.declared.history.Entry.{Entry}
use Rattle.inorder.specs.History.{unit_of}
use Rattle.inorder.specs.Unit.{Sizes, front_half}
use Rattle.front.specs.declared.answers.Turn.{Turn}
use Rattle.front.specs.declared.answers.Turn.TheVariants.{Full, Let, NoInstr, QueueFull, Spent}
use Rattle.front.specs.declared.answers.Rest.{Rest}
use Rattle.front.specs.declared.answers.Rest.TheVariants.{Idle, Live}
use Rattle.front.specs.Rests.{RestAnswers, trained_after}
use Rattle.front.specs.Training.{given_or}
use Rattle.front.specs.Turns.{IsRefusal as WasRefused, TurnAnswers}
use Rattle.session.specs.Replies.{IsGuess, IsTurnRefusal, RestSays, TurnSays}

module _ {S : Type 0} (Predicts : S → ℕ → Instr → ℕ → S → Type 0) (Learns : S → ℕ → ℕ → S → Type 0) (P : Program) (C : Sizes) (told : ℕ) (old new : List Entry) (before after : S) where
  refused : (turn : Turn) → WasRefused P C old new before after turn → IsTurnRefusal P C old new turn
  refused turn r = record { adds = r.adds; was = r.was }

  guessed : (given fixed : Option ℕ) (pc : ℕ) (i : Instr) (predicted : ℕ) (a b : S) → IsAsked (given_or given Predicts) fixed pc i predicted a b → IsGuess given fixed predicted
  guessed None fixed pc i predicted a b asked = tt
  guessed (Some next) None pc i predicted a b asked = asked.0
  guessed (Some next) (Some x) pc i predicted a b asked = asked.0

  pub turn_says : (given : Option ℕ) (turn : Turn) → TurnAnswers (given_or given Predicts) Learns P C told old new before after turn → TurnSays P C given old new turn
  turn_says given Full r = refused Full r
  turn_says given NoInstr r = refused NoInstr r
  turn_says given QueueFull r = refused QueueFull r
  turn_says given Spent r = refused Spent r
  turn_says given (Let station tag pc) r = record {
    predicted = r.predicted;
    lets = r.lets;
    guess = guessed given (fixed_next (instr_of P r.lets.index) (front_half P (unit_of P C r.lets.point).tenants) pc) pc (instr_of P r.lets.index) r.predicted r.trains.middle after r.trains.asked;
  }

-- A rest, without what its predictor is told
module _ {S : Type 0} (Learns : S → ℕ → ℕ → S → Type 0) (P : Program) (C : Sizes) (told : ℕ) (old new : List Entry) (before after : S) where
  pub rest_says : (rest : Rest) → RestAnswers Learns P C told old new before after rest → (new_told : ℕ) → new_told ≡ trained_after P C told new rest → RestSays P C old new told new_told rest
  rest_says Idle r new_told e = record { adds = r.adds; nobody = r.nobody; told = e }
  rest_says Live r new_told e = record { adds = r.adds; live = r.live; told_is = e }
