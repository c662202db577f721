-- What a turn answers.
use Rattle.std.specs.Prelude.{◌≡◌, ℕ, List, [], ◌∷◌, ◌++◌, length}
use Rattle.instructions.specs.Guesses.{Guesses}
use Rattle.instructions.specs.Programs.{Program, instr_of}
use Rattle.instructions.specs.declared.instr.Instr.{Instr}
use Rattle.inorder.specs.declared.history.Entry.{Entry}
use Rattle.inorder.specs.declared.history.Event.{Event}
use Rattle.inorder.specs.declared.history.Event.TheVariants.{Does}
use Rattle.inorder.specs.declared.history.Source.{Source}
use Rattle.inorder.specs.declared.history.Source.TheVariants.{First, Second}
use Rattle.inorder.specs.declared.history.Step.TheVariants.{Let}
use Rattle.inorder.specs.declared.history.Supply.{Supply}
use Rattle.inorder.specs.declared.history.Supply.TheVariants.{From, Known}
use Rattle.inorder.specs.History.{entry, front, unit_of}
use Rattle.instructions.specs.Histories.{StartsWith}
use Rattle.inorder.specs.OneHistory.{Adds}
use Rattle.inorder.specs.Replies.{HasNoInstr, IsFull, HasFullQueue, IsSpent}
use Rattle.inorder.specs.StationWords.{last_of}
use Rattle.inorder.specs.Unit.{Sizes, front_half, front_pc, next_station, next_tag, recent}
use Rattle.station.specs.Asking.{IsQuestion}
use Rattle.station.specs.Moments.{WasOnce}
use Rattle.front.specs.declared.answers.Turn.{Turn}
use Rattle.front.specs.declared.answers.Turn.TheVariants.{Full, NoInstr, QueueFull, Spent, Let as HasLet}
use Rattle.front.specs.Training.{leaver_in, untold}

-- Refusals. Each is true at a moment of the call, and each that comes before it in this order was not true at
-- one

-- A station was free at a moment of the call
abbrev pub WasNotFull : Program → Sizes → List Entry → List Entry → Type 0
WasNotFull P C old new = WasOnce P C old new (λ U. ¬ IsFull C U)

-- There was no instruction at the front pc, and a station was free
pub record NoInstrNow (P : Program) (C : Sizes) (old new : List Entry) : Type 0 where
  pub no_instr : WasOnce P C old new (HasNoInstr P)
  pub not_full : WasNotFull P C old new

-- The queue had no room, though a station was free and there was an instruction
pub record QueueFullNow (P : Program) (C : Sizes) (old new : List Entry) : Type 0 where
  pub queue_full : WasOnce P C old new (HasFullQueue P C)
  pub not_full : WasNotFull P C old new
  pub instr : WasOnce P C old new (λ U. ¬ HasNoInstr P U)

-- The next tag was the last one, and each other refusal was untrue at a moment
pub record SpentNow (P : Program) (C : Sizes) (old new : List Entry) : Type 0 where
  pub spent : WasOnce P C old new (IsSpent C)
  pub not_full : WasNotFull P C old new
  pub instr : WasOnce P C old new (λ U. ¬ HasNoInstr P U)
  pub room : WasOnce P C old new (λ U. ¬ HasFullQueue P C U)

-- The meaning of each refusal of a turn
abbrev pub Refuses : Program → Sizes → List Entry → List Entry → Turn → Type 0
Refuses P C old new Full = WasOnce P C old new (IsFull C)
Refuses P C old new NoInstr = NoInstrNow P C old new
Refuses P C old new QueueFull = QueueFullNow P C old new
Refuses P C old new Spent = SpentNow P C old new
Refuses P C old new (HasLet station tag pc) = ⊥

-- A refusal changes nothing
pub record IsRefusal {S : Type 0} (P : Program) (C : Sizes) (old new : List Entry) (before after : S) (turn : Turn) : Type 0 where
  pub adds : Adds P C front old new []
  pub was : Refuses P C old new turn
  pub predictor : after ≡ before

-- A source that comes from its creator is asked for, and no other
abbrev pub IsAskedFor : ℕ → Source → Supply → List Event → Type 0
IsAskedFor r k (Known v) events = events ≡ []
IsAskedFor r k From events = IsQuestion r k events

-- A tenant was let, where its caller had added nothing up to `point`, and then its sources were asked for
pub record LetsOut (P : Program) (C : Sizes) (old new : List Entry) (station tag pc predicted : ℕ) : Type 0 where
  pub index : ℕ
  pub first : Supply
  pub second : Supply
  pub point : List Entry
  pub before : Adds P C front old point []
  pub behind : StartsWith new (entry front (Does (Let index predicted first second)) ∷ point)
  pub station_is : station ≡ next_station C (recent (unit_of P C point))
  pub tag_is : tag ≡ next_tag C (recent (unit_of P C point))
  pub pc_is : pc ≡ front_pc (unit_of P C point).tenants
  -- the last event first
  pub first_asked : List Event
  pub second_asked : List Event
  pub asks_first : IsAskedFor (length (unit_of P C point).tenants) First first first_asked
  pub asks_second : IsAskedFor (length (unit_of P C point).tenants) Second second second_asked
  pub adds : Adds P C front old new (second_asked ++ (first_asked ++ Does (Let index predicted first second) ∷ []))

-- Before that the predictor was told of the last tenant of the station, if that is none of the first `told`, and
-- asked for the new one
pub record IsLet {S : Type 0} (Predicts : S → ℕ → Instr → ℕ → S → Type 0) (Learns : S → ℕ → ℕ → S → Type 0)
    (P : Program) (C : Sizes) (told : ℕ) (old new : List Entry) (before after : S) (station tag pc : ℕ) : Type 0 where
  pub predicted : ℕ
  pub lets : LetsOut P C old new station tag pc predicted
  pub trains : Guesses Predicts Learns
      (leaver_in P (last_of (untold told (unit_of P C lets.point).tenants) station))
      (instr_of P lets.index) (front_half P (unit_of P C lets.point).tenants) pc predicted before after

-- A turn answers that a tenant was let, or a refusal
abbrev pub TurnAnswers : {S : Type 0} → (S → ℕ → Instr → ℕ → S → Type 0) → (S → ℕ → ℕ → S → Type 0) → Program → Sizes → ℕ → List Entry → List Entry → S → S → Turn → Type 0
TurnAnswers Predicts Learns P C told old new before after (HasLet station tag pc) =
    IsLet Predicts Learns P C told old new before after station tag pc
TurnAnswers Predicts Learns P C told old new before after turn = IsRefusal P C old new before after turn
