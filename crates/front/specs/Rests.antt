-- What a rest answers.
use Rattle.std.specs.Prelude.{◌≡◌, ℕ, Bool, true, false, not, ◌&&◌, ◌||◌, List, [], ◌∷◌, ◌++◌, length, ◌==◌, nat_le, if◌then◌else◌}
use Rattle.instructions.specs.Guesses.{IsTold}
use Rattle.instructions.specs.Programs.{Program}
use Rattle.inorder.specs.declared.history.Entry.{Entry}
use Rattle.inorder.specs.Callers.{is_retired}
use Rattle.inorder.specs.History.{front, unit_of}
use Rattle.inorder.specs.OneHistory.{Adds}
use Rattle.inorder.specs.Tenants.{Tenant, computed_next}
use Rattle.inorder.specs.Unit.{Sizes}
use Rattle.station.specs.Moments.{WasOnce}
use Rattle.front.specs.declared.answers.Rest.{Rest}
use Rattle.front.specs.declared.answers.Rest.TheVariants.{Idle, Live}
use Rattle.front.specs.declared.path.record.Record.{Record}
use Rattle.front.specs.Training.{leaver_if}
use Rattle.front.specs.Trail.{is_guessed}
use Rattle.station.specs.Renewals.{HasNobody}

-- Station s was let to one of these
abbrev pub is_let_to : List Tenant → ℕ → Bool
is_let_to [] s = false
is_let_to (t ∷ ts) s = t.station == s || is_let_to ts s

-- The predictor has not been told of this tenant at position p, and is at a rest: it is none of the
-- first `told`, has retired, and its station was not let again to a younger one
abbrev pub is_untold : ℕ → List Tenant → Tenant → ℕ → Bool
is_untold told younger t p = is_retired t && (nat_le told p && not (is_let_to younger t.station))

-- All tenants of whom the predictor has not been told at a rest, the oldest first
abbrev pub all_untold : ℕ → List Tenant → List Tenant → List Tenant
all_untold told younger [] = []
all_untold told younger (t ∷ ts) =
    all_untold told (t ∷ younger) ts ++ (if is_untold told younger t (length ts) then t ∷ [] else [])

-- The predictor is told of each of these that was predicted, one after another: its pc, and its computed
-- next pc
abbrev pub TellsEach : {S : Type 0} → (S → ℕ → ℕ → S → Type 0) → Program → List Tenant → S → S → Type 0
TellsEach Learns P [] old new = new ≡ old
TellsEach {S = S} Learns P (t ∷ ts) old new =
    (middle : S) × (IsTold Learns (leaver_if (is_guessed P t) t.pc (computed_next P t)) old middle × TellsEach Learns P ts middle new)

-- The ring was empty, and the predictor was trained on every retired branch that it had not seen
pub record WasIdle {S : Type 0} (Learns : S → ℕ → ℕ → S → Type 0) (P : Program) (C : Sizes) (told : ℕ) (old new : List Entry) (before after : S) : Type 0 where
  pub adds : Adds P C front old new []
  pub nobody : HasNobody (unit_of P C new)
  pub tells : TellsEach Learns P (all_untold told [] (unit_of P C new).tenants) before after

-- Somebody was live at a moment of the call, and nothing changed
pub record WasLive {S : Type 0} (P : Program) (C : Sizes) (old new : List Entry) (before after : S) : Type 0 where
  pub adds : Adds P C front old new []
  pub live : WasOnce P C old new (λ U. ¬ HasNobody U)
  pub predictor : after ≡ before

-- A rest answers Idle where nobody is live, or Live where somebody was
abbrev pub RestAnswers : {S : Type 0} → (S → ℕ → ℕ → S → Type 0) → Program → Sizes → ℕ → List Entry → List Entry → S → S → Rest → Type 0
RestAnswers Learns P C told old new before after Idle = WasIdle Learns P C told old new before after
RestAnswers Learns P C told old new before after Live = WasLive P C old new before after

-- The number of tenants that the predictor need not be trained on any more
abbrev pub trained_after : Program → Sizes → ℕ → List Entry → Rest → ℕ
trained_after P C told new Idle = length (unit_of P C new).tenants
trained_after P C told new Live = told

-- Whether the front has rested
abbrev pub rested_after : Bool → Rest → Bool
rested_after rested Idle = true
rested_after rested Live = rested

-- The stages of a rest

-- The predictor is trained on each of these records whose tenant was predicted
abbrev pub TellsRecords : {S : Type 0} → (S → ℕ → ℕ → S → Type 0) → List Record → S → S → Type 0
TellsRecords Learns [] old new = new ≡ old
TellsRecords {S = S} Learns (x ∷ xs) old new =
    (middle : S) × (IsTold Learns (leaver_if x.guessed x.pc x.next) old middle × TellsRecords Learns xs middle new)

-- The predictor was trained on the first of these records, and the others stand after them
pub record TellsFirst {S : Type 0} (Learns : S → ℕ → ℕ → S → Type 0) (all left : List Record) (old new : S) : Type 0 where
  pub done : List Record
  pub are : all ≡ done ++ left
  pub tells : TellsRecords Learns done old new
