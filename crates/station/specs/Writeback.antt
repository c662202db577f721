-- Results, and who waits for them.
use Rattle.std.specs.Prelude.{◌≡◌, ◌⊎◌, ℕ, List, [], ◌∷◌, ◌++◌, length, Some, None}
use Rattle.std.specs.List.{AllByRecursion}
use Rattle.instructions.specs.Operations.{outcome_of as outcome_of_half}
use Rattle.instructions.specs.Programs.{Program, instr_of}
use Rattle.instructions.specs.declared.stop.Outcome.{Outcome}
use Rattle.instructions.specs.declared.stop.Outcome.TheVariants.{Value}
use Rattle.inorder.specs.declared.history.Act.{Act}
use Rattle.inorder.specs.declared.history.Act.TheVariants.{Deliver, Finish as FinishIt, Load}
use Rattle.inorder.specs.declared.history.Entry.{Entry}
use Rattle.inorder.specs.declared.history.Event.{Event}
use Rattle.inorder.specs.declared.history.Event.TheVariants.{Does, Marks, Refuses}
use Rattle.inorder.specs.declared.history.Mark.TheVariants.{Walked}
use Rattle.inorder.specs.declared.history.Refusal.TheVariants.{Stale as IsStaleNow}
use Rattle.inorder.specs.declared.history.Source.{Source}
use Rattle.inorder.specs.declared.history.Step.TheVariants.{On}
use Rattle.inorder.specs.Callers.{CanLoad}
use Rattle.inorder.specs.History.{unit_of}
use Rattle.inorder.specs.OneHistory.{Adds}
use Rattle.inorder.specs.OperandWords.{OperandWord}
use Rattle.inorder.specs.Replies.{Has, IsStale}
use Rattle.inorder.specs.StationWords.{live_word}
use Rattle.inorder.specs.Tenants.{Fate, Tenant, operand}
use Rattle.inorder.specs.Unit.{Sizes}
use Rattle.ruu_words.specs.Content.{IsOperandOf, IsStation}
use Rattle.ruu_words.specs.Fields.{tag_of, word_value}
use Rattle.ruu_words.specs.Kinds.{HasLink, IsNamed, IsTenant}
use Rattle.inorder.specs.Callers.{HasMade}
use Rattle.station.specs.declared.answers.Finish.{Finish}
use Rattle.station.specs.declared.answers.Finish.TheVariants.{Finished, Stale}
use Rattle.station.specs.declared.job.Job.{Job}
use Rattle.station.specs.declared.answers.Settle.{Settle}
use Rattle.station.specs.declared.answers.Settle.TheVariants.{Settled, Stale as StaleLoad}

-- In what was seen there is a tenant of this station and tag, and this is true of it
pub record HasTenant (P : Program) (C : Sizes) (seen : List Entry) (station tag : ℕ) (Fact : Tenant → Type 0) : Type 0 where
  pub p : ℕ
  pub named : IsTenant (unit_of P C seen) p station tag Fact

-- The load may be answered with this value, unless it was squashed
pub record CanSettle (P : Program) (C : Sizes) (seen : List Entry) (station tag address value : ℕ) : Type 0 where
  pub p : ℕ
  pub named : IsNamed (unit_of P C seen) p station tag
  pub can : CanLoad P (unit_of P C seen) p address value ⊎ IsStale (unit_of P C seen) p

-- Source k of the tenant was asked for, and its creator has made this value
pub record CanDeliver (P : Program) (C : Sizes) (seen : List Entry) (station : ℕ) (k : Source) (tag value : ℕ) : Type 0 where
  pub consumer : ℕ
  pub producer : ℕ
  pub asks : IsTenant (unit_of P C seen) consumer station tag (HasLink k producer)
  pub made : HasMade (unit_of P C seen) producer value

-- An operand that waits, and one that has its value
abbrev pub wait_word : ℕ → OperandWord
wait_word tag = record { tag = tag; value = None }

-- An operand that has its value
abbrev pub val_word : ℕ → ℕ → OperandWord
val_word tag value = record { tag = tag; value = Some value }

-- The words of a station before and after an exchange: its live tenant's, with one tag and these fates
pub record AreFates (was will : Fate) (old new : ℕ) : Type 0 where
  pub old_is : IsStation (live_word (tag_of old) was) old
  pub new_is : IsStation (live_word (tag_of old) will) new

-- The words of an operand before and after an exchange: it waits, and has its value
pub record AreOperands (old new : ℕ) : Type 0 where
  pub old_is : IsOperandOf (wait_word (tag_of old)) old
  pub new_is : IsOperandOf (val_word (tag_of old) (word_value new)) new

-- The outcome that a unit has to compute for a job
abbrev pub job_outcome : Program → Job → Outcome
job_outcome P j = outcome_of_half (instr_of P j.index) j.half j.pc j.first j.second (length P.bytes)

-- The load may be answered with this value, unless it was squashed
pub record MaySettle (P : Program) (C : Sizes) (seen : List Entry) (station tag value : ℕ) : Type 0 where
  pub address : ℕ
  pub can : CanSettle P C seen station tag address value

-- The value that tenant q made was carried to a tenant that asked for it
pub record IsDeliveryOf (P : Program) (C : Sizes) (seen : List Entry) (q : ℕ) (event : Event) : Type 0 where
  pub r : ℕ
  pub k : Source
  pub is : event ≡ Does (On r (Deliver k))
  pub asked : Has (unit_of P C seen) r (λ t. (operand k t).creator ≡ Some q)

-- The value was carried along all links: deliveries, and then the mark, the last one first
pub record IsWalk (P : Program) (C : Sizes) (seen : List Entry) (q : ℕ) (events : List Event) : Type 0 where
  pub deliveries : List Event
  pub each : AllByRecursion (IsDeliveryOf P C seen q) deliveries
  pub is : events ≡ Marks (Walked q) ∷ deliveries

-- A value is carried along the links, and nothing else is
abbrev pub IsCarried : Program → Sizes → List Entry → ℕ → Outcome → List Event → Type 0
IsCarried P C seen q (Value v) events = IsWalk P C seen q events
IsCarried P C seen q _ events = events ≡ []

-- The tenant of this station and tag was acted on, and then its value was carried
pub record IsWritten (P : Program) (C : Sizes) (by : ℕ) (old new : List Entry) (station tag : ℕ) (act : Act) (Carried : ℕ → List Event → Type 0) : Type 0 where
  pub p : ℕ
  pub named : IsNamed (unit_of P C new) p station tag
  pub behind : List Event
  pub carried : Carried p behind
  pub adds : Adds P C by old new (behind ++ Does (On p act) ∷ [])

-- The tenant of this station and tag was squashed before
pub record WasStale (P : Program) (C : Sizes) (by : ℕ) (old new : List Entry) (station tag : ℕ) : Type 0 where
  pub p : ℕ
  pub named : IsNamed (unit_of P C new) p station tag
  pub adds : Adds P C by old new (Refuses (IsStaleNow p) ∷ [])

-- `finish` answers that the outcome was written, and a value carried along its links; or that the
-- tenant was squashed before
abbrev pub FinishAnswers : Program → Sizes → ℕ → List Entry → List Entry → Job → Finish → Type 0
FinishAnswers P C by old new j Finished =
    IsWritten P C by old new j.station j.tag FinishIt (λ p. IsCarried P C new p (job_outcome P j))
FinishAnswers P C by old new j Stale = WasStale P C by old new j.station j.tag

-- `settle` answers that the load was done, and its value carried along its links; or that it was
-- squashed before
abbrev pub SettleAnswers : Program → Sizes → ℕ → List Entry → List Entry → ℕ → ℕ → Settle → Type 0
SettleAnswers P C by old new station tag Settled =
    IsWritten P C by old new station tag Load (λ p. IsWalk P C new p)
SettleAnswers P C by old new station tag StaleLoad = WasStale P C by old new station tag
