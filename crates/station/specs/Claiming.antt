-- Claims.
use Rattle.std.specs.Prelude.{⊤, ◌≡◌, ◌≢◌, ◌⊎◌, ℕ, Bool, true, false, List, [], ◌∷◌, Some, Result, Ok, Err}
use Rattle.instructions.specs.Programs.{Program}
use Rattle.instructions.specs.declared.op.Half.{Half}
use Rattle.inorder.specs.declared.history.Act.TheVariants.{Claim as ClaimIt}
use Rattle.inorder.specs.declared.history.Entry.{Entry}
use Rattle.inorder.specs.declared.history.Event.{Event}
use Rattle.inorder.specs.declared.history.Event.TheVariants.{Does, Refuses}
use Rattle.inorder.specs.declared.history.Refusal.TheVariants.{Moved as HasMoved, NotOpen as IsNotOpen, Waiting as Waits}
use Rattle.inorder.specs.declared.history.Source.{Source}
use Rattle.inorder.specs.declared.history.Source.TheVariants.{First, Second}
use Rattle.inorder.specs.declared.history.Step.TheVariants.{On}
use Rattle.inorder.specs.Callers.{IsHeld, IsReady}
use Rattle.inorder.specs.History.{WasOpen, unit_of}
use Rattle.inorder.specs.OneHistory.{Adds}
use Rattle.inorder.specs.Replies.{Has, IsOpen, JobFields, job_of}
use Rattle.inorder.specs.StationWords.{live_word}
use Rattle.inorder.specs.Tenants.{Busy, IsThere, Tenant, kind_of, needs, operand}
use Rattle.inorder.specs.Unit.{is_old, Sizes}
use Rattle.ruu_words.specs.Content.{IsStation}
use Rattle.ruu_words.specs.Fields.{state_of, tag_of, word_value}
use Rattle.ruu_words.specs.Kinds.{IsNamed, IsTenant}
use Rattle.station.specs.declared.answers.Claim.{Claim}
use Rattle.station.specs.declared.answers.Claim.TheVariants.{Job as Claimed, Moved, NotOpen, Waiting}
use Rattle.station.specs.declared.job.Job.{Job}
use Rattle.station.specs.Moments.{WasOpenOnce}

-- In what was seen there is a tenant of this station and tag, which was open, and this is true of it
pub record HasSeen (P : Program) (C : Sizes) (seen : List Entry) (station tag : ℕ) (Fact : Tenant → Type 0) : Type 0 where
  pub p : ℕ
  pub named : IsTenant (unit_of P C seen) p station tag Fact
  pub was : WasOpen P C seen p

-- Source k is the next that a claim reads: it is needed, and those before it are there
abbrev pub IsNext : Program → Source → Tenant → Type 0
IsNext P First t = ⊤
IsNext P Second t = (needs (kind_of P t) Second ≡ true) × IsThere t.first.value

-- The caller has claimed the tenant with these fields, and not finished it
pub record IsJob (P : Program) (by : ℕ) (fields : JobFields) (t : Tenant) : Type 0 where
  pub held : IsHeld by t
  pub ready : IsReady P t
  pub fields_are : job_of P t ≡ fields

-- In what the caller has seen it holds this job, of a tenant let since the last renewal
pub record Holds (P : Program) (C : Sizes) (by : ℕ) (seen : List Entry) (j : Job) : Type 0 where
  pub p : ℕ
  pub tenant : Has (unit_of P C seen) p (IsJob P by j)
  pub new : is_old (unit_of P C seen) p ≡ false

-- The tenant was claimed
pub record IsClaimed (P : Program) (C : Sizes) (by : ℕ) (old new : List Entry) (s : ℕ) (j : Job) : Type 0 where
  pub station : j.station ≡ s
  pub holds : Holds P C by new j
  pub adds : Adds P C by old new (Does (On holds.p ClaimIt) ∷ [])

-- A tenant of the station, open at a moment of the call, was refused
pub record IsRefused (P : Program) (C : Sizes) (by : ℕ) (old new : List Entry) (s tag : ℕ) (refusal : ℕ → Event) : Type 0 where
  pub p : ℕ
  pub named : IsNamed (unit_of P C new) p s tag
  pub opened : WasOpenOnce P C old new p
  pub adds : Adds P C by old new (refusal p ∷ [])

-- A claim answers a job, or a refusal that was true at a moment of the call
abbrev pub ClaimAnswers : Program → Sizes → ℕ → List Entry → List Entry → ℕ → Claim → Type 0
ClaimAnswers P C by old new s (Claimed j) = IsClaimed P C by old new s j
ClaimAnswers P C by old new s NotOpen = Adds P C by old new (Refuses (IsNotOpen s) ∷ [])
ClaimAnswers P C by old new s (Waiting tag k) =
    IsRefused P C by old new s tag (λ p. Refuses (Waits p k))
ClaimAnswers P C by old new s (Moved tag) =
    IsRefused P C by old new s tag (λ p. Refuses (HasMoved p))

-- What the steps of a claim find and tell

-- The word of a tenant that this tag names, claimed by anybody
abbrev pub IsBusyWord : ℕ → ℕ → Type 0
IsBusyWord tag word = (by : ℕ) → IsStation (live_word tag (Busy by)) word

-- The tenant was open when its info word was read, which showed these fields
pub record IsOpenAs (half : Half) (index predicted : ℕ) (t : Tenant) : Type 0 where
  pub is_open : IsOpen t
  pub half_is : t.half ≡ half
  pub index_is : t.index ≡ index
  pub predicted_is : t.predicted ≡ predicted

-- A word with the tag has the source's value or waits; with another tag its tenant has left
abbrev pub SourceSays : (word tag : ℕ) → Source → Result ℕ Claim → Type 0
SourceSays word tag k (Ok v) = (tag_of word ≡ tag) × (state_of word ≡ 2) × (v ≡ word_value word)
SourceSays word tag k (Err refusal) =
    ((tag_of word ≡ tag) × (state_of word ≢ 2) × (refusal ≡ Waiting tag k))
    ⊎ ((tag_of word ≢ tag) × (refusal ≡ Moved tag))

-- The value of a source where it is needed, and else 0
abbrev pub SourceIs : Bool → Source → ℕ → Tenant → Type 0
SourceIs true k v t = (operand k t).value ≡ Some v
SourceIs false k v t = v ≡ 0

-- The source has this value, and the caller has added nothing
pub record HasSource (P : Program) (C : Sizes) (by : ℕ) (old new : List Entry) (s tag : ℕ) (needed : Bool) (k : Source) (v : ℕ) : Type 0 where
  pub p : ℕ
  pub named : IsTenant (unit_of P C new) p s tag (SourceIs needed k v)
  pub adds : Adds P C by old new []

-- A tenant of the station was refused
pub record HasRefusal (P : Program) (C : Sizes) (by : ℕ) (old new : List Entry) (s tag : ℕ) (refusal : ℕ → Event) : Type 0 where
  pub p : ℕ
  pub named : IsNamed (unit_of P C new) p s tag
  pub adds : Adds P C by old new (refusal p ∷ [])

-- The reading of a source answers its value, or the refusal with which the claim ends
abbrev pub SourceAnswers : Program → Sizes → ℕ → List Entry → List Entry → ℕ → ℕ → Source → Bool → Result ℕ Claim → Type 0
SourceAnswers P C by old new s tag k needed (Ok v) = HasSource P C by old new s tag needed k v
SourceAnswers P C by old new s tag k needed (Err refusal) =
    ((refusal ≡ Waiting tag k) × HasRefusal P C by old new s tag (λ p. Refuses (Waits p k)))
    ⊎ ((refusal ≡ Moved tag) × HasRefusal P C by old new s tag (λ p. Refuses (HasMoved p)))
