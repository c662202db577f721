-- A seat in the middle of a call, and the steps that it takes.
use Rattle.std.specs.Prelude.{◌≡◌, ℕ, Bool, List, [], Option, Result}
use Rattle.atomic_table.specs.Seated.{TableId}
use Rattle.atomic_table.specs.Table.{Me}
use Rattle.instructions.specs.Programs.{Program}
use Rattle.instructions.specs.declared.stop.Outcome.{Outcome}
use Rattle.inorder.specs.declared.history.Entry.{Entry}
use Rattle.inorder.specs.declared.history.Event.{Event}
use Rattle.inorder.specs.declared.history.Source.{Source}
use Rattle.inorder.specs.History.{IsLegal, unit_of}
use Rattle.inorder.specs.Tenants.{Tenant}
use Rattle.inorder.specs.Unit.{Sizes, UpdateUnit, next_station, next_tag, recent}
use Rattle.ruu_words.specs.declared.place.Place.{Place}
use Rattle.ruu_words.specs.declared.rule.Draft.{Draft}
use Rattle.ruu_words.specs.declared.rule.Draft.TheVariants.{Nothing}
use Rattle.ruu_words.specs.declared.rule.Role.{Role}
use Rattle.ruu_words.specs.declared.rule.View.{View}
use Rattle.inorder.specs.OperandWords.{OperandWord}
use Rattle.ruu_words.specs.Kinds.{Lets}
use Rattle.ruu_words.specs.Places.{IsPlace}
use Rattle.ruu_words.specs.Plans.{Plans}
use Rattle.ruu_words.specs.Views.{IsCaller}
use Rattle.ruu_words.specs.Telling.{Grows}
use Rattle.station.specs.declared.answers.Claim.{Claim}
use Rattle.station.specs.declared.answers.Retire.{Retire}
use Rattle.station.specs.declared.answers.Tenant.{Tenant as Letting}
use Rattle.station.specs.Carrying.{HasCarried, HasMadeOf, HasValueOf, HasWalked, IsServing, OfTenant}
use Rattle.station.specs.Claiming.{HasSeen, SourceAnswers}
use Rattle.station.specs.Letting.{supply_of}
use Rattle.station.specs.Retirement.{HeadGoesOn}
use Rattle.station.specs.Answers.{AnswersRetire, IsLetNow, MayLetNow, Reply, Woke}
use Rattle.station.specs.Seats.{Caller, IsNumbered, TheCore}
use Rattle.station.specs.Writeback.{HasTenant}

-- A call at a point: its core, what its seat knows by then, and which seat is lent to it
pub record TheCall : Type 0 where
  pub core : TheCore
  pub view : View
  pub lent : ℕ

-- The call of a core, with what its seat knows and which seat that is
abbrev pub call_of : TheCore → View → ℕ → TheCall
call_of core view lent = record { core = core; view = view; lent = lent }

-- The seat of a call as callers see one, with nobody woken yet
abbrev pub caller : TheCall → Caller
caller v = record { core = v.core; by = v.view.by; spare = v.view.spare; seen = v.view.seen; woken = 0 }

-- The facts of a call between two steps
pub record IsCall (core : TheCore) (role : Role) (table : TableId) (me : Me ℕ View) : Type 0 where
  pub at : table ≡ core.id
  pub role_is : me.0.role ≡ role
  pub slots : me.1 ≡ []
  pub legal : IsLegal core.program core.sizes me.0.seen
  pub numbered : IsNumbered core.opening role me.0

-- The call w is the call v at a later point
pub record IsSameCall (v w : TheCall) : Type 0 where
  pub core : w.core ≡ v.core
  pub role : w.view.role ≡ v.view.role
  pub by : w.view.by ≡ v.view.by
  pub spare : w.view.spare ≡ v.view.spare
  pub lent : w.lent ≡ v.lent

-- A kind of step, of a program and sizes
abbrev pub StepKind : Type 1
StepKind = Program → Sizes → List Entry → Draft → List Event → Type 0

-- One step of this kind
pub record TakesStep (v w : TheCall) (K : StepKind) : Type 0 where
  pub same : IsSameCall v w
  pub grows : Grows v.core.program v.core.sizes v.view.by v.view w.view (K v.core.program v.core.sizes)

-- What the caller has seen is legal
abbrev pub IsLegalCall : TheCall → Type 0
IsLegalCall v = IsLegal v.core.program v.core.sizes v.view.seen

-- A seat of this role may step at this place, which is one of the table: where it finds n it leaves
-- f n, and the kind is K n
abbrev pub MayStepAt : Role → TheCall → Place → (ℕ → ℕ) → (ℕ → StepKind) → Type 0
MayStepAt role v x f K =
    v.view.role ≡ role → IsCaller role v.view.by → IsLegalCall v →
    IsPlace v.core.sizes.ring x ×
    Plans v.core.program v.core.sizes v.view.by v.view x f (λ n. K n v.core.program v.core.sizes)

-- The call w is the call v at a later point, where it has come to this answer
pub record ComesTo (v w : TheCall) (Answer : Reply) : Type 0 where
  pub same : IsSameCall v w
  pub reply : Answer v.core (caller v) (caller w)

-- The unit of what the call has seen
abbrev pub seen_unit : TheCall → UpdateUnit
seen_unit v = unit_of v.core.program v.core.sizes v.view.seen

-- The call has seen a tenant of this station and tag, open once, of which this is true
abbrev pub Saw : TheCall → ℕ → ℕ → (Tenant → Type 0) → Type 0
Saw v station tag Fact = HasSeen v.core.program v.core.sizes v.view.seen station tag Fact

-- The call has seen a tenant of this station and tag, of which this is true
abbrev pub HasOne : TheCall → ℕ → ℕ → (Tenant → Type 0) → Type 0
HasOne v station tag Fact = HasTenant v.core.program v.core.sizes v.view.seen station tag Fact

-- The station of the next tenant
abbrev pub let_place : TheCall → ℕ
let_place v = next_station v.core.sizes (recent (seen_unit v))

-- The tag of the next tenant
abbrev pub new_tag : TheCall → ℕ
new_tag v = next_tag v.core.sizes (recent (seen_unit v))

-- This tenant is about to be let at this station, with so much of its let in progress
pub record IsAbout (v : TheCall) (station : ℕ) (draft : Draft) (t : Letting) : Type 0 where
  pub draft_is : v.view.draft ≡ draft
  pub may : MayLetNow t v.core (caller v)
  pub station_is : let_place v ≡ station

-- The word of a source of it, with this value or none
abbrev pub new_operand : TheCall → Option ℕ → OperandWord
new_operand v value = record { tag = new_tag v; value = value }

-- The last store of a let, as a kind of step
abbrev pub LetsTenant : Letting → StepKind
LetsTenant t P C = Lets P C t.index t.predicted (supply_of t.sources.0) (supply_of t.sources.1)

-- A claim's reading of source k is answered so
abbrev pub AnswersSource : TheCall → TheCall → ℕ → ℕ → Source → Bool → Result ℕ Claim → Type 0
AnswersSource v w s tag k needed r =
    SourceAnswers v.core.program v.core.sizes v.view.by v.view.seen w.view.seen s tag k needed r

-- The tenant of this station and tag has made this value
abbrev pub MadeValue : TheCall → ℕ × ℕ → ℕ → Type 0
MadeValue v of value = HasValueOf v.core.program v.core.sizes v.view.seen of.0 of.1 value

-- The tenant of this station and tag has come to this outcome, if that is a value
abbrev pub HasComeTo : TheCall → ℕ × ℕ → Outcome → Type 0
HasComeTo v of outcome = HasMadeOf v.core.program v.core.sizes v.view.seen of.0 of.1 outcome

-- The tenants of station `to` that wait at source k for the tenant `of` are served
abbrev pub Serves : ℕ × ℕ → ℕ → Source → Reply
Serves of to k core v w = OfTenant core.program core.sizes v.seen of.0 of.1
    (λ q. IsServing core.program core.sizes v.by q to k v.seen w.seen)

-- All sources that were linked in time to the tenant `of` are served, and its walk is marked
abbrev pub WalksOf : ℕ × ℕ → Reply
WalksOf of core v w = OfTenant core.program core.sizes v.seen of.0 of.1
    (λ q. HasWalked core.program core.sizes v.by q v.seen w.seen)

-- All sources linked to the tenant `of` are served, if this outcome is a value
abbrev pub Carries : ℕ × ℕ → Outcome → Reply
Carries of outcome core v w = OfTenant core.program core.sizes v.seen of.0 of.1
    (λ q. HasCarried core.program core.sizes v.by q outcome v.seen w.seen)

-- After a retirement from this station the oldest live tenant stands at the next one
abbrev pub HeadMoves : TheCall → ℕ → Retire → Type 0
HeadMoves w station r = HeadGoesOn w.core.sizes (seen_unit w) station r

-- A call that carries a value, at its end: its answer, and the stations that values were taken to
pub record Carried (v w : TheCall) (Answer : Reply) (Station : ℕ → Type 0) : Type 0 where
  pub same : IsSameCall v w
  pub reply : Answer v.core (caller v) (caller w)
  pub woken : Woke Station v.core (caller v) (caller w)

-- A let at its end: the tenant was let under this tag, and none is in progress
pub record HasLetOut (v w : TheCall) (t : Letting) (tag : ℕ) : Type 0 where
  pub same : IsSameCall v w
  pub draft : w.view.draft ≡ Nothing
  pub tag_is : tag ≡ new_tag v
  pub out : IsLetNow t v.core (caller v) (caller w)

-- Another call of the front at its end: its answer, no let in progress, and where the next tenant goes
-- then
pub record LeadsTo (v w : TheCall) (station : ℕ) (Answer : Reply) : Type 0 where
  pub same : IsSameCall v w
  pub draft : w.view.draft ≡ Nothing
  pub reply : Answer v.core (caller v) (caller w)
  pub next : let_place w ≡ station

-- A retirement from this station at its end: its answer, and where the oldest live tenant stands
pub record RetiresFrom (v w : TheCall) (station : ℕ) (answer : Retire) : Type 0 where
  pub same : IsSameCall v w
  pub reply : AnswersRetire answer v.core (caller v) (caller w)
  pub head : HeadMoves w station answer
