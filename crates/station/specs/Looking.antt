-- What the reading calls answer.
use Rattle.std.specs.Prelude.{◌≡◌, ℕ, List, Option, Some, None, IfSome}
use Rattle.instructions.specs.Programs.{Program}
use Rattle.instructions.specs.declared.op.Half.{Half}
use Rattle.instructions.specs.declared.op.Half.TheVariants.{Low}
use Rattle.inorder.specs.declared.history.Entry.{Entry}
use Rattle.inorder.specs.History.{unit_of}
use Rattle.inorder.specs.declared.history.Source.{Source}
use Rattle.inorder.specs.OperandWords.{OperandWord, operand_word}
use Rattle.inorder.specs.StationWords.{StationWord, last_of, station_word}
use Rattle.inorder.specs.Tenants.{Live, Tenant, operand}
use Rattle.inorder.specs.Unit.{Sizes, UpdateUnit, at, recent}
use Rattle.ruu_words.specs.declared.link.LinkWord.{LinkWord}
use Rattle.ruu_words.specs.declared.place.Place.{Place}
use Rattle.ruu_words.specs.declared.rule.Draft.{Draft}
use Rattle.ruu_words.specs.declared.station.StationState.{StationState}
use Rattle.ruu_words.specs.Content.{Content, HasValue, IsDraft, IsLinked, IsOperand, code, info_unit, operand_unit, value_field}
use Rattle.ruu_words.specs.Kinds.{HasLink, IsNamed, IsTenant}
use Rattle.ruu_words.specs.States.{state_code}
use Rattle.station.specs.declared.answers.Seen.{Seen}
use Rattle.station.specs.declared.answers.SourceState.{SourceState}
use Rattle.station.specs.declared.answers.SourceState.TheVariants.{Unset, Val, Wait}

-- The word at this point, with some let in progress
pub record SeesWord (P : Program) (C : Sizes) (h : List Entry) (x : Place) (n : ℕ) : Type 0 where
  pub draft : Draft
  pub proper : IsDraft P C (unit_of P C h) draft
  pub content : Content P C (unit_of P C h) draft x n

-- The fields of a station's word. A value without meaning may be any
pub record Shows (word : StationWord) (tag : ℕ) (state : StationState) (value : ℕ) : Type 0 where
  pub tag_is : tag ≡ word.tag
  pub state_is : state_code state ≡ code word.state
  pub value_is : HasValue word.value value

-- A look at station s sees its word at this point
abbrev pub SeesStation : Program → Sizes → List Entry → ℕ → Seen StationState → Type 0
SeesStation P C h s seen =
    Shows (station_word C (recent (unit_of P C h)) s) seen.tag seen.state seen.value

-- The fields of an info word; 0 where the station has had no tenant
abbrev pub ShowsInfo : Option Tenant → ℕ → Half → ℕ → Type 0
ShowsInfo None index half predicted = (index ≡ 0) × (half ≡ Low) × (predicted ≡ 0)
ShowsInfo (Some t) index half predicted =
    (index ≡ t.index) × (half ≡ t.half) × (predicted ≡ t.predicted)

-- An info word is that of the station's last tenant, or of some let that is allowed there
pub record SeesInfo (P : Program) (C : Sizes) (h : List Entry) (s index : ℕ) (half : Half)
    (predicted : ℕ) : Type 0 where
  pub draft : Draft
  pub proper : IsDraft P C (unit_of P C h) draft
  pub shows : ShowsInfo (last_of (recent (info_unit P C (unit_of P C h) draft)) s) index half predicted
  -- the word is that of each live tenant of the station
  pub its : (p : ℕ) (t : Tenant) → at (unit_of P C h).tenants p ≡ Some t → t.station ≡ s →
      t.standing ≡ Live →
      (index ≡ t.index) × (half ≡ t.half) × (predicted ≡ t.predicted)

-- The state of a source by its value: the source waits while it has none
abbrev pub source_state : Option ℕ → SourceState
source_state None = Wait
source_state (Some v) = Val

-- The state of a source by its operand word, which a station that has had no tenant lacks
abbrev pub source_state_of : Option OperandWord → SourceState
source_state_of None = Unset
source_state_of (Some o) = source_state o.value

-- The operand word n has this state, whichever operand it is that of
abbrev pub IsSourceState : ℕ → SourceState → Type 0
IsSourceState n state = (o : Option OperandWord) → IsOperand o n → state ≡ source_state_of o

-- The fields of an operand word
abbrev pub ShowsOperand : Option OperandWord → ℕ → SourceState → ℕ → Type 0
ShowsOperand None tag state value = (tag ≡ 0) × (state ≡ Unset) × (value ≡ 0)
ShowsOperand (Some o) tag state value =
    (tag ≡ o.tag) × (state ≡ source_state o.value) × (value ≡ value_field o.value)

-- An operand word is that of the station's last tenant, or of some let that is allowed there
pub record SeesOperand (P : Program) (C : Sizes) (h : List Entry) (s : ℕ) (k : Source) (seen : Seen SourceState) : Type 0 where
  pub draft : Draft
  pub proper : IsDraft P C (unit_of P C h) draft
  pub shows : ShowsOperand (operand_word (recent (operand_unit P C (unit_of P C h) draft k)) s k) seen.tag seen.state seen.value
  -- the word is that of each live tenant of the station
  pub its : (p : ℕ) (t : Tenant) → at (unit_of P C h).tenants p ≡ Some t → t.station ≡ s →
      t.standing ≡ Live → ShowsOperand (Some (record { tag = t.tag; value = (operand k t).value })) seen.tag seen.state seen.value

-- Source k of the tenant that is named by one station and tag was asked for from the tenant that is
-- named by the other, its creator
pub record IsLinkOf (U : UpdateUnit) (producer_station producer_tag consumer_station consumer_tag : ℕ) (k : Source) : Type 0 where
  pub q : ℕ
  pub r : ℕ
  pub producer : IsNamed U q producer_station producer_tag
  pub consumer : IsTenant U r consumer_station consumer_tag (HasLink k q)

-- A link word from station p to source k of station c
pub record SeesLink (P : Program) (C : Sizes) (h : List Entry) (p c : ℕ) (k : Source) (seen : Option LinkWord) : Type 0 where
  pub names : IfSome seen (λ l. IsLinkOf (unit_of P C h) p l.producer c l.consumer k)
  -- a linked source of a live tenant stands in its word
  pub stands : (q r : ℕ) (producer consumer : Tenant) →
      IsLinked (unit_of P C h).tenants q r k producer consumer → consumer.standing ≡ Live →
      producer.station ≡ p → consumer.station ≡ c →
      seen ≡ Some (record { producer = producer.tag; consumer = consumer.tag })
