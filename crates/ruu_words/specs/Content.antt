-- What the words hold, for a unit and a let in progress.
use Rattle.std.specs.Prelude.{⊤, ◌≡◌, ◌⊎◌, ℕ, suc, ◌<◌, Bool, true, false, List, ◌∷◌, Option, Some, None, if◌then◌else◌}
use Rattle.instructions.specs.Programs.{Program}
use Rattle.inorder.specs.declared.history.Source.{Source}
use Rattle.inorder.specs.declared.history.Source.TheVariants.{First, Second}
use Rattle.inorder.specs.declared.history.Supply.{Supply}
use Rattle.inorder.specs.OperandWords.{OperandWord, operand_word}
use Rattle.inorder.specs.Replies.{last_tag}
use Rattle.inorder.specs.StationWords.{IsAddr, IsBusy, IsDone, IsFree, IsMiss, IsOpen, IsStop, StationState, StationWord, last_of, station_word}
use Rattle.inorder.specs.Steps.{MayLet, new_tenant}
use Rattle.inorder.specs.Tenants.{Linked, Live, Tenant, operand}
use Rattle.inorder.specs.Unit.{Sizes, UpdateUnit, at, is_old, next_tag, recent}
use Rattle.ruu_words.specs.declared.place.Place.{Place}
use Rattle.ruu_words.specs.declared.place.Place.TheVariants.{Info, Link, Operand, Station}
use Rattle.ruu_words.specs.declared.rule.Draft.{Draft}
use Rattle.ruu_words.specs.declared.rule.Draft.TheVariants.{Nothing, Of}
use Rattle.ruu_words.specs.declared.rule.Stage.{Stage}
use Rattle.ruu_words.specs.declared.rule.Stage.TheVariants.{BothOperands, FirstOperand, Info as InfoAlone}
use Rattle.ruu_words.specs.Fields.{half_of, index_of, pack_link, predicted_of, state_of, tag_of, word_value}

-- Station words

-- The number of a state
abbrev pub code : StationState → ℕ
code IsFree = 0
code IsOpen = 1
code IsBusy = 2
code IsAddr = 3
code IsDone = 4
code IsMiss = 5
code IsStop = 6

-- The number, where it has a meaning
abbrev pub HasValue : Option ℕ → ℕ → Type 0
HasValue None n = ⊤
HasValue (Some v) n = n ≡ v

-- The word n is that of a station that shows this
pub record IsStation (shows : StationWord) (n : ℕ) : Type 0 where
  pub tag : tag_of n ≡ shows.tag
  pub state : state_of n ≡ code shows.state
  pub value : HasValue shows.value (word_value n)

-- Info words

-- The word n has this tenant's half, index and predicted next pc
pub record IsInfoOf (t : Tenant) (n : ℕ) : Type 0 where
  pub half : half_of n ≡ t.half
  pub index : index_of n ≡ t.index
  pub predicted : predicted_of n ≡ t.predicted

-- A station that has had no tenant has the word 0
abbrev pub IsInfo : Option Tenant → ℕ → Type 0
IsInfo None n = n ≡ 0
IsInfo (Some t) n = IsInfoOf t n

-- Operand words: 1 where the source still waits, with value 0, and 2 where it has its value

-- The number of an operand's state
abbrev pub operand_code : Option ℕ → ℕ
operand_code None = 1
operand_code (Some v) = 2

-- The value field of an operand's word: 0 while the source waits
abbrev pub value_field : Option ℕ → ℕ
value_field None = 0
value_field (Some v) = v

-- The word n is that of this operand
pub record IsOperandOf (o : OperandWord) (n : ℕ) : Type 0 where
  pub tag : tag_of n ≡ o.tag
  pub state : state_of n ≡ operand_code o.value
  pub value : word_value n ≡ value_field o.value

-- The word n is that of this operand, or 0 where the station has had no tenant
abbrev pub IsOperand : Option OperandWord → ℕ → Type 0
IsOperand None n = n ≡ 0
IsOperand (Some o) n = IsOperandOf o n

-- Link words

-- Source k of tenant r was asked for, and tenant q is its creator
pub record IsLinked (ts : List Tenant) (q r : ℕ) (k : Source) (producer consumer : Tenant) :
    Type 0 where
  pub producer_is : at ts q ≡ Some producer
  pub consumer_is : at ts r ≡ Some consumer
  pub in_time : Bool
  pub way : (operand k consumer).way ≡ Linked in_time
  pub creator : (operand k consumer).creator ≡ Some q

-- The word names a linked source of a tenant of station c, with its creator of station p. Both were
-- let since the last renewal
pub record NamesLink (U : UpdateUnit) (p c : ℕ) (k : Source) (n : ℕ) : Type 0 where
  pub q : ℕ
  pub r : ℕ
  pub producer : Tenant
  pub consumer : Tenant
  pub is : IsLinked U.tenants q r k producer consumer
  pub producer_new : is_old U q ≡ false
  pub consumer_new : is_old U r ≡ false
  pub at_p : producer.station ≡ p
  pub at_c : consumer.station ≡ c
  pub word : n ≡ pack_link producer.tag consumer.tag

-- The word of a link from station p to source k of station c: 0, or that of a linked source
pub record IsLinkWord (U : UpdateUnit) (p c : ℕ) (k : Source) (n : ℕ) : Type 0 where
  pub names : (n ≡ 0) ⊎ NamesLink U p c k n
  -- a linked source whose tenant has not left stands in its word
  pub stands : (q r : ℕ) (producer consumer : Tenant) →
      IsLinked U.tenants q r k producer consumer → consumer.standing ≡ Live →
      producer.station ≡ p → consumer.station ≡ c → n ≡ pack_link producer.tag consumer.tag

-- The let in progress: some words are already those of the tenant that it is about

-- At this stage the word of source k is stored already
abbrev pub has_operand : Stage → Source → Bool
has_operand InfoAlone k = false
has_operand FirstOperand First = true
has_operand FirstOperand Second = false
has_operand BothOperands k = true

-- The unit with the tenant in progress
abbrev pub with_new : Program → Sizes → UpdateUnit → ℕ → ℕ → Supply → Supply → UpdateUnit
with_new P C U index predicted first second =
    record {
      tenants = new_tenant P C U index predicted first second ∷ U.tenants;
      fresh = suc U.fresh;
    }

-- The unit that info words follow
abbrev pub info_unit : Program → Sizes → UpdateUnit → Draft → UpdateUnit
info_unit P C U Nothing = U
info_unit P C U (Of stage index predicted first second) =
    with_new P C U index predicted first second

-- The unit that operand words follow
abbrev pub operand_unit : Program → Sizes → UpdateUnit → Draft → Source → UpdateUnit
operand_unit P C U Nothing k = U
operand_unit P C U (Of stage index predicted first second) k =
    if has_operand stage k then with_new P C U index predicted first second else U

-- The let in progress, if there is one, is allowed, and its tag is below the last one
abbrev pub IsDraft : Program → Sizes → UpdateUnit → Draft → Type 0
IsDraft P C U Nothing = ⊤
IsDraft P C U (Of stage index predicted first second) =
    MayLet P C U index predicted first second × (next_tag C (recent U) < last_tag)

-- Any word

-- The word n at a place is what the unit says, with this let in progress
abbrev pub Content : Program → Sizes → UpdateUnit → Draft → Place → ℕ → Type 0
Content P C U d (Station s) n = IsStation (station_word C (recent U) s) n
Content P C U d (Info s) n = IsInfo (last_of (recent (info_unit P C U d)) s) n
Content P C U d (Operand s k) n = IsOperand (operand_word (recent (operand_unit P C U d k)) s k) n
Content P C U d (Link p c k) n = IsLinkWord U p c k n
