-- What holds of every word and of every place.
use Rattle.std.specs.Prelude.{◌≡◌, ◌≢◌, ℕ, ◌^◌, ◌<◌, List, [], ◌∷◌, length, slice_index, slice_set}
use Rattle.instructions.specs.declared.op.Half.{Half}
use Rattle.inorder.specs.declared.history.Entry.{Entry}
use Rattle.inorder.specs.History.{IsLegal, unit_of}
use Rattle.inorder.specs.Steps.{MayRenew}
use Rattle.inorder.specs.Unit.{Sizes}
use Rattle.instructions.specs.Programs.{Program}
use Rattle.ruu_words.specs.declared.place.Place.{Place}
use Rattle.ruu_words.specs.declared.rule.Draft.TheVariants.{Nothing}
use Rattle.ruu_words.specs.declared.rule.Setup.{Setup}
use Rattle.ruu_words.specs.declared.rule.View.{View}
use Rattle.ruu_words.specs.Content.{Content}
use Rattle.ruu_words.specs.Fields.{consumer_of, half_of, index_of, pack, pack_info, pack_link, predicted_of, producer_of, state_of, tag_count, tag_of, word_value}
use Rattle.ruu_words.specs.Places.{IsPlace, index, words_for}
use Rattle.ruu_words.specs.Openings.{IsOpening, opening_of, renewed, sizes_of}
use Rattle.ruu_words.specs.Rule.{IsStart}

-- A packed station or operand word fits in 64 bits, and reads back as its fields
pub record ReadsBack (tag state value : ℕ) : Type 0 where
  pub word : pack tag state value < 2 ^ 64
  pub tag_is : tag_of (pack tag state value) ≡ tag
  pub state_is : state_of (pack tag state value) ≡ state
  pub value_is : word_value (pack tag state value) ≡ value

-- Station and operand words read back for each tag, state and value of the width of its field
abbrev pub WordsReadBack : Type 0
WordsReadBack =
    (tag state value : ℕ) → tag < tag_count → state < 16 → value < 2 ^ 32 →
    ReadsBack tag state value

-- A packed info word fits in 64 bits, and reads back as its fields
pub record InfoReadsBack (half : Half) (index predicted : ℕ) : Type 0 where
  pub word : pack_info half index predicted < 2 ^ 64
  pub half_is : half_of (pack_info half index predicted) ≡ half
  pub index_is : index_of (pack_info half index predicted) ≡ index
  pub predicted_is : predicted_of (pack_info half index predicted) ≡ predicted

-- Info words read back for each index and predicted next pc of the width of its field
abbrev pub InfosReadBack : Type 0
InfosReadBack =
    (half : Half) (index predicted : ℕ) → index < 2 ^ 31 → predicted < 2 ^ 32 →
    InfoReadsBack half index predicted

-- A packed link word fits in 64 bits, and reads back as its fields
pub record LinkReadsBack (producer consumer : ℕ) : Type 0 where
  pub word : pack_link producer consumer < 2 ^ 64
  pub producer_is : producer_of (pack_link producer consumer) ≡ producer
  pub consumer_is : consumer_of (pack_link producer consumer) ≡ consumer

-- Link words read back for each two tags
abbrev pub LinksReadBack : Type 0
LinksReadBack =
    (producer consumer : ℕ) → producer < tag_count → consumer < tag_count →
    LinkReadsBack producer consumer

-- Two words with the same fields are one
abbrev pub FieldsMakeTheWord : Type 0
FieldsMakeTheWord =
    (n m : ℕ) → tag_of n ≡ tag_of m → state_of n ≡ state_of m → word_value n ≡ word_value m → n ≡ m

-- Places with one index are one, and a write at one leaves the others
pub record PlacesAreApart (n : ℕ) : Type 0 where
  pub inside : (x : Place) → IsPlace n x → index n x < words_for n
  pub one : (x y : Place) → IsPlace n x → IsPlace n y → index n x ≡ index n y → x ≡ y
  pub written : (words : List ℕ) (x : Place) (v : ℕ) → length words ≡ words_for n → IsPlace n x →
      slice_index (slice_set words (index n x) v) (index n x) ≡ v
  pub others : (words : List ℕ) (x y : Place) (v : ℕ) → IsPlace n x → IsPlace n y → x ≢ y →
      slice_index (slice_set words (index n x) v) (index n y) ≡ slice_index words (index n y)

-- Where a renewal is allowed, each word after it is that of a first table
abbrev pub RenewedWordsAreFirst : Type 0
RenewedWordsAreFirst =
    (P : Program) (C : Sizes) (seen : List Entry) (words : List ℕ) →
    MayRenew (unit_of P C seen) → IsStart C words → (x : Place) → IsPlace C.ring x →
    Content P C (unit_of P C (renewed seen)) Nothing x
    (slice_index words (index C.ring x))

-- A table may go on from what a seat of another one has seen, where a renewal is allowed after that
abbrev pub TablesGoOn : Type 0
TablesGoOn =
    (c : Setup) (v : View) → c.opening.views ≡ v ∷ [] → IsLegal c.program (sizes_of c) v.seen →
    MayRenew (unit_of c.program (sizes_of c) v.seen) →
    IsOpening c.program (sizes_of c) (opening_of c)
