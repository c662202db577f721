-- Packed words read back as their fields, and the words of the layout's examples.
use Rattle.std.proofs.Common.{◌≡◌, ◌/◌, ◌^◌, ap, refl, arith}
use Rattle.instructions.specs.declared.op.Half.TheVariants.{High, Low}
use Rattle.inorder.specs.Replies.{last_tag}
use Rattle.ruu_words.specs.declared.station.StationState.TheVariants.{Done, Free, Open}
use Rattle.ruu_words.specs.Fields.{half_by, pack, pack_info, pack_link}
use Rattle.ruu_words.specs.Laws.{FieldsMakeTheWord, InfosReadBack, LinksReadBack, WordsReadBack}
use Rattle.ruu_words.specs.States.{state_code}

pub words_read_back : WordsReadBack
words_read_back tag state value small_tag small_state small_value =
    record { word = omega arith; tag_is = omega arith; state_is = omega arith; value_is = omega arith }

pub infos_read_back : InfosReadBack
infos_read_back Low index predicted small_index small_predicted =
    record { word = omega arith; half_is = ap half_by low_bit; index_is = omega arith; predicted_is = omega arith }
  where
    low_bit : pack_info Low index predicted / 2 ^ 63 ≡ 0
    low_bit = omega arith
infos_read_back High index predicted small_index small_predicted =
    record { word = omega arith; half_is = ap half_by high_bit; index_is = omega arith; predicted_is = omega arith }
  where
    high_bit : pack_info High index predicted / 2 ^ 63 ≡ 1
    high_bit = omega arith

pub links_read_back : LinksReadBack
links_read_back producer consumer small_producer small_consumer =
    record { word = omega arith; producer_is = omega arith; consumer_is = omega arith }

pub same_word : FieldsMakeTheWord
same_word n m a b c = omega arith

-- The examples

station_open : pack 2 (state_code Open) 0 ≡ 0x0000002100000000
station_open = refl

station_done : pack 1 (state_code Done) 5 ≡ 0x0000001400000005
station_done = refl

station_spent : pack last_tag (state_code Free) 0 ≡ 0xfffffff000000000
station_spent = refl

link_of_first_tags : pack_link 1 1 ≡ 0x0000001000000100
link_of_first_tags = refl

info_of_the_second : pack_info Low 1 0x00400008 ≡ 0x0000000100400008
info_of_the_second = refl
