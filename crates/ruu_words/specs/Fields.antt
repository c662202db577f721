-- The fields of the words.
use Rattle.instructions.specs.declared.op.Half.{Half}
use Rattle.instructions.specs.declared.op.Half.TheVariants.{High, Low}
use Rattle.std.specs.Prelude.{ℕ, zero, suc, ◌+◌, ◌*◌, ◌/◌, ◌%◌, ◌^◌}

-- How many tags there are: a tag has 28 bits
abbrev pub tag_count : ℕ
tag_count = 2 ^ 28

-- Station and operand words: bits 63 to 36 are the tag, 35 to 32 the state, 31 to 0 the value
abbrev pub pack : ℕ → ℕ → ℕ → ℕ
pack tag state value = tag * 2 ^ 36 + state * 2 ^ 32 + value

-- The tag of a station's or an operand's word
abbrev pub tag_of : ℕ → ℕ
tag_of word = word / 2 ^ 36

-- The number of its state
abbrev pub state_of : ℕ → ℕ
state_of word = word / 2 ^ 32 % 16

-- The value of a station or operand word
abbrev pub word_value : ℕ → ℕ
word_value word = word % 2 ^ 32

-- The bit of a half
abbrev pub half_bit : Half → ℕ
half_bit Low = 0
half_bit High = 1

-- Info words: bit 63 is the half, bits 62 to 32 are the instruction's index, 31 to 0 the predicted
-- next pc
abbrev pub pack_info : Half → ℕ → ℕ → ℕ
pack_info half index predicted = half_bit half * 2 ^ 63 + index * 2 ^ 32 + predicted

-- The half of a bit
abbrev pub half_by : ℕ → Half
half_by zero = Low
half_by (suc n) = High

-- The half of an info word
abbrev pub half_of : ℕ → Half
half_of word = half_by (word / 2 ^ 63)

-- The index of its instruction
abbrev pub index_of : ℕ → ℕ
index_of word = word / 2 ^ 32 % 2 ^ 31

-- The predicted next pc of an info word
abbrev pub predicted_of : ℕ → ℕ
predicted_of word = word % 2 ^ 32

-- Link words: bits 63 to 36 are the producer's tag, 35 to 8 the consumer's, 7 to 0 zero
abbrev pub pack_link : ℕ → ℕ → ℕ
pack_link producer consumer = producer * 2 ^ 36 + consumer * 2 ^ 8

-- The producer's tag in a link word
abbrev pub producer_of : ℕ → ℕ
producer_of word = word / 2 ^ 36

-- The consumer's tag in a link word
abbrev pub consumer_of : ℕ → ℕ
consumer_of word = word / 2 ^ 8 % 2 ^ 28
