-- The parts of a word make the word, and a target gives its distance back.
use Rattle.std.proofs.Common.{◌≡◌, ℕ, ◌+◌, ◌-◌, ◌*◌, ◌/◌, ◌%◌, ◌^◌, ◌<◌, arith, ap, ◌∙◌, sym}
use Rattle.std.proofs.lemmas.Int.{ints}
use Rattle.std.specs.Int.{w16}
use Rattle.instructions.specs.Operations.{extended}
use Rattle.instructions.specs.Instruction.{pc_plus_4}
use Rattle.encoding.specs.Fields.{opcode_of, rs_of, rt_of, rd_of, shift_of, funct_of, immediate_of, region_index_of}
use Rattle.encoding.specs.Words.{registers, immediate, distance, branch_target, region_target}

-- the upper fields and the lower 16 bits are the word
pub upper_and_half : (w : ℕ) → opcode_of w * 2 ^ 26 + (rs_of w * 2 ^ 21 + (rt_of w * 2 ^ 16 + immediate_of w)) ≡ w
upper_and_half w = omega arith

-- the lower 16 bits are three fields
pub half_by_fields : (w : ℕ) → immediate_of w ≡ rd_of w * 2 ^ 11 + (shift_of w * 2 ^ 6 + funct_of w)
half_by_fields w = omega arith

pub opcode_and_index : (w : ℕ) → opcode_of w * 2 ^ 26 + region_index_of w ≡ w
opcode_and_index w = omega arith

-- a register field has five bits
rs_again : (w : ℕ) → rs_of w % 32 ≡ rs_of w
rs_again w = omega arith

rt_again : (w : ℕ) → rt_of w % 32 ≡ rt_of w
rt_again w = omega arith

rd_again : (w : ℕ) → rd_of w % 32 ≡ rd_of w
rd_again w = omega arith

-- all fields are the word
pub all_fields : (w : ℕ) → opcode_of w * 2 ^ 26 + registers (rs_of w) (rt_of w) (rd_of w) (shift_of w) (funct_of w) ≡ w
all_fields w =
    (λ i. opcode_of w * 2 ^ 26 + (rs_again w i * 2 ^ 21 + (rt_again w i * 2 ^ 16 + (rd_again w i * 2 ^ 11 + (shift_of w * 2 ^ 6 + funct_of w)))))
    ∙ ap (λ n. opcode_of w * 2 ^ 26 + (rs_of w * 2 ^ 21 + (rt_of w * 2 ^ 16 + n))) (sym (half_by_fields w))
    ∙ upper_and_half w

pub half_small : (w : ℕ) → immediate_of w < 2 ^ 16
half_small w = omega arith

-- an immediate keeps its lower bits as it is extended
pub extended_half : (h : ℕ) → h < 2 ^ 16 → extended w16 h % 2 ^ 16 ≡ h
extended_half h small = grind (arith, ints)

pub extended_small : (h : ℕ) → h < 2 ^ 16 → extended w16 h < 2 ^ 32
extended_small h small = grind (arith, ints)

-- an immediate of a word
pub immediate_is : (w n : ℕ) → n % 2 ^ 16 ≡ immediate_of w → opcode_of w * 2 ^ 26 + immediate (rs_of w) (rt_of w) n ≡ w
immediate_is w n e =
    (λ i. opcode_of w * 2 ^ 26 + (rs_again w i * 2 ^ 21 + (rt_again w i * 2 ^ 16 + n % 2 ^ 16)))
    ∙ ap (λ k. opcode_of w * 2 ^ 26 + (rs_of w * 2 ^ 21 + (rt_of w * 2 ^ 16 + k))) e ∙ upper_and_half w

-- the distance to where n words beyond p lie
pub words_beyond : (p e : ℕ) → p < 2 ^ 32 → e < 2 ^ 32 → ((p + 4 * e) % 2 ^ 32 + (2 ^ 32 - p)) % 2 ^ 32 / 4 % 2 ^ 16 ≡ e % 2 ^ 16
words_beyond p e small fits = omega arith

pub pc_small : (pc : ℕ) → pc_plus_4 pc < 2 ^ 32
pc_small pc = omega arith

pub distance_back : (pc w : ℕ) → distance pc (branch_target pc w) % 2 ^ 16 ≡ immediate_of w
distance_back pc w =
    words_beyond (pc_plus_4 pc) (extended w16 (immediate_of w)) (pc_small pc) (extended_small (immediate_of w) (half_small w))
    ∙ extended_half (immediate_of w) (half_small w)

pub index_in_region : (p x : ℕ) → x < 2 ^ 26 → (p / 2 ^ 28 * 2 ^ 28 + 4 * x) / 4 % 2 ^ 26 ≡ x
index_in_region p x small = omega arith

pub index_small : (w : ℕ) → region_index_of w < 2 ^ 26
index_small w = omega arith

pub index_back : (pc w : ℕ) → region_target pc w / 4 % 2 ^ 26 ≡ region_index_of w
index_back pc w = index_in_region (pc_plus_4 pc) (region_index_of w) (index_small w)
