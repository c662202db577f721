-- What the operations and loads make of words is words.
use Rattle.std.proofs.Common.{◌≡◌, ℕ, zero, suc, ◌+◌, ◌-◌, ◌*◌, ◌/◌, ◌%◌, ◌^◌, ◌<◌, ◌≤◌, Bool, true, false, cond, eqb, leb, ltb, Ok, Err, refl, arith}
use Rattle.std.specs.Prelude.{◌+ℤ◌, ◌-ℤ◌, Result, IfOk, ℤ, pos, negsuc, neg_ℤ, int_lt, int_div, int_rem, unsigned_abs, ⊤}
use Rattle.std.specs.Ordering.{int_eq}
use Rattle.std.specs.Int.{w32, w8, w16, cast_unsigned, int_div_euclid}
use Rattle.std.specs.Int.Bits.{and_lt}
use Rattle.std.proofs.lemmas.Nat.{or_of_32, xor_of_32}
use Rattle.instructions.specs.Operations.{IsWord, as_address, as_value, checked_address, computed_by, extended, fits_word, fitted, flag}
use Rattle.instructions.specs.Operations.{jump_target, loaded, outcome_by, shifted_left, shifted_signed, signed, taken_if}
use Rattle.instructions.specs.Products.{divided, word_of_half, product, signed_divided, signed_product}
use Rattle.instructions.specs.declared.instr.Instr.{Instr}
use Rattle.instructions.specs.declared.op.Half.{Half}
use Rattle.instructions.specs.declared.op.Half.TheVariants.{High, Low}
use Rattle.instructions.specs.declared.op.Kind.{Kind}
use Rattle.instructions.specs.declared.op.Kind.TheVariants.{Computes, Jumps, Links, Loads, Stores}
use Rattle.instructions.specs.declared.op.Op.{Op}
use Rattle.instructions.specs.declared.op.Op.TheVariants.{Mult, Multu, Div, Divu, Mflo, Mfhi, Mtlo, Mthi, Add, Addi, Addiu, Addu, And, Andi, Beq, Bgez, Bgtz, Blez, Bltz, Bne, Break, J, Jal, Jalr, Jr}
use Rattle.instructions.specs.declared.op.Op.TheVariants.{Lb, Lbu, Lh, Lhu, Lui, Lw, Nor, Or, Ori, Sb, Sh, Sll, Sllv, Slt, Slti, Sltiu, Sltu, Sra, Srav, Srl, Srlv, Sub, Subu, Sw, Xor, Xori}
use Rattle.instructions.specs.declared.stop.Outcome.{Outcome}
use Rattle.instructions.specs.declared.stop.Outcome.TheVariants.{Pair, Address, Next, Stop as Stops, Value}
use Rattle.instructions.specs.declared.stop.Stop.{Stop}
use Rattle.instructions.specs.declared.stop.Stop.TheVariants.{OutOfRange, Overflow, Unaligned}

word_sum : (n : ℕ) → IsWord (n % 2 ^ 32)
word_sum n = omega arith

word_div : (a n : ℕ) → IsWord a → IsWord (a / 2 ^ n)
word_div a n h = grind arith

-- what fits is a word
fitted_word : (z : ℤ) → IfOk (fitted z) IsWord
fitted_word (pos n) = go (fits_word (pos n)) refl
  where
    go : (b : Bool) → fits_word (pos n) ≡ b → IfOk (cond b (Ok n) (Err Overflow)) IsWord
    go true e = grind arith
    go false e = tt
fitted_word (negsuc n) = go (fits_word (negsuc n))
  where
    go : (b : Bool) → IfOk (cond b (Ok (2 ^ 32 - suc n)) (Err Overflow)) IsWord
    go true = omega arith
    go false = tt

flag_word : (b : Bool) → IfOk (flag b) IsWord
flag_word true = omega arith
flag_word false = omega arith

shifted_word : (a n : ℕ) → IsWord a → IsWord (shifted_signed a n)
shifted_word a n h = go (ltb a (2 ^ 31))
  where
    go : (b : Bool) →
        IsWord (cast_unsigned w32 (int_div_euclid (cond b (pos a) (negsuc (2 ^ 32 - suc a))) (pos (2 ^ n))))
    go true = word_div a n h
    go false = omega arith

shifted_left_word : (a n : ℕ) → IsWord (shifted_left a n)
shifted_left_word a n = word_sum (a * 2 ^ n)

-- products and quotients
half_word : (half : Half) (n : ℕ) → IsWord (word_of_half half n)
half_word Low n = omega arith
half_word High n = omega arith

divided_word : (half : Half) (a b : ℕ) → IsWord a → IsWord b → IsWord (divided half a b)
divided_word Low a b h g = go (eqb b 0)
  where
    go : (z : Bool) → IsWord (cond z 0 (a / b))
    go true = omega arith
    go false = grind arith
divided_word High a b h g = go (eqb b 0)
  where
    go : (z : Bool) → IsWord (cond z a (a % b))
    go true = h
    go false = grind arith

-- at most 2^31 away from 0
abbrev IsNear : ℤ → Type 0
IsNear z = unsigned_abs z ≤ 2 ^ 31

signed_near : (a : ℕ) → IsWord a → IsNear (signed a)
signed_near a h = go (ltb a (2 ^ 31)) refl
  where
    go : (b : Bool) → ltb a (2 ^ 31) ≡ b → IsNear (cond b (pos a) (negsuc (2 ^ 32 - suc a)))
    go true e = grind arith
    go false e = grind arith

near_word : (z : ℤ) → IsNear z → IsWord (cast_unsigned w32 z)
near_word (pos n) h = omega arith
near_word (negsuc n) h = omega arith

neg_near : (n : ℕ) → n ≤ 2 ^ 31 → IsNear (neg_ℤ (pos n))
neg_near zero h = omega arith
neg_near (suc n) h = h

quotient_near : (a b : ℤ) → IsNear a → IsNear (int_div a b)
quotient_near (pos a) (pos b) h = grind arith
quotient_near (pos a) (negsuc b) h = neg_near (a / suc b) (grind arith)
quotient_near (negsuc a) (pos b) h = neg_near (suc a / b) (grind arith)
quotient_near (negsuc a) (negsuc b) h = grind arith

remainder_near : (a b : ℤ) → IsNear a → IsNear (int_rem a b)
remainder_near (pos a) b h = grind arith
remainder_near (negsuc a) b h = neg_near (suc a % unsigned_abs b) (grind arith)

signed_divided_word : (half : Half) (a b : ℕ) → IsWord a → IsWord b → IsWord (signed_divided half (signed a) (signed b))
signed_divided_word Low a b h g = go (int_eq (signed b) (pos 0))
  where
    go : (z : Bool) → IsWord (cond z 0 (cast_unsigned w32 (int_div (signed a) (signed b))))
    go true = omega arith
    go false = near_word (int_div (signed a) (signed b)) (quotient_near (signed a) (signed b) (signed_near a h))
signed_divided_word High a b h g = go (int_eq (signed b) (pos 0))
  where
    go : (z : Bool) → IsWord (cond z (cast_unsigned w32 (signed a)) (cast_unsigned w32 (int_rem (signed a) (signed b))))
    go true = near_word (signed a) (signed_near a h)
    go false = near_word (int_rem (signed a) (signed b)) (remainder_near (signed a) (signed b) (signed_near a h))

-- the tables
computed_words : (op : Op) (half : Half) (a b i : ℕ) → IsWord a → IsWord b → IsWord i → IfOk (computed_by op half a b i) IsWord
unfolding computed_by
computed_words Addu half a b i u v w = word_sum (a + b)
computed_words Subu half a b i u v w = word_sum (a + (2 ^ 32 - b))
computed_words Add half a b i u v w = fitted_word (signed a +ℤ signed b)
computed_words Sub half a b i u v w = fitted_word (signed a -ℤ signed b)
computed_words And half a b i u v w = and_lt 32 a b u v
computed_words Or half a b i u v w = or_of_32 a b u v
computed_words Xor half a b i u v w = xor_of_32 a b u v
computed_words Nor half a b i u v w = omega arith
computed_words Slt half a b i u v w = flag_word (int_lt (signed a) (signed b))
computed_words Sltu half a b i u v w = flag_word (ltb a b)
computed_words Sll half a b i u v w = shifted_left_word a (i % 32)
computed_words Srl half a b i u v w = word_div a (i % 32) u
computed_words Sra half a b i u v w = shifted_word a (i % 32) u
computed_words Sllv half a b i u v w = shifted_left_word a (b % 32)
computed_words Srlv half a b i u v w = word_div a (b % 32) u
computed_words Srav half a b i u v w = shifted_word a (b % 32) u
computed_words Mult half a b i u v w = half_word half (signed_product (signed a) (signed b))
computed_words Multu half a b i u v w = half_word half (product a b)
computed_words Div half a b i u v w = signed_divided_word half a b u v
computed_words Divu half a b i u v w = divided_word half a b u v
computed_words Mflo half a b i u v w = u
computed_words Mfhi half a b i u v w = u
computed_words Mtlo half a b i u v w = u
computed_words Mthi half a b i u v w = u
computed_words Addiu half a b i u v w = word_sum (a + i)
computed_words Addi half a b i u v w = fitted_word (signed a +ℤ signed i)
computed_words Slti half a b i u v w = flag_word (int_lt (signed a) (signed i))
computed_words Sltiu half a b i u v w = flag_word (ltb a i)
computed_words Andi half a b i u v w = and_lt 32 a i u w
computed_words Ori half a b i u v w = or_of_32 a i u w
computed_words Xori half a b i u v w = xor_of_32 a i u w
computed_words Lui half a b i u v w = shifted_left_word i 16
computed_words op half a b i u v w = tt

taken_word : (b : Bool) (pc to : ℕ) → IsWord to → IsWord (taken_if b pc to)
taken_word true pc to h = h
taken_word false pc to h = word_sum (pc + 4)

jump_words : (op : Op) (pc a b to : ℕ) → IsWord a → IsWord to → IsWord (jump_target op pc a b to)
unfolding jump_target
jump_words Beq pc a b to u w = taken_word _ pc to w
jump_words Bne pc a b to u w = taken_word _ pc to w
jump_words Blez pc a b to u w = taken_word _ pc to w
jump_words Bgtz pc a b to u w = taken_word _ pc to w
jump_words Bltz pc a b to u w = taken_word _ pc to w
jump_words Bgez pc a b to u w = taken_word _ pc to w
jump_words Jr pc a b to u w = u
jump_words Jalr pc a b to u w = u
jump_words op pc a b to u w = w

address_words : (w a size : ℕ) → IsWord a → IfOk (checked_address w a size) IsWord
unfolding checked_address
address_words w a size h = go (eqb (a % w) 0) (leb (a + w) size)
  where
    go : (b c : Bool) → IfOk (cond b (cond c (Ok a) (Err OutOfRange)) (Err Unaligned)) IsWord
    go true true = h
    go true false = tt
    go false c = tt

-- the number of an outcome
abbrev pub OutcomeIsWord : Outcome → Type 0
OutcomeIsWord (Value v) = IsWord v
OutcomeIsWord (Next x) = IsWord x
OutcomeIsWord (Address a) = IsWord a
OutcomeIsWord (Stops c) = ⊤
OutcomeIsWord (Pair l h) = IsWord l

value_word : (r : Result ℕ Stop) → IfOk r IsWord → OutcomeIsWord (as_value r)
value_word (Ok v) h = h
value_word (Err c) h = tt

address_word : (r : Result ℕ Stop) → IfOk r IsWord → OutcomeIsWord (as_address r)
address_word (Ok v) h = h
address_word (Err c) h = tt

pub outcome_words : (k : Kind) (i : Instr) (half : Half) (pc a b size : ℕ) → IsWord i.number → IsWord a → IsWord b →
    OutcomeIsWord (outcome_by k i half pc a b size)
outcome_words Computes i half pc a b size n u v = value_word _ (computed_words i.op half a b i.number u v n)
outcome_words Jumps i half pc a b size n u v = jump_words i.op pc a b i.number u n
outcome_words Links i half pc a b size n u v = jump_words i.op pc a b i.number u n
outcome_words Loads i half pc a b size n u v = address_word _ (address_words _ _ size (word_sum (a + i.number)))
outcome_words Stores i half pc a b size n u v = address_word _ (address_words _ _ size (word_sum (a + i.number)))

extended_8 : (n : ℕ) → n < 2 ^ 8 → IsWord (extended w8 n)
extended_8 n h = go (ltb n (2 ^ 7))
  where
    go : (b : Bool) → IsWord (cast_unsigned w32 (cond b (pos n) (negsuc (2 ^ 8 - suc n))))
    go true = omega arith
    go false = omega arith

extended_16 : (n : ℕ) → n < 2 ^ 16 → IsWord (extended w16 n)
extended_16 n h = go (ltb n (2 ^ 15))
  where
    go : (b : Bool) → IsWord (cast_unsigned w32 (cond b (pos n) (negsuc (2 ^ 16 - suc n))))
    go true = omega arith
    go false = omega arith

pub loaded_words : (op : Op) (raw : ℕ) → IsWord raw → IsWord (loaded op raw)
unfolding loaded
loaded_words Lb raw h = extended_8 (raw % 2 ^ 8) (omega arith)
loaded_words Lh raw h = extended_16 (raw % 2 ^ 16) (omega arith)
loaded_words op raw h = h
