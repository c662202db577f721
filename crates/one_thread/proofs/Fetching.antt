-- The decoded instruction at an address.
use Rattle.std.proofs.lemmas.Grind.{common_steps}
use Rattle.std.proofs.Common.{bit_or, ◌*◌, ◌≡◌, ◌≢◌, ◌<◌, ◌≤◌, ◌-◌, ◌+◌, ◌/◌, ◌%◌, ◌^◌, ℕ, zero, suc, true, false, eqb, eqb-true, eq-eqb, List, [], ◌∷◌, length, get_or, None, Some, refl, sym, ap, ◌∙◌, subst, ⊎_elim, arith}
use Rattle.std.specs.Prelude.{slice_get}
use Rattle.std.proofs.lemmas.Bool.{cases_lt}
use Rattle.std.proofs.lemmas.Nat.{le_or_r}
use Rattle.std.specs.Int.Bits.{or_zero_r}
use Rattle.std.proofs.lemmas.Option.{slice_get_past}
use Rattle.instructions.specs.Programs.{Program, address, instr_at}
use Rattle.instructions.specs.declared.instr.Instr.{Instr}
use Rattle.one_thread.specs.Decoding.{IsDecoded, text_index}

-- no instruction stands at an address that is none of the text's
none_at : (P : Program) (pc : ℕ) → eqb (address ((pc - 0x00400000) / 4)) pc ≡ false → instr_at P pc ≡ None
unfolding instr_at
none_at P pc e = rw e refl

some_at : (P : Program) (pc : ℕ) → eqb (address ((pc - 0x00400000) / 4)) pc ≡ true → instr_at P pc ≡ slice_get P.code ((pc - 0x00400000) / 4)
unfolding instr_at
some_at P pc e = rw e refl

not_same : (a b : ℕ) → a ≢ b → eqb a b ≡ false
not_same a b n = grind (arith, common_steps, eqb-true)

uneven_none : (P : Program) (pc : ℕ) → pc < 2 ^ 32 → (pc + 4290772992) % 4294967296 % 4 ≢ 0 → instr_at P pc ≡ None
uneven_none P pc small n = grind (arith, common_steps, none_at, not_same)

even_is : (P : Program) (code : List Instr) (pc : ℕ) → IsDecoded code P → pc < 2 ^ 32 → (pc + 4290772992) % 4294967296 % 4 ≡ 0 →
    slice_get code ((pc + 4290772992) % 4294967296 / 4) ≡ instr_at P pc
even_is P code pc d small even = grind (arith, common_steps, cases_lt, slice_get_past, none_at, not_same, some_at, eq-eqb)

-- an instruction stands at a multiple of 4
known_even : (P : Program) (pc : ℕ) (i : Instr) → pc < 2 ^ 32 → instr_at P pc ≡ Some i → (pc + 4290772992) % 4294967296 % 4 ≡ 0
known_even P pc i small is = grind (arith, common_steps, cases_lt, uneven_none)

-- an address whose offset is a multiple of 4 stands at that place
index_even : (pc : ℕ) → (pc + 4290772992) % 4294967296 % 4 ≡ 0 → text_index pc ≡ (pc + 4290772992) % 4294967296 / 4
index_even pc e =
    let zero : (pc + 4290772992) % 4294967296 * 1073741824 % 4294967296 ≡ 0 = omega (arith, e) in
    ap (bit_or ((pc + 4290772992) % 4294967296 / 4)) zero ∙ or_zero_r ((pc + 4290772992) % 4294967296 / 4)

-- one that stands among 16,384 is a multiple of 4
index_small : (pc : ℕ) → text_index pc < 16384 → (pc + 4290772992) % 4294967296 % 4 ≡ 0
index_small pc l = grind (arith, common_steps, le_or_r)

pub index_past : (P : Program) (code : List Instr) (pc : ℕ) → IsDecoded code P → pc < 2 ^ 32 → length code ≤ text_index pc → instr_at P pc ≡ None
index_past P code pc d small past = ⊎_elim odd (λ none. even (omega (arith, none))) (cases_lt 0 ((pc + 4290772992) % 4294967296 % 4))
  where
    odd : 0 < (pc + 4290772992) % 4294967296 % 4 → instr_at P pc ≡ None
    odd more = uneven_none P pc small (omega (arith, more))

    even : (pc + 4290772992) % 4294967296 % 4 ≡ 0 → instr_at P pc ≡ None
    even e =
        let far : length code ≤ (pc + 4290772992) % 4294967296 / 4 = subst (λ n. length code ≤ n) (index_even pc e) past in
        sym (even_is P code pc d small e) ∙ slice_get_past code _ far

pub index_is : (P : Program) (code : List Instr) (pc : ℕ) → IsDecoded code P → pc < 2 ^ 32 → text_index pc < length code → slice_get code (text_index pc) ≡ instr_at P pc
index_is P code pc d small inside = grind (arith, common_steps, index_small, index_even, even_is)

-- where an instruction stands the code looks for it
pub index_known : (P : Program) (code : List Instr) (pc : ℕ) (i : Instr) → IsDecoded code P → pc < 2 ^ 32 → instr_at P pc ≡ Some i → slice_get code (text_index pc) ≡ Some i
index_known P code pc i d small is = grind (arith, common_steps, known_even, index_even, even_is)

-- What a slot holds
pub read_slot : {X : Type 0} (xs : List X) (i : ℕ) (x : X) → i < length xs → x ≡ get_or xs i x → slice_get xs i ≡ Some x
read_slot [] i x l e = absurd (omega (arith, l))
read_slot (y ∷ xs) zero x l e = ap Some (sym e)
read_slot (y ∷ xs) (suc i) x l e = read_slot xs i x (omega (arith, l)) e
