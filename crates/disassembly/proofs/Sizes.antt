-- How long the line of an instruction is at the most.
use Rattle.std.proofs.Common.{◌≡◌, ℕ, ◌+◌, ◌-◌, ◌*◌, ◌^◌, ◌≤◌, ◌<◌, true, List, [], ◌∷◌, ◌++◌, length, map, replicate, refl, arith, inl, inr}
use Rattle.std.specs.Prelude.{codes, nat_le}
use Rattle.std.specs.Fmt.{decimal, digits}
use Rattle.std.specs.List.{join_with_byte}
use Rattle.std.proofs.lemmas.Bool.{cases_Bool, leb-true}
use Rattle.std.proofs.lemmas.List.{length-append}
use Rattle.std.proofs.lemmas.Fmt.{length-decimal-le}
use Rattle.instructions.specs.declared.op.Op.{Op}
use Rattle.instructions.specs.declared.op.Op.TheVariants.{Addu}
use Rattle.instructions.specs.declared.instr.Instr.{Instr}
use Rattle.isa.specs.declared.listing.slot.Slot.{Slot}
use Rattle.isa.specs.declared.listing.slot.Slot.TheVariants.{Into, First, Second, S16, U16, U5, Label, Offset}
use Rattle.isa.specs.declared.listing.instr_text.RegisterStyle.TheVariants.{Names}
use Rattle.isa.specs.Report.{hex8}
use Rattle.isa.specs.Forms.{operation_word, slots_of}
use Rattle.isa.specs.InstrText.{register_text, signed_text, label_text, operand_text, with_operands_text, is_nop, text_of, Fits, AllFit, IsSignedHalf, IsWritable}
use Rattle.isa.proofs.TextNumbers.{signed_positive, signed_negative, below_zero}
use Rattle.disassembly.specs.Writing.{code_line}
use Rattle.disassembly.proofs.Few.{all_under, under}

names_short : all_under (λ r. nat_le (length (register_text Names r)) 5) 32 ≡ true
unfolding digits
names_short = refl

register_size : (r : ℕ) → r < 32 → length (register_text Names r) ≤ 5
register_size r h = leb-true _ 5 (under (λ r. nat_le (length (register_text Names r)) 5) 32 r names_short h)

decimal_size : (n : ℕ) → n ≤ 65535 → length (decimal n) ≤ 5
decimal_size n h = length-decimal-le 5 n (omega arith) (omega arith) (omega arith)

signed_size : (n : ℕ) → IsSignedHalf n → length (signed_text n) ≤ 6
signed_size n h = elim h [
  | inl low ↦ let size = decimal_size n (omega arith) in rw (signed_positive n low) (omega arith)
  | inr high ↦
      let at : 2 ^ 32 - 32768 ≤ n = high.0 in
      let size = decimal_size (below_zero n) (omega arith) in
      rw (signed_negative n at) (omega arith)
]

label_size : (n : ℕ) → length (label_text n) ≤ 16
unfolding hex8
label_size n = omega arith

offset_size : (xs ys : List ℕ) → length xs ≤ 6 → length ys ≤ 5 → length (xs ++ (codes "(" ++ (ys ++ codes ")"))) ≤ 16
offset_size xs ys hx hy = omega (arith, length-append xs (codes "(" ++ (ys ++ codes ")")), length-append ys (codes ")"))

operand_size : (i : Instr) (s : Slot) → Fits i s → length (operand_text Names s i) ≤ 16
operand_size i Into h = let size = register_size i.target h in omega arith
operand_size i First h = let size = register_size i.first h in omega arith
operand_size i Second h = let size = register_size i.second h in omega arith
operand_size i S16 h = let size = signed_size i.number h in omega arith
operand_size i U16 h = let size = decimal_size i.number h in omega arith
operand_size i U5 h = let size = decimal_size i.number (omega arith) in omega arith
operand_size i Label h = label_size i.number
operand_size i Offset h = offset_size (signed_text i.number) (register_text Names i.first) (signed_size i.number h.0) (register_size i.first h.1)

joined_size : (i : Instr) (ss : List Slot) → AllFit i ss → length (join_with_byte 44 (map (λ s. operand_text Names s i) ss)) ≤ length ss * 17
joined_size i [] h = omega arith
joined_size i (s ∷ []) h = let size = operand_size i s h.0 in omega arith
joined_size i (s ∷ t ∷ ss) h =
    let size = operand_size i s h.0 in
    let rest = joined_size i (t ∷ ss) h.1 in
    let whole = length-append (operand_text Names s i) (44 ∷ join_with_byte 44 (map (λ s. operand_text Names s i) (t ∷ ss))) in
    omega arith

few_slots : (op : Op) → nat_le (length (slots_of op)) 3 ≡ true
few_slots Addu = refl
few_slots op = refl

short_word : (op : Op) → nat_le (length (operation_word op)) 5 ≡ true
short_word Addu = refl
short_word op = refl

operands_size : (word : List ℕ) (ps : List (List ℕ)) → length (with_operands_text word ps) ≤ length word + 1 + length (join_with_byte 44 ps)
operands_size word [] = omega arith
operands_size word (p ∷ ps) = omega (arith, length-append word (32 ∷ join_with_byte 44 (p ∷ ps)))

text_size : (i : Instr) → IsWritable i → length (text_of Names i) ≤ 60
text_size i w = elim (cases_Bool (is_nop i)) [
  | inl nop ↦ rw nop (omega arith)
  | inr other ↦
      let slots = leb-true _ _ (few_slots i.op) in
      let word = leb-true _ _ (short_word i.op) in
      let joined = joined_size i (slots_of i.op) w.fits in
      let all = operands_size (operation_word i.op) (map (λ s. operand_text Names s i) (slots_of i.op)) in
      rw other (omega arith)
]

pub code_length : (i : Instr) → IsWritable i → length (code_line i) + 1 ≤ 79
code_length i w =
    let text = text_size i w in
    let all = length-append (replicate 8 32) (text_of Names i) in
    omega arith
