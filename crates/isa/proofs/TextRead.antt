-- An instruction's text is read back as that instruction.
use Rattle.std.proofs.Common.{◌≡◌, ℕ, zero, suc, Bool, true, false, not, ◌&&◌, ◌==◌, leb, List, [], ◌∷◌, ◌++◌, length, drop, map, replicate, None, Ok, refl, ap, ◌∙◌, sym, arith, inl, inr, eqb-true}
use Rattle.std.specs.Prelude.{codes, if◌then◌else◌}
use Rattle.std.specs.List.{after_first, join_with_byte, prefix_len}
use Rattle.std.proofs.lemmas.Bool.{and_parts, cases_Bool}
use Rattle.std.proofs.lemmas.Bool.Decides.{nat_tests}
use Rattle.std.proofs.lemmas.List.{length-map}
use Rattle.lexical.specs.Blank.{is_blank, trim, trim_start}
use Rattle.lexical.specs.Label.{labels_of, statement_of}
use Rattle.lexical.specs.Operand.{operands}
use Rattle.instructions.specs.declared.op.Op.{Op}
use Rattle.instructions.specs.declared.op.Op.TheVariants.{Addu, Sll}
use Rattle.instructions.specs.declared.instr.Instr.{Instr}
use Rattle.isa.specs.declared.listing.instr_text.RegisterStyle.{RegisterStyle}
use Rattle.instructions.specs.Instruction.{instr_with}
use Rattle.isa.specs.Forms.{is_operation, form_with, form_of, form_as_written, operation_word, slots_of}
use Rattle.isa.specs.Statement.{Parsed, bare, is_word, instruction, with_operands, statement, filled, gives_code}
use Rattle.isa.specs.Listing.{read, labels}
use Rattle.isa.specs.InstrText.{operand_text, with_operands_text, is_nop, text_of, said_of, ReadsAs, IsWritable, TextIsReadBack}
use Rattle.isa.proofs.Statements.{instruction_ok, statement_is}
use Rattle.isa.proofs.TextBytes.{Of, of_all, of_append, of_other, inner, inner_no_blank, IsPart, part_of, part_starts, part_ends, AreParts, Starts, Ends, ends_after, joined_ends, some_length}
use Rattle.isa.proofs.TextBytes.{trim_end_whole, before_at, after_at, before_whole, after_whole, split_whole, operands_joined}
use Rattle.isa.proofs.TextOperands.{filled_of, parts_are}

-- ---- words

form_is : (op : Op) → form_of (operation_word op) (length (slots_of op)) ≡ Ok (form_as_written op)
unfolding is_operation form_with
form_is Addu = refl
form_is op = refl

word_part : (op : Op) → IsPart (operation_word op)
word_part Addu = of_all inner (codes "addu") refl
word_part op = of_all inner (operation_word op) refl

no_space : (op : Op) → is_word (codes ".space") (operation_word op) ≡ false
no_space Addu = refl
no_space op = refl

no_data : (op : Op) → is_word (codes ".word") (operation_word op) ≡ false
no_data Addu = refl
no_data op = refl

-- ---- statements

pub blank_after : (word : List ℕ) (parts : List (List ℕ)) → IsPart word → AreParts parts
    → statement (with_operands_text word parts) ≡ with_operands word parts
unfolding operands
blank_after word [] h hs =
    statement_is word word [] (some_length word (part_starts word h)) (sym (before_whole inner is_blank inner_no_blank word (part_of word h)))
    (ap operands (sym (after_whole inner is_blank inner_no_blank word (part_of word h))))
blank_after word (p ∷ ps) h hs =
    let rest : List ℕ = join_with_byte 44 (p ∷ ps) in
    let inside = part_of word h in
    let cut : after_first is_blank (word ++ 32 ∷ rest) ≡ rest = after_at inner is_blank inner_no_blank word 32 rest inside refl in
    statement_is (word ++ 32 ∷ rest) word (p ∷ ps) (some_length _ (starts word (part_starts word h)))
    (sym (before_at inner is_blank inner_no_blank word 32 rest inside refl))
    (sym (operands_joined p ps hs.0 hs.1) ∙ ap operands (sym cut))
  where
    starts : (xs : List ℕ) → Starts xs → Starts (xs ++ 32 ∷ join_with_byte 44 (p ∷ ps))
    starts [] s = absurd s
    starts (x ∷ xs) s = s

-- ---- lines

-- a byte that may stand in a statement
abbrev pub in_code : ℕ → Bool
in_code b = (leb 32 b && leb b 122) && (not (b == 35) && not (b == 58))

pub inner_in_code : (b : ℕ) → inner b ≡ true → in_code b ≡ true
inner_in_code b h = grind (arith, nat_tests)

pub no_comment : (b : ℕ) → in_code b ≡ true → (b == 35) ≡ false
no_comment b h = grind (arith, nat_tests)

pub no_colon : (b : ℕ) → in_code b ≡ true → (b == 58) ≡ false
no_colon b h = grind (arith, nat_tests)

part_in_code : (xs : List ℕ) → IsPart xs → Of in_code xs
part_in_code xs h = of_other inner in_code inner_in_code xs (part_of xs h)

joined_in_code : (p : List ℕ) (ps : List (List ℕ)) → IsPart p → AreParts ps → Of in_code (join_with_byte 44 (p ∷ ps))
joined_in_code p [] h hs = part_in_code p h
joined_in_code p (q ∷ qs) h hs = of_append in_code p (44 ∷ join_with_byte 44 (q ∷ qs)) (part_in_code p h) (refl, joined_in_code q qs hs.0 hs.1)

pub record IsCode (text : List ℕ) : Type 0 where
  pub bytes : Of in_code text
  pub starts : Starts text
  pub ends : Ends text

pub with_operands_code : (word : List ℕ) (parts : List (List ℕ)) → IsPart word → AreParts parts → IsCode (with_operands_text word parts)
with_operands_code word [] h hs = record { bytes = part_in_code word h; starts = part_starts word h; ends = part_ends word h }
with_operands_code word (p ∷ ps) h hs = record {
  bytes = of_append in_code word (32 ∷ join_with_byte 44 (p ∷ ps)) (part_in_code word h) (refl, joined_in_code p ps hs.0 hs.1);
  starts = starts word (part_starts word h);
  ends = ends_after word (32 ∷ join_with_byte 44 (p ∷ ps)) (ends_after (32 ∷ []) (join_with_byte 44 (p ∷ ps)) (joined_ends p ps hs.0 hs.1));
}
  where
    starts : (xs : List ℕ) → Starts xs → Starts (xs ++ 32 ∷ join_with_byte 44 (p ∷ ps))
    starts [] s = absurd s
    starts (x ∷ xs) s = s

indent_length : (n : ℕ) (xs : List ℕ) → Starts xs → prefix_len is_blank (replicate n 32 ++ xs) ≡ n
indent_length zero [] h = absurd h
indent_length zero (x ∷ xs) h = rw h refl
indent_length (suc n) xs h = rw (indent_length n xs h) (omega arith)

indent_dropped : (n : ℕ) (xs : List ℕ) → drop n (replicate n 32 ++ xs) ≡ xs
indent_dropped zero xs = refl
indent_dropped (suc n) xs = indent_dropped n xs

pub start_trimmed : (n : ℕ) (xs : List ℕ) → Starts xs → trim_start (replicate n 32 ++ xs) ≡ xs
start_trimmed n xs s = rw (indent_length n xs s) (indent_dropped n xs)

pub indent_trimmed : (n : ℕ) (xs : List ℕ) → Starts xs → Ends xs → trim (replicate n 32 ++ xs) ≡ xs
indent_trimmed n xs s e = rw (indent_length n xs s, indent_dropped n xs) (trim_end_whole xs e)

pub indent_in_code : (n : ℕ) → Of in_code (replicate n 32)
indent_in_code zero = tt
indent_in_code (suc n) = (refl, indent_in_code n)

-- a line of code is read as its statement, and has no label
pub code_read : (n : ℕ) (text : List ℕ) → IsCode text → read (replicate n 32 ++ text) ≡ statement text
unfolding statement_of
code_read n text h =
    let bytes : Of in_code (replicate n 32 ++ text) = of_append in_code (replicate n 32) text (indent_in_code n) h.bytes in
    rw (before_whole in_code (λ b. b == 35) no_comment _ bytes, split_whole in_code (λ b. b == 58) no_colon _ bytes, indent_trimmed n text h.starts h.ends)
    refl

pub code_unlabelled : (n : ℕ) (text : List ℕ) → IsCode text → labels (replicate n 32 ++ text) ≡ []
unfolding labels_of
code_unlabelled n text h =
    let bytes : Of in_code (replicate n 32 ++ text) = of_append in_code (replicate n 32) text (indent_in_code n) h.bytes in
    rw (before_whole in_code (λ b. b == 35) no_comment _ bytes, split_whole in_code (λ b. b == 58) no_colon _ bytes) refl

-- ---- instructions

-- what `nop` is read as
abbrev pub nothing : Parsed
nothing = record { instr = bare Sll; label = None }

nop_read : statement (codes "nop") ≡ gives_code nothing
unfolding statement with_operands operands instruction is_operation form_with filled
nop_read = refl

nop_code : IsCode (codes "nop")
nop_code = record { bytes = (refl, (refl, (refl, tt))); starts = refl; ends = refl }

nop_stands : (op : Op) (target first second number : ℕ) → is_nop (instr_with op target first second number) ≡ true
    → IsWritable (instr_with op target first second number) → ReadsAs nothing (instr_with op target first second number)
nop_stands Sll target first second number h w =
    let one = and_parts (target == 0) _ h in
    let two = and_parts (first == 0) (number == 0) one.1 in
    let whole : instr_with Sll target first 0 number ≡ instr_with Sll target first second number = w.whole in
    let no_target : target ≡ 0 = eqb-true target 0 one.0 in
    let no_first : first ≡ 0 = eqb-true first 0 two.0 in
    let no_number : number ≡ 0 = eqb-true number 0 two.1 in
    rw (no_target, no_first, no_number) (rw (no_target, no_first, no_number) at whole)
nop_stands op target first second number h w = absurd (cc)

module _ (naming : RegisterStyle) (i : Instr) (w : IsWritable i) where
  instruction_is : instruction (operation_word i.op) (map (λ s. operand_text naming s i) (slots_of i.op)) ≡ Ok (said_of i)
  unfolding instruction
  instruction_is =
      rw (length-map (slots_of i.op) (λ s. operand_text naming s i), form_is i.op)
      (filled_of naming i (slots_of i.op) (record { instr = bare i.op; label = None }) w.fits)

  whole_statement : statement (with_operands_text (operation_word i.op) (map (λ s. operand_text naming s i) (slots_of i.op))) ≡ gives_code (said_of i)
  whole_statement =
      blank_after (operation_word i.op) (map (λ s. operand_text naming s i) (slots_of i.op)) (word_part i.op) (parts_are naming i (slots_of i.op) w.fits)
      ∙ instruction_ok (operation_word i.op) (map (λ s. operand_text naming s i) (slots_of i.op)) (no_space i.op) (no_data i.op) (said_of i) instruction_is

  whole_code : IsCode (with_operands_text (operation_word i.op) (map (λ s. operand_text naming s i) (slots_of i.op)))
  whole_code = with_operands_code (operation_word i.op) (map (λ s. operand_text naming s i) (slots_of i.op)) (word_part i.op) (parts_are naming i (slots_of i.op) w.fits)

  pub text_code : IsCode (text_of naming i)
  text_code = elim (cases_Bool (is_nop i)) [
    | inl nop ↦ rw nop nop_code
    | inr other ↦ rw other whole_code
  ]

-- what the text of an instruction is read as
abbrev pub spoken : Instr → Parsed
spoken i = if is_nop i then nothing else said_of i

pub text_spoken : (naming : RegisterStyle) (i : Instr) → IsWritable i → statement (text_of naming i) ≡ gives_code (spoken i)
text_spoken naming i w = elim (cases_Bool (is_nop i)) [
  | inl nop ↦ rw nop nop_read
  | inr other ↦ rw other (whole_statement naming i w)
]

pub spoken_stands : (i : Instr) → IsWritable i → ReadsAs (spoken i) i
spoken_stands i w = elim (cases_Bool (is_nop i)) [
  | inl nop ↦ rw nop (nop_stands i.op i.target i.first i.second i.number nop w)
  | inr other ↦ rw other w.whole
]

pub read_back : TextIsReadBack
read_back naming i indent w =
    let code = text_code naming i w in
    record {
      parsed = spoken i;
      is = code_read indent (text_of naming i) code ∙ text_spoken naming i w;
      stands = spoken_stands i w;
      bare_line = code_unlabelled indent (text_of naming i) code;
    }
