-- The fault of a statement is the first of its table that holds.
use Rattle.std.proofs.Common.{◌≡◌, ℕ, ◌%◌, ◌&&◌, Bool, true, false, List, [], ◌∷◌, ◌++◌, length, replicate, Option, Some, None, Result, Ok, Err, refl, sym, ap, ◌∙◌, subst, arith, inl, inr}
use Rattle.std.specs.Prelude.{◌==◌, not, is_none, ok_or, if◌then◌else◌, codes}
use Rattle.std.specs.List.{flat_map, find, before_first, after_first}
use Rattle.std.specs.Option.{option_or}
use Rattle.std.proofs.lemmas.Bool.{cases_Bool, eqb-true, ne_eqb}
use Rattle.std.proofs.lemmas.List.{append-nil}
use Rattle.lexical.specs.Blank.{is_blank}
use Rattle.lexical.specs.Name.{is_name}
use Rattle.lexical.specs.Number.{first_is, begins_number, number_in}
use Rattle.lexical.specs.Operand.{operands, parenthesized}
use Rattle.isa.specs.declared.listing.fault.FaultKind.{FaultKind}
use Rattle.isa.specs.declared.listing.fault.FaultKind.TheVariants.{UnknownOp, BadOperands, BadRegister, BadNumber}
use Rattle.isa.specs.declared.listing.slot.Slot.{Slot}
use Rattle.isa.specs.declared.listing.slot.Slot.TheVariants.{Into, First, Second, S16, U16, U5, Label, Offset}
use Rattle.isa.specs.Reading.{◌>>=◌}
use Rattle.isa.specs.RegisterNames.{register, register_number, existing}
use Rattle.isa.specs.Operands.{number, signed_half, label, offset, offset_and_register}
use Rattle.isa.specs.Forms.{Form, slots, has_word, has_word_and_count, forms, is_operation, form_with, form_of}
use Rattle.isa.specs.Statement.{Parsed, fill, filled, instruction, space, words, data_words, is_word, with_operands, statement}
use Rattle.isa.specs.Faults.{Fault, first_kind, register_faults, number_faults, label_faults, offset_faults, address_faults, operand_faults, operands_faults, slots_if}
use Rattle.isa.specs.Faults.{instruction_faults, is_size, size_faults, space_faults, words_faults, faults_with, statement_faults}

-- what is wrong, if something is
abbrev pub error_of : {A : Type 0} → Result A FaultKind → Option FaultKind
error_of (Ok x) = None
error_of (Err e) = Some e

-- ---- readings

pub first_append : (xs ys : List Fault) → first_kind (xs ++ ys) ≡ option_or (first_kind xs) (first_kind ys)
first_append [] ys = refl
first_append ((k, true) ∷ xs) ys = refl
first_append ((k, false) ∷ xs) ys = first_append xs ys

then_next : {A B : Type 0} (r : Result A FaultKind) (f : A → Result B FaultKind) (xs ys : List Fault) → error_of r ≡ first_kind xs
    → ((x : A) → r ≡ Ok x → error_of (f x) ≡ first_kind ys) → error_of (r >>= f) ≡ first_kind (xs ++ ys)
then_next (Ok x) f xs ys first next = next x refl ∙ ap (λ (k : Option FaultKind). option_or k (first_kind ys)) first ∙ sym (first_append xs ys)
then_next (Err e) f xs ys first next = ap (λ (k : Option FaultKind). option_or k (first_kind ys)) first ∙ sym (first_append xs ys)

goes_on : {A B : Type 0} (r : Result A FaultKind) (g : A → B) → error_of (r >>= λ x. Ok (g x)) ≡ error_of r
goes_on (Ok x) g = refl
goes_on (Err e) g = refl

-- one condition, and then something that is there or not
both_there : {A : Type 0} (b : Bool) (o : Option A) (k j : FaultKind) → error_of (if b then ok_or o j else Err k) ≡ first_kind ((k, not b) ∷ (j, is_none o) ∷ [])
both_there true None k j = refl
both_there true (Some x) k j = refl
both_there false o k j = refl

-- one of two readings, and its table
unless : {A : Type 0} (b : Bool) (r q : Result A FaultKind) (xs ys : List Fault) → error_of r ≡ first_kind xs → error_of q ≡ first_kind ys
    → error_of (if b then r else q) ≡ first_kind (if b then xs else ys)
unless true r q xs ys first second = first
unless false r q xs ys first second = second

-- a condition, and then another reading
after : {A : Type 0} (b : Bool) (k : FaultKind) (r : Result A FaultKind) (xs : List Fault) → error_of r ≡ first_kind xs
    → error_of (if b then Err k else r) ≡ first_kind ((k, b) ∷ xs)
after true k r xs e = refl
after false k r xs e = e

-- ---- one operand

register_fault : (text : List ℕ) → error_of (register text) ≡ first_kind (register_faults text)
unfolding register
register_fault text = both_there (first_is 36 text) (existing (register_number _)) BadOperands BadRegister

number_fault : (below above : ℕ) (text : List ℕ) → error_of (number below above text) ≡ first_kind (number_faults below above text)
unfolding number
number_fault below above text = both_there (begins_number text) (number_in below above text) BadOperands BadNumber

label_fault : (text : List ℕ) → error_of (label text) ≡ first_kind (label_faults text)
label_fault text = elim (cases_Bool (is_name text)) [ inl is ↦ rw is refl | inr other ↦ rw other refl ]

offset_fault : (text : List ℕ) → error_of (offset text) ≡ first_kind (offset_faults text)
offset_fault text = unless (length text == 0) (Ok 0) (signed_half text) [] (number_faults 32768 32767 text) refl (number_fault 32768 32767 text)

address_fault : (parts : Option (List ℕ × List ℕ))
    → error_of {A = ℕ × ℕ} (ok_or parts BadOperands >>= λ p. offset p.0 >>= λ n. register p.1 >>= λ r. Ok (n, r)) ≡ first_kind (address_faults parts)
address_fault None = refl
address_fault (Some p) =
    then_next (offset p.0) (λ n. register p.1 >>= λ r. Ok (n, r)) (offset_faults p.0) (register_faults p.1) (offset_fault p.0)
    (λ n e. goes_on (register p.1) (λ r. (n, r)) ∙ register_fault p.1)

offset_and_register_fault : (text : List ℕ) → error_of (offset_and_register text) ≡ first_kind (address_faults (parenthesized text))
unfolding offset_and_register
offset_and_register_fault text = address_fault (parenthesized text)

fill_fault : (s : Slot) (text : List ℕ) (p : Parsed) → error_of (fill s text p) ≡ first_kind (operand_faults s text)
unfolding fill
fill_fault Into text p = goes_on (register text) _ ∙ register_fault text
fill_fault First text p = goes_on (register text) _ ∙ register_fault text
fill_fault Second text p = goes_on (register text) _ ∙ register_fault text
fill_fault S16 text p = goes_on (number 32768 32767 text) _ ∙ number_fault 32768 32767 text
fill_fault U16 text p = goes_on (number 0 65535 text) _ ∙ number_fault 0 65535 text
fill_fault U5 text p = goes_on (number 0 31 text) _ ∙ number_fault 0 31 text
fill_fault Label text p = goes_on (label text) _ ∙ label_fault text
fill_fault Offset text p = goes_on (offset_and_register text) _ ∙ offset_and_register_fault text

filled_fault : (ss : List Slot) (ts : List (List ℕ)) (p : Parsed) → length ss ≡ length ts → error_of (filled ss ts p) ≡ first_kind (operands_faults ss ts)
unfolding filled
filled_fault [] ts p e = refl
filled_fault (s ∷ ss) [] p e = absurd (omega (arith, e))
filled_fault (s ∷ ss) (t ∷ ts) p e =
    then_next (fill s t p) (filled ss ts) (operand_faults s t) (operands_faults ss ts) (fill_fault s t p)
    (λ q is. filled_fault ss ts q (omega (arith, e)))

-- ---- an instruction

second_of : (a b : Bool) → (a && b) ≡ true → b ≡ true
second_of true b e = e
second_of false b e = absurd cc

-- a row that is found has the number of operands that was asked for
found_count : (word : List ℕ) (n : ℕ) (rs : List Form) (row : Form) → find (has_word_and_count word n) rs ≡ Some row → length (slots row.operands) ≡ n
found_count word n [] row e = absurd cc
found_count word n (r ∷ rs) row e = elim (cases_Bool (has_word_and_count word n r)) [
  | inl is ↦
      let found : Some r ≡ Some row = rw is at e in
      let same : r ≡ row = cc in
      subst (λ (x : Form). length (slots x.operands) ≡ n) same (eqb-true (length (slots r.operands)) n (second_of (has_word word r) (length (slots r.operands) == n) is))
  | inr other ↦ let rest : find (has_word_and_count word n) rs ≡ Some row = rw other at e in found_count word n rs row rest
]

form_count : (word : List ℕ) (n : ℕ) (row : Form) → form_with word n ≡ Some row → length (slots row.operands) ≡ n
unfolding form_with
form_count word n row e = found_count word n forms row e

is_there : {A : Type 0} (b : Bool) (o : Option A) (k j : FaultKind) (x : A) → (if b then ok_or o j else Err k) ≡ Ok x → o ≡ Some x
is_there true None k j x e = absurd cc
is_there true (Some y) k j x e = cc
is_there false o k j x e = absurd cc

instruction_fault : (word : List ℕ) (parts : List (List ℕ)) → error_of (instruction word parts) ≡ first_kind (instruction_faults word parts)
unfolding instruction
instruction_fault word parts =
    let o : Option Form = form_with word (length parts) in
    then_next (form_of word (length parts)) _ ((UnknownOp, not (is_operation word)) ∷ (BadOperands, is_none o) ∷ []) (operands_faults (slots_if o) parts)
    (both_there (is_operation word) o UnknownOp BadOperands)
    (λ form is.
    let there : form_with word (length parts) ≡ Some form = is_there (is_operation word) o UnknownOp BadOperands form is in
    rw there (filled_fault (slots form.operands) parts _ (form_count word (length parts) form there)))

-- ---- directives

size_fault : (b : Bool) (o : Option ℕ)
    → error_of ((if b then ok_or o BadNumber else Err BadOperands) >>= λ n. if n % 4 == 0 then Ok (replicate {A = ℕ} n 0) else Err BadNumber)
    ≡ first_kind ((BadOperands, not b) ∷ (BadNumber, not (is_size o)) ∷ [])
size_fault false o = refl
size_fault true None = refl
size_fault true (Some n) = elim (cases_Bool (n % 4 == 0)) [ inl is ↦ rw is refl | inr other ↦ rw other refl ]

space_fault : (parts : List (List ℕ)) → error_of (space parts) ≡ first_kind (space_faults parts)
unfolding space number
space_fault [] = refl
space_fault (t ∷ []) = size_fault (begins_number t) (number_in 0 65536 t) ∙ ap first_kind (sym (append-nil (size_faults t)))
space_fault (t ∷ u ∷ ts) =
    let many : (length (t ∷ u ∷ ts) == 1) ≡ false = ne_eqb (length (t ∷ u ∷ ts)) 1 (λ e. omega (arith, e)) in
    rw many refl

words_fault : (parts : List (List ℕ)) → error_of (words parts) ≡ first_kind (flat_map (number_faults 2147483648 4294967295) parts)
unfolding words
words_fault [] = refl
words_fault (t ∷ ts) =
    then_next (number 2147483648 4294967295 t) _ (number_faults 2147483648 4294967295 t) (flat_map (number_faults 2147483648 4294967295) ts)
    (number_fault 2147483648 4294967295 t)
    (λ n is. goes_on (words ts) _ ∙ words_fault ts)

data_words_fault : (parts : List (List ℕ)) → error_of (data_words parts) ≡ first_kind (words_faults parts)
data_words_fault parts = after (length parts == 0) BadOperands (words parts) (flat_map (number_faults 2147483648 4294967295) parts) (words_fault parts)

-- ---- a statement

with_operands_fault : (word : List ℕ) (parts : List (List ℕ)) → error_of (with_operands word parts) ≡ first_kind (faults_with word parts)
unfolding with_operands
with_operands_fault word parts = elim (cases_Bool (is_word (codes ".space") word)) [
  | inl is ↦ rw is (goes_on (space parts) _ ∙ space_fault parts)
  | inr no_space ↦ elim (cases_Bool (is_word (codes ".word") word)) [
    | inl is ↦ rw (no_space, is) (goes_on (data_words parts) _ ∙ data_words_fault parts)
    | inr no_words ↦ rw (no_space, no_words) (goes_on (instruction word parts) _ ∙ instruction_fault word parts)
  ]
]

pub statement_fault : (text : List ℕ) → error_of (statement text) ≡ first_kind (statement_faults text)
unfolding statement statement_faults
statement_fault text = elim (cases_Bool (length text == 0)) [
  | inl is ↦ rw is refl
  | inr some ↦ rw some (with_operands_fault (before_first is_blank text) (operands (after_first is_blank text)))
]
