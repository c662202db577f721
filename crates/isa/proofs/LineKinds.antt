-- No fault of a line is a label that no line has.
use Rattle.std.proofs.Common.{◌≡◌, ℕ, zero, suc, Bool, true, false, ◌&&◌, List, [], ◌∷◌, ◌++◌, length, take, Option, Some, None, refl, sym, ap, ◌∙◌}
use Rattle.std.specs.Prelude.{◌==◌, slice_get, codes, if◌then◌else◌}
use Rattle.std.specs.List.{list_all, flat_map, before_first, after_first}
use Rattle.std.proofs.lemmas.List.Folds.{list_all-append}
use Rattle.lexical.specs.Blank.{is_blank}
use Rattle.lexical.specs.Line.{before_comment}
use Rattle.lexical.specs.Label.{statement_of}
use Rattle.lexical.specs.Operand.{operands, parenthesized}
use Rattle.isa.specs.declared.listing.fault.FaultKind.{FaultKind}
use Rattle.isa.specs.declared.listing.fault.FaultKind.TheVariants.{TooLong, UnknownLabel}
use Rattle.isa.specs.declared.listing.slot.Slot.{Slot}
use Rattle.isa.specs.declared.listing.slot.Slot.TheVariants.{Into, First, Second, S16, U16, U5, Label, Offset}
use Rattle.isa.specs.Forms.{form_with}
use Rattle.isa.specs.Statement.{is_word}
use Rattle.isa.specs.Listing.{Lines}
use Rattle.isa.specs.Faults.{Fault, first_kind, register_faults, number_faults, offset_faults, address_faults, operand_faults, operands_faults, slots_if, instruction_faults}
use Rattle.isa.specs.Faults.{size_faults, space_faults, words_faults, faults_with, statement_faults, are_too_long, faults_if, faults_of_line}

-- a kind that a line may have by itself
abbrev is_own : FaultKind → Bool
is_own UnknownLabel = false
is_own _ = true

abbrev are_own : List Fault → Bool
are_own faults = list_all (λ f. is_own f.0) faults

first_own : (xs : List Fault) → are_own xs ≡ true → first_kind xs ≡ Some UnknownLabel → ⊥
first_own [] own e = absurd cc
first_own ((k, true) ∷ xs) own e =
    let same : k ≡ UnknownLabel = cc in
    let bad : (is_own UnknownLabel && are_own xs) ≡ true = ap (λ (j : FaultKind). is_own j && are_own xs) (sym same) ∙ own in
    absurd cc
first_own ((k, false) ∷ xs) own e = first_own xs (rest (is_own k) (are_own xs) own) e
  where
    rest : (a b : Bool) → (a && b) ≡ true → b ≡ true
    rest true b t = t
    rest false b t = absurd cc

both_own : (xs ys : List Fault) → are_own xs ≡ true → are_own ys ≡ true → are_own (xs ++ ys) ≡ true
both_own xs ys first second = list_all-append (λ f. is_own f.0) xs ys ∙ rw (first, second) refl

either_own : (b : Bool) (xs ys : List Fault) → are_own xs ≡ true → are_own ys ≡ true → are_own (if b then xs else ys) ≡ true
either_own true xs ys first second = first
either_own false xs ys first second = second

each_own : (f : List ℕ → List Fault) (ts : List (List ℕ)) → ((t : List ℕ) → are_own (f t) ≡ true) → are_own (flat_map f ts) ≡ true
each_own f [] own = refl
each_own f (t ∷ ts) own = both_own (f t) (flat_map f ts) (own t) (each_own f ts own)

address_own : (parts : Option (List ℕ × List ℕ)) → are_own (address_faults parts) ≡ true
address_own None = refl
address_own (Some p) =
    both_own (offset_faults p.0) (register_faults p.1) (either_own (length p.0 == 0) [] (number_faults 32768 32767 p.0) refl refl) refl

operand_own : (s : Slot) (text : List ℕ) → are_own (operand_faults s text) ≡ true
operand_own Into text = refl
operand_own First text = refl
operand_own Second text = refl
operand_own S16 text = refl
operand_own U16 text = refl
operand_own U5 text = refl
operand_own Label text = refl
operand_own Offset text = address_own (parenthesized text)

operands_own : (ss : List Slot) (ts : List (List ℕ)) → are_own (operands_faults ss ts) ≡ true
operands_own [] ts = refl
operands_own (s ∷ ss) [] = refl
operands_own (s ∷ ss) (t ∷ ts) = both_own (operand_faults s t) (operands_faults ss ts) (operand_own s t) (operands_own ss ts)

with_own : (word : List ℕ) (parts : List (List ℕ)) → are_own (faults_with word parts) ≡ true
with_own word parts =
    either_own (is_word (codes ".space") word) (space_faults parts)
    (if is_word (codes ".word") word then words_faults parts else instruction_faults word parts)
    (each_own size_faults parts (λ t. refl))
    (either_own (is_word (codes ".word") word) (words_faults parts) (instruction_faults word parts)
    (each_own (number_faults 2147483648 4294967295) parts (λ t. refl)) (operands_own (slots_if (form_with word (length parts))) parts))

statement_own : (text : List ℕ) → are_own (statement_faults text) ≡ true
unfolding statement_faults
statement_own text =
    let word : List ℕ = before_first is_blank text in
    let parts : List (List ℕ) = operands (after_first is_blank text) in
    either_own (length text == 0) [] (faults_with word parts) refl (with_own word parts)

line_own : (before : Lines) (o : Option (List ℕ)) → are_own (faults_if before o) ≡ true
line_own before None = refl
line_own before (Some line) =
    let said : List Fault = statement_faults (statement_of (before_comment line)) in
    both_own said ((TooLong, are_too_long (before ++ line ∷ [])) ∷ []) (statement_own (statement_of (before_comment line))) refl

pub never_unknown : (ls : Lines) (n : ℕ) → first_kind (faults_of_line ls n) ≡ Some UnknownLabel → ⊥
never_unknown ls zero e = absurd cc
never_unknown ls (suc n) e = first_own (faults_if (take n ls) (slice_get ls n)) (line_own (take n ls) (slice_get ls n)) e
