-- One word more.
use Rattle.std.proofs.Common.{◌≡◌, ℕ, zero, suc, ◌+◌, ◌<◌, ◌≤◌, inl, inr, List, [], ◌++◌, Ok, Err, refl, arith, ap, ◌∙◌, sym, add-one, length}
use Rattle.std.proofs.lemmas.Bool.{cases_lt}
use Rattle.instructions.specs.declared.instr.Instr.{Instr}
use Rattle.disassembly.specs.declared.refusal.Refusal.{Refusal}
use Rattle.disassembly.specs.Meaning.{appended, meant, with_next, meant_up_to, refusal_list, refusals_up_to}

pub meant_none : (words : List ℕ) → meant_up_to words 0 ≡ Ok []
unfolding meant_up_to
meant_none words = refl

pub meant_next : (words : List ℕ) (n : ℕ) (is : List Instr) → meant_up_to words n ≡ Ok is
    → meant_up_to words (n + 1) ≡ appended is (meant words n)
unfolding meant_up_to
meant_next words n is h = rw add-one (ap (with_next words n) h)

-- a refusal is kept
stays : (words : List ℕ) (m n : ℕ) (refusal : Refusal) → n ≤ m → meant_up_to words n ≡ Err refusal
    → meant_up_to words m ≡ Err refusal
unfolding meant_up_to
stays words zero n refusal le h =
    let same : n ≡ zero = omega arith in ap (meant_up_to words) (sym same) ∙ h
stays words (suc m) n refusal le h =
    elim (cases_lt n (suc m)) [
      | inl below ↦ ap (with_next words m) (stays words m n refusal (omega arith) h)
      | inr above ↦ (let same : suc m ≡ n = omega arith in ap (meant_up_to words) same ∙ h)
    ]

-- where one word is refused, so is the text
pub refused_by_one : (words : List ℕ) (n : ℕ) (is : List Instr) (refusal : Refusal) → n < length words
    → meant_up_to words n ≡ Ok is → meant words n ≡ Err refusal
    → meant_up_to words (length words) ≡ Err refusal
refused_by_one words n is refusal less before fault =
    stays words (length words) (n + 1) refusal (omega arith)
    (meant_next words n is before ∙ ap (appended is) fault)

pub refusals_none : (words : List ℕ) → refusals_up_to words 0 ≡ []
unfolding refusals_up_to
refusals_none words = refl

pub refusals_next : (words : List ℕ) (n : ℕ) → refusals_up_to words (n + 1) ≡ refusals_up_to words n ++ refusal_list (meant words n)
unfolding refusals_up_to
refusals_next words n = rw add-one refl
