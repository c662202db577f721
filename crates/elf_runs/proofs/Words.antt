-- The words of an executable are a text of the program that they mean.
use Rattle.std.proofs.Common.{◌≡◌, ℕ, zero, suc, ◌+◌, ◌<◌, ◌==◌, List, [], ◌∷◌, ◌++◌, length, get_or, Option, Some, None, Result, Ok, Err, refl, sym, ap, ◌∙◌, subst, arith, inl, inr, length-append}
use Rattle.std.specs.Prelude.{slice_get, slice_index, if◌then◌else◌}
use Rattle.std.proofs.lemmas.Bool.{cases_Bool, cases_lt}
use Rattle.instructions.specs.declared.instr.Instr.{Instr}
use Rattle.instructions.specs.declared.op.Op.TheVariants.{Break}
use Rattle.instructions.specs.Programs.{Program, address}
use Rattle.inorder.specs.Machine.{start}
use Rattle.encoding.specs.Words.{decode}
use Rattle.instructions.specs.Targets.{names_target}
use Rattle.elf.specs.Images.{Loaded}
use Rattle.disassembly.specs.declared.refusal.Refusal.{Refusal}
use Rattle.disassembly.specs.declared.refusal.Refusal.TheVariants.{Target, Slot}
use Rattle.disassembly.specs.Conversion.{program_by, with_memory}
use Rattle.disassembly.specs.Meaning.{is_inside, has_slot, with_delay_slot, checked, checked_if, meant, appended, with_next, meant_up_to}
use Rattle.lockstep.specs.Law.{IsTextOf}
use Rattle.lockstep.proofs.TheStep.{the_run}
use Rattle.elf_runs.specs.Law.{ARunOfAnExecutable}

none : Instr
none = record { op = Break; target = 0; first = 0; second = 0; number = 0 }

-- Lists

get_left : (xs : List Instr) (x : Instr) (k : ℕ) (d : Instr) → k < length xs → get_or (xs ++ x ∷ []) k d ≡ get_or xs k d
get_left [] x k d h = absurd (omega arith)
get_left (y ∷ ys) x zero d h = refl
get_left (y ∷ ys) x (suc k) d h = get_left ys x k d (omega arith)

get_last : (xs : List Instr) (x d : Instr) → get_or (xs ++ x ∷ []) (length xs) d ≡ x
get_last [] x d = refl
get_last (y ∷ ys) x d = get_last ys x d

index_of : (xs : List ℕ) (k w : ℕ) → slice_get xs k ≡ Some w → (k < length xs) × (slice_index xs k ≡ w)
index_of [] k w h = absurd (cc)
index_of (x ∷ xs) zero w h = (omega arith, cc)
index_of (x ∷ xs) (suc k) w h = let r = index_of xs k w h in (omega (arith, r.0), r.1)

-- What a word means

slot_same : (at word : ℕ) (i j : Instr) (next : Option ℕ) → with_delay_slot at word i next ≡ Ok j → i ≡ j
slot_same at word i j None h = absurd cc
slot_same at word i j (Some next) h = elim (cases_Bool (next == 0)) [
  | inl zero_word ↦ let is : Ok i ≡ Ok j = rw zero_word at h in cc
  | inr other ↦ let is : Err (Slot (at + 4) next) ≡ Ok j = rw other at h in absurd cc
]

checked_same : (words : List ℕ) (k : ℕ) (i j : Instr) → checked words k i ≡ Ok j → i ≡ j
checked_same words k i j h = elim (cases_Bool (names_target i.op)) [
  | inl goes ↦ elim (cases_Bool (is_inside (length words) i.number)) [
    | inl inside ↦
        let rest : (if has_slot i.op then with_delay_slot (address k) (slice_index words k) i (slice_get words (k + 1)) else Ok i) ≡ Ok j = rw (goes, inside) at h in
        slot rest
    | inr outside ↦ let is : Err (Target (address k) (slice_index words k) i.number) ≡ Ok j = rw (goes, outside) at h in absurd cc
  ]
  | inr stays ↦
      let rest : (if has_slot i.op then with_delay_slot (address k) (slice_index words k) i (slice_get words (k + 1)) else Ok i) ≡ Ok j = rw stays at h in
      slot rest
]
  where
    slot : (if has_slot i.op then with_delay_slot (address k) (slice_index words k) i (slice_get words (k + 1)) else Ok i) ≡ Ok j → i ≡ j
    slot g = elim (cases_Bool (has_slot i.op)) [
      | inl has ↦
          let is : with_delay_slot (address k) (slice_index words k) i (slice_get words (k + 1)) ≡ Ok j = rw has at g in
          slot_same (address k) (slice_index words k) i j (slice_get words (k + 1)) is
      | inr lacks ↦ let is : Ok i ≡ Ok j = rw lacks at g in cc
    ]

meant_says : (words : List ℕ) (k : ℕ) (j : Instr) → meant words k ≡ Ok j → decode (address k) (slice_index words k) ≡ Some j
meant_says words k j h = by (decode (address k) (slice_index words k)) refl h
  where
    by : (found : Option Instr) → decode (address k) (slice_index words k) ≡ found → checked_if words k found ≡ Ok j → decode (address k) (slice_index words k) ≡ Some j
    by None e g = absurd cc
    by (Some i) e g = e ∙ ap Some (checked_same words k i j g)

-- the first n words say these instructions
record Says (words : List ℕ) (n : ℕ) (is : List Instr) : Type 0 where
  pub as_long : length is ≡ n
  pub each : (k : ℕ) → k < n → decode (address k) (slice_index words k) ≡ Some (get_or is k none)

says_next : (words : List ℕ) (n : ℕ) (js : List Instr) (i : Instr) → Says words n js → decode (address n) (slice_index words n) ≡ Some i → Says words (suc n) (js ++ i ∷ [])
says_next words n js i h e = record {
  as_long = omega (arith, length-append js (i ∷ []), h.as_long);
  each = λ k less. elim (cases_lt k n) [
    | inl before ↦ h.each k before ∙ ap Some (sym (get_left js i k none (omega (arith, h.as_long))))
    | inr last ↦
        let here : n ≡ k = omega (arith, last, less) in
        let place : length js ≡ k = h.as_long ∙ here in
        subst (λ m. decode (address m) (slice_index words m) ≡ Some i) here e
        ∙ ap Some (sym (get_last js i none) ∙ ap (λ m. get_or (js ++ i ∷ []) m none) place)
  ];
}

says_last : (words : List ℕ) (n : ℕ) (is js : List Instr) → Says words n js → (r : Result Instr Refusal) → meant words n ≡ r → appended js r ≡ Ok is → Says words (suc n) is
says_last words n is js s (Ok i) e g =
    let all : js ++ i ∷ [] ≡ is = cc in subst (Says words (suc n)) all (says_next words n js i s (meant_says words n i e))
says_last words n is js s (Err refusal) e g = absurd cc

says_more : (words : List ℕ) (n : ℕ) (is : List Instr) → ((js : List Instr) → meant_up_to words n ≡ Ok js → Says words n js)
    → (r : Result (List Instr) Refusal) → meant_up_to words n ≡ r → with_next words n r ≡ Ok is → Says words (suc n) is
says_more words n is before (Ok js) e g = says_last words n is js (before js e) (meant words n) refl g
says_more words n is before (Err refusal) e g = absurd cc

says_up_to : (words : List ℕ) (n : ℕ) (is : List Instr) → meant_up_to words n ≡ Ok is → Says words n is
unfolding meant_up_to
says_up_to words zero is h = let empty : [] ≡ is = cc in subst (Says words 0) empty (record { as_long = refl; each = λ k less. absurd (omega (arith, less)) })
says_up_to words (suc n) is h = says_more words n is (λ js e. says_up_to words n js e) (meant_up_to words n) refl h

text_of_code : (words bytes : List ℕ) (code : List Instr) → meant_up_to words (length words) ≡ Ok code → IsTextOf words (record { code = code; bytes = bytes })
unfolding none
text_of_code words bytes code h =
    let s = says_up_to words (length words) code h in
    record {
      as_long = sym s.as_long;
      says = λ k w e.
          let at = index_of words k w e in
          subst (λ x. decode (address k) x ≡ Some (get_or code k none)) at.1 (s.each k at.0);
    }

text_of_file : (loaded : Loaded) (P : Program) (r : Result (List Instr) Refusal) → meant_up_to loaded.code (length loaded.code) ≡ r → with_memory loaded.bytes r ≡ Ok P →
    IsTextOf loaded.code P
text_of_file loaded P (Ok code) e h =
    let same : record { code = code; bytes = loaded.bytes } ≡ P = cc in
    subst (IsTextOf loaded.code) same (text_of_code loaded.code loaded.bytes code e)
text_of_file loaded P (Err refusal) e h = absurd (cc)

pub the_executable : ARunOfAnExecutable
the_executable file text loaded k h said =
    let means = sym (ap program_by h) ∙ said.meant in
    let is : IsTextOf loaded.code said.program = text_of_file loaded said.program (meant_up_to loaded.code (length loaded.code)) refl means in
    the_run said.program loaded.code k (start said.program) is refl
