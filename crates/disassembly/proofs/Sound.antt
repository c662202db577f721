-- The instructions that words mean can be written, and go to instructions of the text.
use Rattle.std.proofs.Common.{◌≡◌, ℕ, zero, suc, ◌+◌, ◌<◌, true, ◌==◌, List, [], ◌∷◌, ◌++◌, length, get_or, Option, Some, None, Result, Ok, Err, refl, subst, arith, inl, inr}
use Rattle.std.specs.Prelude.{slice_get, slice_index, if◌then◌else◌}
use Rattle.std.proofs.lemmas.Bool.{cases_Bool}
use Rattle.instructions.specs.declared.instr.Instr.{Instr}
use Rattle.instructions.specs.Programs.{address}
use Rattle.encoding.specs.Words.{decode}
use Rattle.encoding.proofs.Written.{each_is_written}
use Rattle.disassembly.specs.declared.refusal.Refusal.{Refusal}
use Rattle.disassembly.specs.declared.refusal.Refusal.TheVariants.{Target, Slot}
use Rattle.instructions.specs.Targets.{names_target}
use Rattle.disassembly.specs.Meaning.{is_inside, has_slot, with_delay_slot, checked, checked_if, meant, appended, with_next, meant_up_to}
use Rattle.disassembly.specs.Writing.{IsSound, AllSound}

sound_push : (n : ℕ) (is : List Instr) (i : Instr) → AllSound n is → IsSound n i → AllSound n (is ++ i ∷ [])
sound_push n [] i h s = (s, tt)
sound_push n (j ∷ is) i h s = (h.0, sound_push n is i h.1 s)

with_slot_same : (at word : ℕ) (i j : Instr) (next : Option ℕ) → with_delay_slot at word i next ≡ Ok j → i ≡ j
with_slot_same at word i j None h = absurd cc
with_slot_same at word i j (Some next) h = elim (cases_Bool (next == 0)) [
  | inl zero_word ↦ let is : Ok i ≡ Ok j = rw zero_word at h in cc
  | inr other ↦ let is : Err (Slot (at + 4) next) ≡ Ok j = rw other at h in absurd cc
]

-- what was checked is the instruction itself, and goes inside
checked_sound : (words : List ℕ) (k : ℕ) (i j : Instr) → checked words k i ≡ Ok j → (i ≡ j) × (names_target i.op ≡ true → is_inside (length words) i.number ≡ true)
checked_sound words k i j h = elim (cases_Bool (names_target i.op)) [
  | inl goes ↦ elim (cases_Bool (is_inside (length words) i.number)) [
    | inl inside ↦
        let rest : (if has_slot i.op then with_delay_slot (address k) (slice_index words k) i (slice_get words (k + 1)) else Ok i) ≡ Ok j = rw (goes, inside) at h in
        (slot rest, λ _. inside)
    | inr outside ↦ let is : Err (Target (address k) (slice_index words k) i.number) ≡ Ok j = rw (goes, outside) at h in absurd cc
  ]
  | inr stays ↦
      let rest : (if has_slot i.op then with_delay_slot (address k) (slice_index words k) i (slice_get words (k + 1)) else Ok i) ≡ Ok j = rw stays at h in
      (slot rest, λ goes. absurd cc)
]
  where
    slot : (if has_slot i.op then with_delay_slot (address k) (slice_index words k) i (slice_get words (k + 1)) else Ok i) ≡ Ok j → i ≡ j
    slot g = elim (cases_Bool (has_slot i.op)) [
      | inl has ↦
          let is : with_delay_slot (address k) (slice_index words k) i (slice_get words (k + 1)) ≡ Ok j = rw has at g in
          with_slot_same (address k) (slice_index words k) i j (slice_get words (k + 1)) is
      | inr lacks ↦ let is : Ok i ≡ Ok j = rw lacks at g in cc
    ]

meant_sound : (words : List ℕ) (k : ℕ) (j : Instr) → meant words k ≡ Ok j → IsSound (length words) j
meant_sound words k j h = by (decode (address k) (slice_index words k)) refl h
  where
    by : (found : Option Instr) → decode (address k) (slice_index words k) ≡ found → checked_if words k found ≡ Ok j → IsSound (length words) j
    by None e g = absurd cc
    by (Some i) e g =
        let both = checked_sound words k i j g in
        subst (IsSound (length words)) both.0
        (record { writable = each_is_written (address k) (slice_index words k) i e; inside = both.1 })

sound_last : (words : List ℕ) (n : ℕ) (is js : List Instr) → AllSound (length words) js → (r : Result Instr Refusal) → meant words n ≡ r → appended js r ≡ Ok is
    → AllSound (length words) is
sound_last words n is js s (Ok i) e g =
    let whole : js ++ i ∷ [] ≡ is = cc in subst (AllSound (length words)) whole (sound_push (length words) js i s (meant_sound words n i e))
sound_last words n is js s (Err refusal) e g = absurd cc

sound_next : (words : List ℕ) (n : ℕ) (is : List Instr) → ((js : List Instr) → meant_up_to words n ≡ Ok js → AllSound (length words) js)
    → (r : Result (List Instr) Refusal) → meant_up_to words n ≡ r → with_next words n r ≡ Ok is → AllSound (length words) is
sound_next words n is before (Ok js) e g = sound_last words n is js (before js e) (meant words n) refl g
sound_next words n is before (Err refusal) e g = absurd cc

sound_up_to : (words : List ℕ) (n : ℕ) (is : List Instr) → meant_up_to words n ≡ Ok is → AllSound (length words) is
unfolding meant_up_to
sound_up_to words zero is h = let none : [] ≡ is = cc in subst (AllSound (length words)) none tt
sound_up_to words (suc n) is h = sound_next words n is (λ js e. sound_up_to words n js e) (meant_up_to words n) refl h

pub all_sound : (words : List ℕ) (is : List Instr) → meant_up_to words (length words) ≡ Ok is → AllSound (length words) is
all_sound words is h = sound_up_to words (length words) is h

pub sound_at : (n : ℕ) (is : List Instr) (k : ℕ) (d : Instr) → AllSound n is → k < length is → IsSound n (get_or is k d)
sound_at n [] k d h lt = absurd (omega arith)
sound_at n (i ∷ is) zero d h lt = h.0
sound_at n (i ∷ is) (suc k) d h lt = sound_at n is k d h.1 (omega arith)
