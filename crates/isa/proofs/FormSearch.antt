-- One search of a form, and the fault where there is none.
use Rattle.std.proofs.Common.{◌≡◌, ℕ, eqb, List, [], ◌∷◌, length, Result, Ok, Err, refl, inl, inr}
use Rattle.std.specs.Prelude.{ok_or, if◌then◌else◌}
use Rattle.std.specs.List.{list_any, find}
use Rattle.std.proofs.lemmas.Bool.{cases_Bool}
use Rattle.isa.specs.declared.listing.fault.FaultKind.{FaultKind}
use Rattle.isa.specs.declared.listing.fault.FaultKind.TheVariants.{BadOperands, UnknownOp}
use Rattle.isa.specs.Forms.{Form, slots, has_word, has_word_and_count}

-- the form among rows, after rows that leave a fault
abbrev pub among : FaultKind → List ℕ → ℕ → List Form → Result Form FaultKind
among fault word n [] = Err fault
among fault word n (r ∷ rs) =
    if has_word word r then (if eqb (length (slots r.operands)) n then Ok r else among BadOperands word n rs)
    else among fault word n rs

module _ (word : List ℕ) (n : ℕ) where
  after_word : (rs : List Form) → among BadOperands word n rs ≡ ok_or (find (has_word_and_count word n) rs) BadOperands
  after_word [] = refl
  after_word (r ∷ rs) = elim (cases_Bool (has_word word r)) [
    | inl has ↦ elim (cases_Bool (eqb (length (slots r.operands)) n)) [ inl same ↦ rw (has, same) refl | inr other ↦ rw (has, other) (after_word rs) ]
    | inr lacks ↦ rw lacks (after_word rs)
  ]

  pub among_all : (rs : List Form) → among UnknownOp word n rs
      ≡ (if list_any (has_word word) rs then ok_or (find (has_word_and_count word n) rs) BadOperands else Err UnknownOp)
  among_all [] = refl
  among_all (r ∷ rs) = elim (cases_Bool (has_word word r)) [
    | inl has ↦ elim (cases_Bool (eqb (length (slots r.operands)) n)) [ inl same ↦ rw (has, same) refl | inr other ↦ rw (has, other) (after_word rs) ]
    | inr lacks ↦ rw lacks (among_all rs)
  ]
