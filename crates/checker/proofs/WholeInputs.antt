-- The diagnostics of the bytes that are read at most are those of all bytes.
use Rattle.std.proofs.Common.{◌≡◌, ◌∙◌, ◌<◌, ℕ, Bool, true, false, List, [], ◌∷◌, length, take, refl, subst, sym, arith, inl, inr, Result, Err}
use Rattle.std.proofs.lemmas.Bool.{cases_lt, lt-ltb}
use Rattle.std.proofs.lemmas.List.{length-take, take_all}
use Rattle.isa.specs.declared.listing.fault.FaultKind.{FaultKind}
use Rattle.isa.specs.declared.listing.fault.FaultKind.TheVariants.{TooLong}
use Rattle.isa.specs.declared.listing.fault.Marked.{Marked}
use Rattle.isa.specs.declared.listing.spot.Spot.TheVariants.{Whole}
use Rattle.isa.specs.Listing.{listing}
use Rattle.isa.specs.Report.{fault_line}
use Rattle.isa.proofs.Whole.{spot_long}
use Rattle.instructions.specs.Programs.{Program}
use Rattle.answers.specs.Answer.{most_taken}
use Rattle.checker.specs.Checked.{IsCheck}
use Rattle.checker.specs.Diagnostics.{IsCheckOf, IsExplained, AreExplained}
use Rattle.checker.specs.Names.{name_text}

-- the fault of a listing that is too long
abbrev no_line : Marked
no_line = record { fault = record { line = 0; kind = TooLong }; at = Whole }

too_long : (bytes : List ℕ) → 4194304 < length bytes → listing bytes ≡ Err (0, TooLong)
unfolding listing
too_long bytes more = rw (lt-ltb 4194304 (length bytes) more) refl

-- a fault without a line has the same diagnostic, whatever the bytes are
same_told : (file : List ℕ) (all : Bool) (bytes others text : List ℕ) → IsExplained file all bytes no_line text
    → IsExplained file all others no_line text
same_told file true bytes others text is =
    let told : AreExplained file bytes (no_line ∷ []) (fault_line 0 TooLong) text =
    subst (λ (fs : List Marked). AreExplained file bytes fs (fault_line 0 TooLong) text) is.1.0 is.1.1 in
    (no_line ∷ [], (refl, told))
same_told file false bytes others text is =
    let told : AreExplained file bytes (no_line ∷ []) (fault_line 0 TooLong) text =
    subst (λ (fs : List Marked). AreExplained file bytes fs (fault_line 0 TooLong) text) is.1.0 is.1.1 in
    (no_line ∷ [], (refl, told))

-- a listing that is too long has no line of which there is a diagnostic
told_of_all : (file : List ℕ) (all : Bool) (input : List ℕ) (status : ℕ) (text : List ℕ)
    → IsCheck file all status (take most_taken input) text → IsCheck file all status input text
told_of_all file all input status text is = elim (cases_lt 4194304 (length input)) [
  | inl more ↦
      let short : 4194304 < length (take most_taken input) = omega (arith, length-take most_taken input, more) in
      let told : IsCheckOf (name_text file) all (take most_taken input) (Err (0, TooLong)) status text =
      subst (λ (found : Result Program (ℕ × FaultKind)). IsCheckOf (name_text file) all (take most_taken input) found status text)
      (too_long (take most_taken input) short) is in
      let explained : IsExplained (name_text file) all (take most_taken input) no_line text = rw (sym (spot_long (take most_taken input) short)) at told.1 in
      rw (too_long input more, sym (spot_long input more)) (told.0, same_told (name_text file) all (take most_taken input) input text explained)
  | inr less ↦ subst (λ (bytes : List ℕ). IsCheckOf (name_text file) all bytes (listing bytes) status text) (take_all most_taken input (omega arith)) is
]

-- so are those of the bytes that were taken
pub check_of_taken : (file : List ℕ) (all : Bool) (bytes slice text : List ℕ) (status : ℕ) → slice ≡ bytes
    → IsCheck file all status slice text → (input : List ℕ) → bytes ≡ take most_taken input → IsCheck file all status input text
check_of_taken file all bytes slice text status same is input taken =
    told_of_all file all input status text (subst (λ (part : List ℕ). IsCheck file all status part text) (same ∙ taken) is)
