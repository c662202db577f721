-- Diagnostics, one behind the other.
use Rattle.std.proofs.Common.{◌≡◌, ◌+◌, ◌<◌, ℕ, zero, suc, Bool, List, [], ◌∷◌, length, drop, slice_index_or, Result, Err, refl, subst, sym, arith}
use Rattle.lexical.specs.Line.{lines_of}
use Rattle.instructions.specs.Programs.{Program}
use Rattle.isa.specs.declared.listing.fault.FaultKind.{FaultKind}
use Rattle.isa.specs.declared.listing.fault.Marked.{Marked}
use Rattle.checker.specs.Diagnostics.{AreExplained, IsCheckOf, IsExplained, IsExplanationBehind}
use Rattle.isa.specs.Spots.{spot_of}
use Rattle.checker.specs.Parts.{numbered_line}

module _ (file bytes : List ℕ) (d : Marked) (old text new : List ℕ) where
  explained_step : (fs : List Marked) (i : ℕ) → i < length fs
      → IsExplanationBehind file (slice_index_or fs i d)
      (numbered_line (slice_index_or fs i d).fault.line (lines_of bytes)) old text
      → AreExplained file bytes (drop (suc i) fs) text new → AreExplained file bytes (drop i fs) old new
  explained_step [] i few first rest = absurd (omega (arith, few))
  explained_step (f ∷ fs) zero few first rest = (text, (first, rest))
  explained_step (f ∷ fs) (suc i) few first rest = explained_step fs i (omega (arith, few)) first rest

  -- the diagnostic of one fault, and those of the others behind it
  pub explained_next : (fs : List Marked) (i : ℕ) → i < length fs
      → IsExplanationBehind file (slice_index_or fs i d)
      (numbered_line (slice_index_or fs i d).fault.line (lines_of bytes)) old text
      → AreExplained file bytes (drop (i + 1) fs) text new → AreExplained file bytes (drop i fs) old new
  explained_next fs i few first rest =
      let next : i + 1 ≡ suc i = omega arith in
      explained_step fs i few first (subst (λ (n : ℕ). AreExplained file bytes (drop n fs) text new) next rest)

-- the line of a fault and its diagnostics are those of the listing
pub fault_checked : (file : List ℕ) (all : Bool) (bytes : List ℕ) (found : Result Program (ℕ × FaultKind)) (first : Marked)
    (text : List ℕ) → found ≡ Err (first.fault.line, first.fault.kind) → first.at ≡ spot_of bytes → IsExplained file all bytes first text
    → IsCheckOf file all bytes found 2 text
fault_checked file all bytes found first text is at explained = rw (is, sym at) (refl, explained)
