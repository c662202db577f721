-- The text of an instruction as it is written: its word, and each operand after its separator.
use Rattle.std.proofs.Common.{◌≡◌, ℕ, zero, suc, ◌+◌, ◌<◌, List, [], ◌∷◌, ◌++◌, length, get_or, take, map, sym, ap, append_assoc, append-nil, arith}
use Rattle.std.specs.List.{join_with_byte}
use Rattle.isa.specs.declared.listing.slot.Slot.{Slot}
use Rattle.isa.specs.InstrText.{with_operands_text, separator, separated_text}

-- ---- one operand more

operand_pushed : (at : ℕ) (slots : List Slot) (text : Slot → List ℕ) (i : ℕ) (d : Slot) → i < length slots
    → separated_text at (map text (take (i + 1) slots)) ≡ separated_text at (map text (take i slots)) ++ (separator (at + i) ++ text (get_or slots i d))
operand_pushed at [] text i d lt = absurd (omega arith)
operand_pushed at (s ∷ ss) text zero d lt = grind (arith, append-nil)
operand_pushed at (s ∷ ss) text (suc i) d lt = grind (arith, append_assoc, operand_pushed (suc at) ss text i d (omega arith))

pub operand_written : (slots : List Slot) (text : Slot → List ℕ) (i : ℕ) (d : Slot) (mark : List ℕ) → i < length slots → mark ≡ separator i
    → separated_text 0 (map text (take i slots)) ++ (mark ++ text (get_or slots i d)) ≡ separated_text 0 (map text (take (i + 1) slots))
operand_written slots text i d mark lt is =
    let place : 0 + i ≡ i = omega arith in
    rw is (sym (rw place at (operand_pushed 0 slots text i d lt)))

-- ---- all operands

joined : (at : ℕ) (p : List ℕ) (ps : List (List ℕ)) → join_with_byte 44 (p ∷ ps) ≡ p ++ separated_text (suc at) ps
joined at p [] = sym (append-nil p)
joined at p (q ∷ qs) = ap (λ (t : List ℕ). p ++ 44 ∷ t) (joined (suc at) q qs)

written : (word : List ℕ) (ps : List (List ℕ)) → with_operands_text word ps ≡ word ++ separated_text 0 ps
written word [] = sym (append-nil word)
written word (p ∷ ps) = ap (λ (t : List ℕ). word ++ 32 ∷ t) (joined 0 p ps)
