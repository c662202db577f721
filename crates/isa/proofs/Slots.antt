-- The operands of an instruction, from the left.
use Rattle.std.proofs.Common.{◌≡◌, ℕ, ◌+◌, ◌<◌, ◌≤◌, List, [], ◌∷◌, length, drop, get_or, Option, Some, None, Result, Ok, Err, sym}
use Rattle.std.specs.Prelude.{ok_or}
use Rattle.std.proofs.lemmas.List.{drop_more, drop_all}
use Rattle.isa.specs.declared.listing.fault.FaultKind.{FaultKind}
use Rattle.isa.specs.declared.listing.fault.FaultKind.TheVariants.{BadOperands}
use Rattle.isa.specs.declared.listing.slot.Slot.{Slot}
use Rattle.isa.specs.Statement.{Parsed, fill, filled}

module _ (slots : List Slot) (n : ℕ) (texts : List (List ℕ)) (p : Parsed) (all : Result Parsed FaultKind)
    (so_far : filled (drop n slots) texts p ≡ all) where
  pub filled_done : length slots ≤ n → all ≡ Ok p
  unfolding filled
  filled_done le = let one : filled [] texts p ≡ all = rw (drop_all n slots le) at so_far in sym one

  module _ (s : Slot) (lt : n < length slots) where
    pub filled_none : texts ≡ [] → all ≡ Err BadOperands
    unfolding filled
    filled_none is =
        let one : filled (get_or slots n s ∷ drop (n + 1) slots) [] p ≡ all = rw (drop_more slots n s lt, is) at so_far in
        sym one

    module _ (t : List ℕ) (ts : List (List ℕ)) (is : texts ≡ t ∷ ts) where
      pub filled_more : (p' : Parsed) → fill (get_or slots n s) t p ≡ Ok p' → filled (drop (n + 1) slots) ts p' ≡ all
      unfolding filled
      filled_more p' e =
          let one : filled (get_or slots n s ∷ drop (n + 1) slots) (t ∷ ts) p ≡ all = rw (drop_more slots n s lt, is) at so_far in
          rw e at one

      pub filled_fault : (k : FaultKind) → fill (get_or slots n s) t p ≡ Err k → all ≡ Err k
      unfolding filled
      filled_fault k e =
          let one : filled (get_or slots n s ∷ drop (n + 1) slots) (t ∷ ts) p ≡ all = rw (drop_more slots n s lt, is) at so_far in
          sym (rw e at one)

-- what a missing operand is refused with
pub kind_is : {X : Type 0} (o : Option X) (k b : FaultKind) → Err k ≡ ok_or o b → o ≡ None → k ≡ b
kind_is None k b e is = cc
kind_is (Some x) k b e is = absurd cc
