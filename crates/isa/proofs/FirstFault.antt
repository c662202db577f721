-- The first fault of a listing, line by line.
use Rattle.std.proofs.Common.{◌≡◌, ℕ, suc, ◌+◌, List, [], ◌∷◌, ◌++◌, length, take, Option, Some, None, refl, sym, ap, ◌∙◌, append_assoc, arith}
use Rattle.std.specs.Prelude.{slice_get}
use Rattle.std.specs.Option.{option_map, option_or}
use Rattle.std.proofs.lemmas.List.{append-nil, length-append}
use Rattle.isa.specs.declared.listing.fault.FaultKind.{FaultKind}
use Rattle.isa.specs.Listing.{Lines, fault_in, fault_of_line, first_fault_to, first_fault}

-- the fault of line n, or that of the lines after it
abbrev pub fault_at : ℕ → Option FaultKind → Option (ℕ × FaultKind) → Option (ℕ × FaultKind)
fault_at n (Some k) others = Some (n, k)
fault_at n None others = others

-- the first line that has a fault, and its fault, among lines after those before
unfoldable pub first_after : Lines → Lines → Option (ℕ × FaultKind)
first_after before [] = None
first_after before (l ∷ ls) = fault_at (length before + 1) (fault_in before l) (first_after (before ++ l ∷ []) ls)

pub take_before : (before ls : Lines) → take (length before) (before ++ ls) ≡ before
take_before [] ls = refl
take_before (b ∷ before) ls = ap (λ (xs : Lines). b ∷ xs) (take_before before ls)

pub line_after : (before ls : Lines) (l : List ℕ) → slice_get (before ++ l ∷ ls) (length before) ≡ Some l
line_after [] ls l = refl
line_after (b ∷ before) ls l = line_after before ls l

-- the line after those before has the fault that it has there
pub fault_after : (before ls : Lines) (l : List ℕ) → fault_of_line (before ++ l ∷ ls) (suc (length before)) ≡ fault_in before l
fault_after before ls l = rw (take_before before (l ∷ ls), line_after before ls l) refl

at_or : (n m : ℕ) (f : Option FaultKind) (first others : Option (ℕ × FaultKind)) → m ≡ n
    → option_or first (fault_at m f others) ≡ option_or (option_or first (option_map (λ k. (n, k)) f)) others
at_or n m None None others e = refl
at_or n m (Some k) None others e = ap (λ (j : ℕ). Some (j, k)) e
at_or n m f (Some first) others e = refl

or_none : (f : Option (ℕ × FaultKind)) → option_or f None ≡ f
or_none None = refl
or_none (Some f) = refl

after_is : (before ls : Lines) → option_or (first_fault_to (before ++ ls) (length before)) (first_after before ls) ≡ first_fault (before ++ ls)
unfolding first_after first_fault
after_is before [] = or_none _ ∙ ap (first_fault_to (before ++ [])) (ap length (sym (append-nil before)))
after_is before (l ∷ ls) =
    let whole : (before ++ l ∷ []) ++ ls ≡ before ++ l ∷ ls = append_assoc before (l ∷ []) ls in
    let size : length (before ++ l ∷ []) ≡ suc (length before) = omega (arith, length-append before (l ∷ [])) in
    let others : Option (ℕ × FaultKind) = first_after (before ++ l ∷ []) ls in
    let rest : option_or (first_fault_to (before ++ l ∷ ls) (suc (length before))) others ≡ first_fault (before ++ l ∷ ls) =
    rw (whole, size) at (after_is (before ++ l ∷ []) ls) in
    let place : length before + 1 ≡ suc (length before) = omega arith in
    at_or (suc (length before)) (length before + 1) (fault_in before l) (first_fault_to (before ++ l ∷ ls) (length before)) others place
    ∙ ap (λ (f : Option FaultKind). option_or (option_or (first_fault_to (before ++ l ∷ ls) (length before)) (option_map (λ k. (suc (length before), k)) f)) others)
    (sym (fault_after before ls l))
    ∙ rest

-- from the first line on
pub after_none : (ls : Lines) → first_after [] ls ≡ first_fault ls
after_none ls = after_is [] ls
