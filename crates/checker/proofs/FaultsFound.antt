-- The faults of lines, one after the other.
use Rattle.std.proofs.Common.{◌≡◌, ◌∙◌, ◌+◌, ◌≤◌, ℕ, List, [], ◌∷◌, ◌++◌, length, take, Option, Some, None, refl, sym, ap, append_assoc}
use Rattle.std.proofs.lemmas.List.{append-nil, take_all}
use Rattle.isa.specs.declared.listing.fault.LineFault.{LineFault}
use Rattle.isa.specs.declared.listing.fault.Marked.{Marked}
use Rattle.isa.specs.Listing.{Lines, all_labels}
use Rattle.checker.specs.Faults.{IsSeen, IsStep, Sight, after_line, all_faults, faults_from, numbered}
use Rattle.checker.specs.declared.faults.Seen.{Seen}

-- the faults that were found, and those of the lines that are left, are all
abbrev pub HaveFound : (seen : Seen) (found : List Marked) (n : ℕ) (left all : Lines) → Type 0
HaveFound seen found n left all =
    (s : Sight) × (IsSeen seen s × (found ++ faults_from (all_labels all) (n + 1) s left ≡ all_faults all))

pub none_found : (seen : Seen) (all : Lines) → IsSeen seen (record { names = []; instructions = 0; bytes = 0 }) → HaveFound seen [] 0 all all
unfolding all_faults
none_found seen all is = (record { names = []; instructions = 0; bytes = 0 }, (is, refl))

module _ (seen after : Seen) (found : List Marked) (n : ℕ) (left all : Lines) (line : List ℕ) (others : Lines) (fault : Option LineFault)
    (so_far : HaveFound seen found n left all) (front : left ≡ line ∷ others)
    (step : (s : Sight) → IsSeen seen s → IsStep fault after (after_line (all_labels all) s line)) where
  more_found : HaveFound after (found ++ numbered (n + 1) fault) (n + 1) others all
  more_found =
      let s = so_far.0 in
      let one = step s so_far.1.0 in
      let next : Sight = (after_line (all_labels all) s line).1 in
      let rest : List Marked = faults_from (all_labels all) (n + 1 + 1) next others in
      let together : found ++ (numbered (n + 1) (after_line (all_labels all) s line).0 ++ rest) ≡ all_faults all = rw front at so_far.1.1 in (
        next,
        (
          one.1,
          append_assoc found (numbered (n + 1) fault) rest
              ∙ ap (λ (f : Option LineFault). found ++ (numbered (n + 1) f ++ rest)) one.0 ∙ together,
        ),
      )

  pub none_more : fault ≡ None → HaveFound after found (n + 1) others all
  none_more none =
      let more : HaveFound after (found ++ []) (n + 1) others all = rw none at more_found in
      rw (append-nil found) at more

  pub one_more : (f : LineFault) → fault ≡ Some f → (new : List Marked)
      → new ≡ found ++ record { fault = record { line = n + 1; kind = f.kind }; at = f.at } ∷ [] → HaveFound after new (n + 1) others all
  one_more f is new e =
      let more : HaveFound after (found ++ numbered (n + 1) (Some f)) (n + 1) others all = rw is at more_found in
      rw e more

take_whole : (xs ys : List Marked) → take (length xs) (xs ++ ys) ≡ xs
take_whole [] ys = refl
take_whole (x ∷ xs) ys = ap (λ (l : List Marked). x ∷ l) (take_whole xs ys)

module _ (seen : Seen) (found : List Marked) (n : ℕ) (left all : Lines) (so_far : HaveFound seen found n left all) where
  -- as many are found as are shown
  pub found_most : (most : ℕ) → length found ≡ most → found ≡ take most (all_faults all)
  found_most most is = rw (sym is, sym so_far.1.1) (sym (take_whole found _))

  -- no line is left
  pub found_all : (most : ℕ) → length found ≤ most → left ≡ [] → found ≡ take most (all_faults all)
  found_all most few none =
      let together : found ++ [] ≡ all_faults all = rw none at so_far.1.1 in
      sym (take_all most found few) ∙ ap (take most) (sym (append-nil found) ∙ together)
