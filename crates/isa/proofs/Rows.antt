-- Instructions beside their targets, and the addresses of their labels.
use Rattle.std.proofs.Common.{◌≡◌, ℕ, ◌+◌, ◌<◌, ◌≤◌, List, [], ◌∷◌, ◌++◌, length, take, drop, get_or, slice_set, map, Result, Ok, Err, refl, sym, ap, ◌∙◌, append_assoc, arith}
use Rattle.std.proofs.lemmas.List.{append-nil, drop_more, drop_all, take_all, get_or_default, take_more_set, drop-set-lt}
use Rattle.instructions.specs.declared.instr.Instr.{Instr}
use Rattle.isa.specs.declared.listing.fault.FaultKind.{FaultKind}
use Rattle.isa.specs.declared.listing.line.Target.{Target}
use Rattle.isa.specs.Statement.{Parsed}
use Rattle.isa.specs.Listing.{before_others, resolve_number, resolved}
use Rattle.isa.specs.Held.{name_of, rows}

-- ---- rows

pub rows_length : (is : List Instr) (ts : List Target) → length is ≡ length ts → length (rows is ts) ≡ length is
rows_length [] ts e = refl
rows_length (i ∷ is) [] e = absurd (omega (arith, e))
rows_length (i ∷ is) (t ∷ ts) e = let rest = rows_length is ts (omega (arith, e)) in omega (arith, rest)

pub rows_push : (is : List Instr) (ts : List Target) (i : Instr) (t : Target) → length is ≡ length ts
    → rows (is ++ i ∷ []) (ts ++ t ∷ []) ≡ rows is ts ++ (t.line, record { instr = i; label = name_of t }) ∷ []
rows_push [] [] i t e = refl
rows_push [] (u ∷ ts) i t e = absurd (omega (arith, e))
rows_push (j ∷ is) [] i t e = absurd (omega (arith, e))
rows_push (j ∷ is) (u ∷ ts) i t e =
    ap (λ (l : List (ℕ × Parsed)). (u.line, record { instr = j; label = name_of u }) ∷ l) (rows_push is ts i t (omega (arith, e)))

-- ---- labels

-- instructions before those that are resolved
abbrev pub with_front : List Instr → Result (List Instr) (ℕ × FaultKind) → Result (List Instr) (ℕ × FaultKind)
with_front front (Ok is) = Ok (front ++ is)
with_front front (Err f) = Err f

abbrev pub given : List Instr → Result (List Instr) (ℕ × FaultKind)
given l = Ok l

pub front_push : (front : List Instr) (i : Instr) (r : Result (List Instr) (ℕ × FaultKind))
    → with_front (front ++ i ∷ []) r ≡ with_front front (before_others (Ok i) r)
front_push front i (Ok is) = ap given (append_assoc front (i ∷ []) is)
front_push front i (Err f) = refl

module _ (pairs : List (List ℕ × ℕ)) (front code : List Instr) (ts : List Target) (n : ℕ) (all : Result (List Instr) (ℕ × FaultKind))
    (so_far : with_front front (resolved pairs (rows (drop n code) (drop n ts))) ≡ all) where
  pub resolved_done : length code ≤ n → all ≡ Ok front
  unfolding resolved
  resolved_done le =
      let cut : drop n code ≡ [] = drop_all n code le in
      let one : with_front front (Ok []) ≡ all = rw cut at so_far in
      sym one ∙ ap given (append-nil front)

  module _ (i : Instr) (t : Target) (lt : n < length code) (lt' : n < length ts) where
    pub resolved_more : (a : ℕ) → resolve_number pairs (get_or ts n t).line (get_or code n i).number (name_of (get_or ts n t)) ≡ Ok a
        → with_front (front ++ record (get_or code n i) { number = a } ∷ []) (resolved pairs (rows (drop (n + 1) code) (drop (n + 1) ts))) ≡ all
    unfolding resolved
    resolved_more a is =
        let one : with_front front (resolved pairs (rows (get_or code n i ∷ drop (n + 1) code) (get_or ts n t ∷ drop (n + 1) ts))) ≡ all =
        rw (drop_more code n i lt, drop_more ts n t lt') at so_far in
        front_push front (record (get_or code n i) { number = a }) _ ∙ rw is at one

    pub resolved_fault : (f : ℕ × FaultKind) → resolve_number pairs (get_or ts n t).line (get_or code n i).number (name_of (get_or ts n t)) ≡ Err f
        → all ≡ Err f
    unfolding resolved
    resolved_fault f is =
        let one : with_front front (resolved pairs (rows (get_or code n i ∷ drop (n + 1) code) (get_or ts n t ∷ drop (n + 1) ts))) ≡ all =
        rw (drop_more code n i lt, drop_more ts n t lt') at so_far in
        sym (rw is at one)

-- the instruction at n is given its number in place
pub resolved_set : (pairs : List (List ℕ × ℕ)) (code : List Instr) (ts : List Target) (n : ℕ) (i i' : Instr) (t : Target) (a : ℕ)
    (all : Result (List Instr) (ℕ × FaultKind)) → n < length code → n < length ts
    → resolve_number pairs (get_or ts n t).line (get_or code n i).number (name_of (get_or ts n t)) ≡ Ok a
    → with_front (take n code) (resolved pairs (rows (drop n code) (drop n ts))) ≡ all
    → with_front (take (n + 1) (slice_set code n (record (get_or code n i') { number = a })))
    (resolved pairs (rows (drop (n + 1) (slice_set code n (record (get_or code n i') { number = a }))) (drop (n + 1) ts))) ≡ all
resolved_set pairs code ts n i i' t a all lt lt' is so_far =
    rw (
      get_or_default code n i' i lt,
      take_more_set code n (record (get_or code n i) { number = a }) lt,
      drop-set-lt (n + 1) code n (record (get_or code n i) { number = a }) (omega arith),
    )
    (resolved_more pairs (take n code) code ts n all so_far i t lt lt' a is)

-- a list whose elements were all written in place
pub written_back : (n : ℕ) (new old : List Instr) → length new ≡ n → length old ≡ n → take n (new ++ drop (length new) old) ≡ new
written_back n new old e f =
    let none : drop (length new) old ≡ [] = drop_all (length new) old (omega arith) in
    rw (none, append-nil new) (take_all n new (omega arith))

-- The numbers of the lines of instructions
pub lines_of_rows : (code : List Instr) (ts : List Target) → length code ≡ length ts → map (λ (t : Target). t.line) ts ≡ map (λ (d : ℕ × Parsed). d.0) (rows code ts)
lines_of_rows [] [] e = refl
lines_of_rows [] (t ∷ ts) e = absurd (omega (arith, e))
lines_of_rows (i ∷ is) [] e = absurd (omega (arith, e))
lines_of_rows (i ∷ is) (t ∷ ts) e = ap (λ ns. t.line ∷ ns) (lines_of_rows is ts (omega (arith, e)))
