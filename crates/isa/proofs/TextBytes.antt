-- Texts made of bytes of one kind: where they are cut, and what is trimmed of them.
use Rattle.std.proofs.Common.{◌≡◌, ℕ, suc, ◌+◌, ◌-◌, Bool, true, false, not, ◌&&◌, ◌==◌, leb, List, [], ◌∷◌, ◌++◌, length, get_or, map, refl, ap, ◌∙◌, arith}
use Rattle.std.specs.List.{position_or_len, suffix_len, before_first, after_first, slice_split, onto_first, list_all, join_with_byte}
use Rattle.std.proofs.lemmas.Bool.{ne_eqb, and_parts, and_from}
use Rattle.std.proofs.lemmas.Bool.Decides.{nat_tests}
use Rattle.std.proofs.lemmas.List.{take_all}
use Rattle.std.proofs.lemmas.List.Sums.{suffix_len_is}
use Rattle.lexical.specs.Blank.{is_blank, trim, trim_start, trim_end}
use Rattle.lexical.specs.Operand.{operands}

-- each byte is of a kind
abbrev pub Of : (ℕ → Bool) → List ℕ → Type 0
Of q [] = Unit {0}
Of q (x ∷ xs) = (q x ≡ true) × Of q xs

pub of_append : (q : ℕ → Bool) (xs ys : List ℕ) → Of q xs → Of q ys → Of q (xs ++ ys)
of_append q [] ys h k = k
of_append q (x ∷ xs) ys h k = (h.0, of_append q xs ys h.1 k)

pub of_all : (q : ℕ → Bool) (xs : List ℕ) → list_all q xs ≡ true → Of q xs
of_all q [] h = tt
of_all q (x ∷ xs) h = let both = and_parts (q x) (list_all q xs) h in (both.0, of_all q xs both.1)

pub all_of : (q : ℕ → Bool) (xs : List ℕ) → Of q xs → list_all q xs ≡ true
all_of q [] h = refl
all_of q (x ∷ xs) h = and_from (q x) (list_all q xs) h.0 (all_of q xs h.1)

pub of_other : (q r : ℕ → Bool) → ((b : ℕ) → q b ≡ true → r b ≡ true) → (xs : List ℕ) → Of q xs → Of r xs
of_other q r f [] h = tt
of_other q r f (x ∷ xs) h = (f x h.0, of_other q r f xs h.1)

-- ---- cuts at a byte that a text does not have

module _ (q p : ℕ → Bool) (apart : (b : ℕ) → q b ≡ true → p b ≡ false) where
  pub before_at : (xs : List ℕ) (y : ℕ) (ys : List ℕ) → Of q xs → p y ≡ true → before_first p (xs ++ y ∷ ys) ≡ xs
  before_at [] y ys h at = rw at refl
  before_at (x ∷ xs) y ys h at =
      let n = position_or_len p (xs ++ y ∷ ys) in
      let place : 1 + n ≡ suc n = omega arith in
      rw (apart x h.0, place) (ap (λ (l : List ℕ). x ∷ l) (before_at xs y ys h.1 at))

  pub after_at : (xs : List ℕ) (y : ℕ) (ys : List ℕ) → Of q xs → p y ≡ true → after_first p (xs ++ y ∷ ys) ≡ ys
  after_at [] y ys h at = rw at refl
  after_at (x ∷ xs) y ys h at =
      let n = position_or_len p (xs ++ y ∷ ys) in
      let place : 1 + n + 1 ≡ suc (n + 1) = omega arith in
      rw (apart x h.0, place) (after_at xs y ys h.1 at)

  pub before_whole : (xs : List ℕ) → Of q xs → before_first p xs ≡ xs
  before_whole [] h = refl
  before_whole (x ∷ xs) h =
      let n = position_or_len p xs in
      let place : 1 + n ≡ suc n = omega arith in
      rw (apart x h.0, place) (ap (λ (l : List ℕ). x ∷ l) (before_whole xs h.1))

  pub after_whole : (xs : List ℕ) → Of q xs → after_first p xs ≡ []
  after_whole [] h = refl
  after_whole (x ∷ xs) h =
      let n = position_or_len p xs in
      let place : 1 + n + 1 ≡ suc (n + 1) = omega arith in
      rw (apart x h.0, place) (after_whole xs h.1)

  pub split_at : (xs : List ℕ) (y : ℕ) (ys : List ℕ) → Of q xs → p y ≡ true → slice_split p (xs ++ y ∷ ys) ≡ xs ∷ slice_split p ys
  split_at [] y ys h at = rw at refl
  split_at (x ∷ xs) y ys h at = rw (apart x h.0) (ap (onto_first x) (split_at xs y ys h.1 at))

  pub split_whole : (xs : List ℕ) → Of q xs → slice_split p xs ≡ xs ∷ []
  split_whole [] h = refl
  split_whole (x ∷ xs) h = rw (apart x h.0) (ap (onto_first x) (split_whole xs h.1))

-- ---- blanks at the ends

-- the first byte is no blank
abbrev pub Starts : List ℕ → Type 0
Starts [] = ⊥
Starts (x ∷ xs) = is_blank x ≡ false

-- the last byte is no blank
abbrev pub Ends : List ℕ → Type 0
Ends [] = ⊥
Ends (x ∷ []) = is_blank x ≡ false
Ends (x ∷ y ∷ ys) = Ends (y ∷ ys)

pub ends_after : (xs ys : List ℕ) → Ends ys → Ends (xs ++ ys)
ends_after [] ys h = h
ends_after (x ∷ []) [] h = absurd h
ends_after (x ∷ []) (y ∷ ys) h = h
ends_after (x ∷ z ∷ xs) ys h = ends_after (z ∷ xs) ys h

last_is : (xs : List ℕ) → Ends xs → is_blank (get_or xs (length xs - 1) 0) ≡ false
last_is [] h = absurd h
last_is (x ∷ []) h = h
last_is (x ∷ y ∷ ys) h =
    let long : length (x ∷ y ∷ ys) - 1 ≡ suc (length ys) = omega arith in
    let short : length (y ∷ ys) - 1 ≡ length ys = omega arith in
    let rest : is_blank (get_or (y ∷ ys) (length ys) 0) ≡ false = rw short at (last_is (y ∷ ys) h) in
    rw long rest

pub trim_end_whole : (xs : List ℕ) → Ends xs → trim_end xs ≡ xs
trim_end_whole xs h =
    let back : suffix_len is_blank xs ≡ length xs - length xs =
    suffix_len_is is_blank xs (length xs) 0 (omega arith) (λ k le lt. absurd (omega (arith, le, lt))) (λ lt. last_is xs h) in
    rw back (take_all (length xs - (length xs - length xs)) xs (omega arith))

pub trim_start_whole : (xs : List ℕ) → Starts xs → trim_start xs ≡ xs
trim_start_whole [] h = absurd h
trim_start_whole (x ∷ xs) h = rw h refl

pub trim_whole : (xs : List ℕ) → Starts xs → Ends xs → trim xs ≡ xs
trim_whole xs s e = rw (trim_start_whole xs s) (trim_end_whole xs e)

-- ---- parts of a statement

-- a byte that is neither a blank nor what divides the parts of a line
abbrev pub inner : ℕ → Bool
inner b = (leb 36 b && leb b 122) && (not (b == 44) && not (b == 58))

pub inner_no_blank : (b : ℕ) → inner b ≡ true → is_blank b ≡ false
inner_no_blank b h = grind (arith, nat_tests)

pub inner_no_comma : (b : ℕ) → inner b ≡ true → (b == 44) ≡ false
inner_no_comma b h = grind (arith, nat_tests)

-- a part is not empty, and has such bytes alone
abbrev pub IsPart : List ℕ → Type 0
IsPart [] = ⊥
IsPart (x ∷ xs) = Of inner (x ∷ xs)

pub part_of : (xs : List ℕ) → IsPart xs → Of inner xs
part_of [] h = absurd h
part_of (x ∷ xs) h = h

pub part_starts : (xs : List ℕ) → IsPart xs → Starts xs
part_starts [] h = absurd h
part_starts (x ∷ xs) h = inner_no_blank x h.0

ends_of : (x : ℕ) (xs : List ℕ) → Of inner (x ∷ xs) → Ends (x ∷ xs)
ends_of x [] h = inner_no_blank x h.0
ends_of x (y ∷ ys) h = ends_of y ys h.1

pub part_ends : (xs : List ℕ) → IsPart xs → Ends xs
part_ends [] h = absurd h
part_ends (x ∷ xs) h = ends_of x xs h

pub part_trimmed : (xs : List ℕ) → IsPart xs → trim xs ≡ xs
part_trimmed xs h = trim_whole xs (part_starts xs h) (part_ends xs h)

abbrev pub AreParts : List (List ℕ) → Type 0
AreParts [] = Unit {0}
AreParts (p ∷ ps) = IsPart p × AreParts ps

pub parts_trimmed : (ps : List (List ℕ)) → AreParts ps → map trim ps ≡ ps
parts_trimmed [] h = refl
parts_trimmed (p ∷ ps) h = rw (part_trimmed p h.0) (ap (λ (l : List (List ℕ)). p ∷ l) (parts_trimmed ps h.1))

-- ---- operands

pub joined_split : (p : List ℕ) (ps : List (List ℕ)) → IsPart p → AreParts ps
    → slice_split (λ b. b == 44) (join_with_byte 44 (p ∷ ps)) ≡ p ∷ ps
joined_split p [] h hs = split_whole inner (λ b. b == 44) inner_no_comma p (part_of p h)
joined_split p (q ∷ qs) h hs =
    split_at inner (λ b. b == 44) inner_no_comma p 44 (join_with_byte 44 (q ∷ qs)) (part_of p h) refl
    ∙ ap (λ (l : List (List ℕ)). p ∷ l) (joined_split q qs hs.0 hs.1)

starts_before : (xs ys : List ℕ) → Starts xs → Starts (xs ++ ys)
starts_before [] ys h = absurd h
starts_before (x ∷ xs) ys h = h

joined_starts : (p : List ℕ) (ps : List (List ℕ)) → IsPart p → Starts (join_with_byte 44 (p ∷ ps))
joined_starts p [] h = part_starts p h
joined_starts p (q ∷ qs) h = starts_before p (44 ∷ join_with_byte 44 (q ∷ qs)) (part_starts p h)

pub joined_ends : (p : List ℕ) (ps : List (List ℕ)) → IsPart p → AreParts ps → Ends (join_with_byte 44 (p ∷ ps))
joined_ends p [] h hs = part_ends p h
joined_ends p (q ∷ qs) h hs =
    let rest : Ends (join_with_byte 44 (q ∷ qs)) = joined_ends q qs hs.0 hs.1 in
    ends_after p (44 ∷ join_with_byte 44 (q ∷ qs)) (ends_after (44 ∷ []) (join_with_byte 44 (q ∷ qs)) rest)

pub some_length : (xs : List ℕ) → Starts xs → (length xs == 0) ≡ false
some_length [] h = absurd h
some_length (x ∷ xs) h = ne_eqb (length (x ∷ xs)) 0 (λ e. omega arith)

pub operands_joined : (p : List ℕ) (ps : List (List ℕ)) → IsPart p → AreParts ps
    → operands (join_with_byte 44 (p ∷ ps)) ≡ p ∷ ps
unfolding operands
operands_joined p ps h hs =
    let starts = joined_starts p ps h in
    let whole : trim (join_with_byte 44 (p ∷ ps)) ≡ join_with_byte 44 (p ∷ ps) = trim_whole _ starts (joined_ends p ps h hs) in
    rw (whole, some_length _ starts, joined_split p ps h hs) (parts_trimmed (p ∷ ps) (h, hs))
