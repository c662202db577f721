-- The youngest entry that passes a test is found from the young end, and splits the list.
use Rattle.std.proofs.Common.{◌≡◌, ℕ, zero, suc, ◌+◌, ◌<◌, Bool, true, false, cond, List, [], ◌∷◌, ◌++◌, length, get_or, take, Option, Some, None, refl, sym, ap, ◌∙◌, arith}
use Rattle.std.proofs.lemmas.List.{take_more, length-take-le}
use Rattle.std.specs.List.{slice_get, AllByRecursion}
use Rattle.lsq.specs.declared.entry.Entry.{Entry}
use Rattle.lsq.specs.LoadRule.{or_older, youngest_from, youngest}

-- an entry at a place, if it passes the test
abbrev pub this_one : (Entry → Bool) → ℕ → Entry → Option (ℕ × Entry)
this_one test at e = cond (test e) (Some (at, e)) None

or_older-assoc : (p q r : Option (ℕ × Entry)) → or_older (or_older p q) r ≡ or_older p (or_older q r)
or_older-assoc None q r = refl
or_older-assoc (Some p) q r = refl

or_older-none : (p : Option (ℕ × Entry)) → or_older p None ≡ p
or_older-none None = refl
or_older-none (Some p) = refl

-- with one more young entry
pub youngest_from-snoc : (test : Entry → Bool) (es : List Entry) (e : Entry) (at n : ℕ) → n ≡ at + length es
    → youngest_from at test (es ++ e ∷ []) ≡ or_older (this_one test n e) (youngest_from at test es)
youngest_from-snoc test [] e at n h =
    let same : n ≡ at = omega arith in
    ap (λ (m : ℕ). this_one test m e) (sym same) ∙ sym (or_older-none (this_one test n e))
youngest_from-snoc test (x ∷ xs) e at n h =
    ap (λ (o : Option (ℕ × Entry)). or_older o (this_one test at x))
    (youngest_from-snoc test xs e (at + 1) n (omega arith))
    ∙ or_older-assoc (this_one test n e) (youngest_from (at + 1) test xs) (this_one test at x)

-- the first n entries, of which the one at i is the last
pub youngest_step : (test : Entry → Bool) (es : List Entry) (n i : ℕ) (d : Entry) → n ≡ i + 1 → i < length es
    → youngest test (take n es) ≡ or_older (this_one test i (get_or es i d)) (youngest test (take i es))
youngest_step test es n i d s h =
    let more : take n es ≡ take i es ++ get_or es i d ∷ [] = ap (λ (k : ℕ). take k es) s ∙ take_more es i d h in
    let len : i ≡ 0 + length (take i es) = omega (arith, length-take-le i es (omega arith)) in
    ap (λ (xs : List Entry). youngest_from 0 test xs) more
    ∙ youngest_from-snoc test (take i es) (get_or es i d) 0 i len

-- the one at i does not pass
pub youngest_passed : (test : Entry → Bool) (es : List Entry) (n i : ℕ) (d : Entry) → n ≡ i + 1 → i < length es
    → test (get_or es i d) ≡ false → youngest test es ≡ youngest test (take n es)
    → youngest test es ≡ youngest test (take i es)
youngest_passed test es n i d s h fails same =
    same ∙ youngest_step test es n i d s h
    ∙ ap (λ (b : Bool). or_older (cond b (Some (i, get_or es i d)) None) (youngest test (take i es))) fails

-- the one at i passes
pub youngest_found : (test : Entry → Bool) (es : List Entry) (n i : ℕ) (d : Entry) → n ≡ i + 1 → i < length es
    → test (get_or es i d) ≡ true → youngest test es ≡ youngest test (take n es)
    → youngest test es ≡ Some (i, get_or es i d)
youngest_found test es n i d s h passes same =
    same ∙ youngest_step test es n i d s h
    ∙ ap (λ (b : Bool). or_older (cond b (Some (i, get_or es i d)) None) (youngest test (take i es))) passes

-- no entry passes
abbrev pub NonePasses : (Entry → Bool) → List Entry → Type 0
NonePasses test es = AllByRecursion (λ e. test e ≡ false) es

-- the list round the youngest entry that passes, where its oldest entry has the place at
pub record SplitsAt (test : Entry → Bool) (at : ℕ) (es : List Entry) (place : ℕ) (entry : Entry) : Type 0 where
  pub older : List Entry
  pub younger : List Entry
  pub parts : es ≡ older ++ entry ∷ younger
  pub place_is : place ≡ at + length older
  pub passes : test entry ≡ true
  pub none_younger : NonePasses test younger

none_at : (test : Entry → Bool) (es : List Entry) (k : ℕ) (e : Entry) → NonePasses test es
    → slice_get es k ≡ Some e → test e ≡ false
none_at test [] k e n h = absurd (cc h)
none_at test (x ∷ xs) zero e n h = let same : e ≡ x = cc h in ap test same ∙ n.0
none_at test (x ∷ xs) (suc k) e n h = none_at test xs k e n.1 h

-- after the youngest that passes none does
pub none_behind : (test : Entry → Bool) (xs ys : List Entry) (e : Entry) (k : ℕ) (other : Entry)
    → NonePasses test ys → length xs < k → slice_get (xs ++ e ∷ ys) k ≡ Some other → test other ≡ false
none_behind test [] ys e zero other n less h = absurd (omega (arith, less))
none_behind test [] ys e (suc k) other n less h = none_at test ys k other n h
none_behind test (x ∷ xs) ys e zero other n less h = absurd (omega (arith, less))
none_behind test (x ∷ xs) ys e (suc k) other n less h =
    none_behind test xs ys e k other n (omega (arith, less)) h

-- what a find says of the list
abbrev pub FoundIs : (Entry → Bool) → ℕ → List Entry → Option (ℕ × Entry) → Type 0
FoundIs test at es None = NonePasses test es
FoundIs test at es (Some found) = SplitsAt test at es found.0 found.1

pub youngest_is : (test : Entry → Bool) (es : List Entry) (at : ℕ) → FoundIs test at es (youngest_from at test es)
youngest_is test [] at = tt
youngest_is test (e ∷ es) at = go (youngest_from (at + 1) test es) (youngest_is test es (at + 1)) (test e) refl
  where
    go : (o : Option (ℕ × Entry)) → FoundIs test (at + 1) es o → (b : Bool) → test e ≡ b
        → FoundIs test at (e ∷ es) (or_older o (cond b (Some (at, e)) None))
    go None none true passes =
        record { older = []; younger = es; parts = refl; place_is = omega arith; passes = passes; none_younger = none }
    go None none false fails = (fails, none)
    go (Some found) s b is = record {
      older = e ∷ s.older;
      younger = s.younger;
      parts = ap (λ (xs : List Entry). e ∷ xs) s.parts;
      place_is = omega (arith, s.place_is);
      passes = s.passes;
      none_younger = s.none_younger;
    }

-- a search from the young end goes on, or ends
pub ruleset found_or_passed = (youngest_passed, youngest_found)
