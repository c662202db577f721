-- Histories of additions.
use Rattle.std.proofs.Common.{◌≡◌, ◌≢◌, ℕ, zero, suc, ◌+◌, ◌<◌, Bool, true, false, List, [], ◌∷◌, ◌++◌, map, set, sum_by, length, nat_lt}
use Rattle.std.proofs.Common.{arith, eq-eqb, if◌then◌else◌, length-append, ne_eqb, refl, subst, sym, ap, ◌∙◌, ⊎_elim}
use Rattle.std.proofs.lemmas.Bool.{le-ltb, ltb-false}
use Rattle.std.proofs.lemmas.List.Sums.{sum_by-cons}
use Rattle.atomic_table.proofs.Lists.{at_longer, set_else}
use mathlib.Core.Option.{some, some-ne-none, some-injective}
use lib.ListN.{get_elem?}
use Rattle.counts.specs.declared.shares.Addition.{Addition}
use Rattle.counts.specs.declared.shares.Known.{Known}
use Rattle.counts.specs.declared.shares.Shares.{Shares}
use Rattle.counts.specs.Rule.{HasSeenAll}
use Rattle.counts.specs.Known.{adds_at, longer, total_at}
use Rattle.instructions.specs.Histories.{StartsWith}
use Rattle.instructions.proofs.Histories.{starts_on}
use Rattle.counts.specs.Shares.{raised_at, share}
use Rattle.counts.specs.Totals.{total_count}
use Rattle.counts.proofs.EachShare.{raised_here, raised_off, same_or_not}
use Rattle.counts.proofs.Sums.{sum_set}

-- what began as one that began as a third began as that
pub further : {h p b : List Addition} → StartsWith h p → StartsWith p b → StartsWith h b
further {h} {p} {b} x y = starts_on b p h y x

-- one addition more
pub one_more : {h p : List Addition} → (a : Addition) → StartsWith h p → StartsWith (a ∷ h) p
one_more a x = record { more = a ∷ x.more; is = ap (λ l. a ∷ l) x.is }

-- the longer one of two beginnings is one
pub longer_begins : {h : List Addition} → (p b : List Addition) → StartsWith h p → StartsWith h b → StartsWith h (longer p b)
longer_begins {h} p b x y = one (nat_lt (length p) (length b))
  where
    one : (z : Bool) → StartsWith h (if z then b else p)
    one true = y
    one false = x

module _ {A B : Type 0} (f : A → B) where
  pub map_set : (xs : List A) (i : ℕ) (y : A) → map f (set xs i y) ≡ set (map f xs) i (f y)
  map_set [] i y = refl
  map_set (x ∷ xs) zero y = refl
  map_set (x ∷ xs) (suc i) y = ap (λ l. f x ∷ l) (map_set xs i y)

  pub map_push : (xs : List A) (y : A) → map f (xs ++ y ∷ []) ≡ map f xs ++ f y ∷ []
  map_push [] y = refl
  map_push (x ∷ xs) y = ap (λ l. f x ∷ l) (map_push xs y)

  pub map_at : (xs : List A) (i : ℕ) (x : A) → get_elem? xs i ≡ some x → get_elem? (map f xs) i ≡ some (f x)
  map_at [] i x at = absurd (some-ne-none x (sym at))
  map_at (y ∷ ys) zero x at = ap (λ z. some (f z)) (some-injective y x at)
  map_at (y ∷ ys) (suc i) x at = map_at ys i x at

-- an addition adds as much to its total as to the sum of the shares, and nothing to others
pub told_more : (views : List Shares) (id at k : ℕ) (v : Shares) (h : List Addition) → get_elem? views id ≡ some v → (i : ℕ) → i < total_count
    → total_at i h ≡ sum_by (λ u. (share i u).added) views
    → total_at i (record { at = at; k = k } ∷ h) ≡ sum_by (λ u. (share i u).added) (set views id (raised_at at k v))
told_more views id at k v h here i below told =
    let a : Addition = record { at = at; k = k } in
    let f : Shares → ℕ = λ u. (share i u).added in
    let w = raised_at at k v in
    let all = sum_by-cons (adds_at i) a h in
    let exchanged = sum_set f views id v w here in
    ⊎_elim
    (λ (e : i ≡ at).
    let own : f w ≡ f v + k = subst (λ z. (share i (raised_at z k v)).added ≡ (share i v).added + k) e (ap (λ t. t.added) (raised_here i k v below)) in
    let more : adds_at i a ≡ k = ap (λ b. if b then k else 0) (eq-eqb at i (sym e)) in
    omega (arith, all, exchanged, own, more, told))
    (λ apart.
    let own : f w ≡ f v = ap (λ t. t.added) (raised_off at i k v below apart) in
    let none : adds_at i a ≡ 0 = ap (λ b. if b then k else 0) (ne_eqb at i (λ e. apart (sym e))) in
    omega (arith, all, exchanged, own, none, told))
    (same_or_not i at)

set_at : {A : Type 0} (xs : List A) (id : ℕ) (x y : A) → get_elem? xs id ≡ some x → get_elem? (set xs id y) id ≡ some y
set_at [] id x y at = absurd (some-ne-none x (sym at))
set_at (z ∷ zs) zero x y at = refl
set_at (z ∷ zs) (suc id) x y at = set_at zs id x y at

-- who sees all of a history
pub sees_all : (h : List Addition) (views : List Known) (id : ℕ) (v w : Known) → get_elem? views id ≡ some v → w.seen ≡ h → HasSeenAll h (set views id w)
sees_all h views id v w here all = record { id = id; v = w; here = set_at views id v w here; all = all }

-- another view of one seat, which has seen all of it if the old one has
pub still_seen : (h : List Addition) (views : List Known) (id : ℕ) (v w : Known) → get_elem? views id ≡ some v → (v.seen ≡ h → w.seen ≡ h) → HasSeenAll h views → HasSeenAll h (set views id w)
still_seen h views id v w here keeps x =
    ⊎_elim
    (λ (e : x.id ≡ id).
    let same : x.v ≡ v = some-injective x.v v (sym (subst (λ z. get_elem? views z ≡ some x.v) e x.here) ∙ here) in
    sees_all h views id v w here (keeps (ap (λ (u : Known). u.seen) (sym same) ∙ x.all)))
    (λ apart. record { id = x.id; v = x.v; here = set_else views id x.id w apart ∙ x.here; all = x.all })
    (same_or_not x.id id)

-- one seat more
pub more_seats : (h : List Addition) (views : List Known) (w : Known) → HasSeenAll h views → HasSeenAll h (views ++ w ∷ [])
more_seats h views w x = record { id = x.id; v = x.v; here = at_longer views (w ∷ []) x.id x.v x.here; all = x.all }

-- two seats become one, which has seen all of it if either has
pub joined_seen : (h : List Addition) (views : List Known) (id other : ℕ) (v w b n : Known) → get_elem? views id ≡ some v → get_elem? views other ≡ some w → id ≢ other
    → (v.seen ≡ h → b.seen ≡ h) → (w.seen ≡ h → b.seen ≡ h) → HasSeenAll h views → HasSeenAll h (set (set views id b) other n)
joined_seen h views id other v w b n here there apart left right x =
    let both = λ (all : b.seen ≡ h). (let r : HasSeenAll h (set (set views id b) other n) =
    record { id = id; v = b; here = set_else (set views id b) other id n apart ∙ set_at views id v b here; all = all } in r) in
    ⊎_elim
    (λ (e : x.id ≡ id). both (left (ap (λ (u : Known). u.seen) (sym (same x.v v id e x.here here)) ∙ x.all)))
    (λ not_id.
    ⊎_elim
    (λ (e : x.id ≡ other). both (right (ap (λ (u : Known). u.seen) (sym (same x.v w other e x.here there)) ∙ x.all)))
    (λ not_other. record { id = x.id; v = x.v; here = set_else (set views id b) other x.id n not_other ∙ (set_else views id x.id b not_id ∙ x.here); all = x.all })
    (same_or_not x.id other))
    (same_or_not x.id id)
  where
    same : (u z : Known) (at : ℕ) → x.id ≡ at → get_elem? views x.id ≡ some u → get_elem? views at ≡ some z → u ≡ z
    same u z at e one two = some-injective u z (sym (subst (λ j. get_elem? views j ≡ some u) e one) ∙ two)

-- the longer one of a whole and a beginning is the whole
pub longer_left : (h b : List Addition) → StartsWith h b → longer h b ≡ h
longer_left h b x =
    let long : length h ≡ length x.more + length b = ap length x.is ∙ length-append x.more b in
    ap (λ z. if z then b else h) (le-ltb (length h) (length b) (omega arith))

nothing_more : (more p : List Addition) → length more ≡ 0 → more ++ p ≡ p
nothing_more [] p none = refl
nothing_more (a ∷ more) p none = absurd (omega arith)

pub longer_right : (p h : List Addition) → StartsWith h p → longer p h ≡ h
longer_right p h x = one (nat_lt (length p) (length h)) refl
  where
    one : (z : Bool) → nat_lt (length p) (length h) ≡ z → (if z then h else p) ≡ h
    one true e = refl
    one false e =
        let long : length h ≡ length x.more + length p = ap length x.is ∙ length-append x.more p in
        let low = ltb-false (length p) (length h) e in
        sym (x.is ∙ nothing_more x.more p (omega arith))
