-- Lists, one by one.
use Rattle.std.proofs.Common.{◌≡◌, ◌<◌, ◌≤◌, ℕ, zero, suc, ◌+◌, List, [], ◌∷◌, ◌++◌, length, map, take, drop, get_or, Option, Some, refl, sym, ap, ◌∙◌, subst, arith, add-one}
use Rattle.std.proofs.Math.Seq.{drop-cons}
use Rattle.std.proofs.lemmas.List.{drop-append-le, reverse-append}
use Rattle.std.specs.List.{AllByRecursion}
use Rattle.std.specs.Prelude.{reverse, slice_get}
use Rattle.one_thread.specs.declared.station.Station.{Station}
use Rattle.chart.specs.declared.event.Event.TheVariants.{Left}
use Rattle.chart.specs.declared.event.Way.TheVariants.{Squashed}
use Rattle.chart.specs.declared.row.Row.{Row}
use Rattle.chart.specs.Events.{squashes}
use Rattle.chart.specs.Rows.{all_seen, seen}

-- the one at i, and those after it
dropped : {X : Type 0} (rows : List X) (i : ℕ) (r : X) → i < length rows → r ≡ get_or rows i r → drop i rows ≡ r ∷ drop (i + 1) rows
dropped rows i r less is = drop-cons rows i r less ∙ ap (λ x. x ∷ drop (suc i) rows) (sym is) ∙ ap (λ n. r ∷ drop n rows) (sym (add-one i))

-- one more row after a turn
pub seen_next : (turn : ℕ) (W : List Station) (i : ℕ) (rows : List Row) (r s : Row) (o : Option Station) →
    i < length rows → r ≡ get_or rows i r → o ≡ slice_get W i → s ≡ seen turn r o →
    all_seen turn W i (drop i rows) ≡ s ∷ all_seen turn W (i + 1) (drop (i + 1) rows)
seen_next turn W i rows r s o less is there says =
    ap (all_seen turn W i) (dropped rows i r less is)
    ∙ ap (λ x. x ∷ all_seen turn W (i + 1) (drop (i + 1) rows)) (sym (says ∙ ap (seen turn r) there))

-- one more squash
pub squashes_more : (live : ℕ) (rows : List Row) (r : Row) → live ≤ length rows → squashes live (rows ++ r ∷ []) ≡ Left r Squashed ∷ squashes live rows
squashes_more live rows r h =
    ap (λ l. map (λ x. Left x Squashed) (reverse l)) (drop-append-le live rows (r ∷ []) h)
    ∙ ap (λ l. map (λ x. Left x Squashed) l) (reverse-append (drop live rows) (r ∷ []))

-- What holds of each

pub all_both : {X : Type 0} (Q : X → Type 0) (xs ys : List X) → AllByRecursion Q xs → AllByRecursion Q ys → AllByRecursion Q (xs ++ ys)
all_both Q [] ys h k = k
all_both Q (x ∷ xs) ys h k = (h.0, all_both Q xs ys h.1 k)

pub all_get : {X : Type 0} (Q : X → Type 0) (xs : List X) → AllByRecursion Q xs → (i : ℕ) (x : X) → slice_get xs i ≡ Some x → Q x
all_get Q [] h i x e = absurd (cc)
all_get Q (y ∷ ys) h zero x e = let same : y ≡ x = cc in subst Q same h.0
all_get Q (y ∷ ys) h (suc i) x e = all_get Q ys h.1 i x e

pub all_take : {X : Type 0} (Q : X → Type 0) (n : ℕ) (xs : List X) → AllByRecursion Q xs → AllByRecursion Q (take n xs)
all_take Q zero xs h = tt
all_take Q (suc n) [] h = tt
all_take Q (suc n) (x ∷ xs) h = (h.0, all_take Q n xs h.1)

-- after the first n
pub all_dropped : {X : Type 0} (Q : X → Type 0) (xs : List X) (n : ℕ) → ((i : ℕ) (x : X) → n ≤ i → slice_get xs i ≡ Some x → Q x) →
    AllByRecursion Q (drop n xs)
all_dropped Q [] zero f = tt
all_dropped Q [] (suc n) f = tt
all_dropped Q (x ∷ xs) zero f = (f 0 x (omega arith) refl, all_dropped Q xs zero (λ i y l e. f (suc i) y (omega arith) e))
all_dropped Q (x ∷ xs) (suc n) f = all_dropped Q xs n (λ i y l e. f (suc i) y (omega (arith, l)) e)

-- behind others
pub all_behind : {X : Type 0} (Q : X → Type 0) (xs ys : List X) → AllByRecursion Q ys → (i : ℕ) (x : X) → length xs ≤ i →
    slice_get (xs ++ ys) i ≡ Some x → Q x
all_behind Q [] ys h i x l e = all_get Q ys h i x e
all_behind Q (z ∷ xs) ys h zero x l e = absurd (omega (arith, l))
all_behind Q (z ∷ xs) ys h (suc i) x l e = all_behind Q xs ys h i x (omega (arith, l)) e

pub get_last : {X : Type 0} (xs : List X) (x : X) → slice_get (xs ++ x ∷ []) (length xs) ≡ Some x
get_last [] x = refl
get_last (z ∷ xs) x = get_last xs x

pub get_map : {X Y : Type 0} (f : X → Y) (xs : List X) (i : ℕ) (x : X) → slice_get xs i ≡ Some x → slice_get (map f xs) i ≡ Some (f x)
get_map f [] i x e = absurd (cc)
get_map f (y ∷ ys) zero x e = let same : y ≡ x = cc in ap (λ z. Some (f z)) same
get_map f (y ∷ ys) (suc i) x e = get_map f ys i x e
