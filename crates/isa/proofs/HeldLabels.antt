-- Labels that are held, and one more.
use Rattle.std.proofs.Common.{◌≡◌, ℕ, ◌+◌, Bool, true, false, ◌||◌, cond, List, [], ◌∷◌, ◌++◌, map, Some, None, Ordering, Less, Equal, Greater, refl, sym, ap, ◌∙◌, append_assoc, inl, inr}
use Rattle.std.specs.Prelude.{is_some}
use Rattle.std.specs.Bool.{one_answer}
use Rattle.std.specs.BTreeMap.{UpdatesBy}
use Rattle.std.specs.Cmp.Lexicographic.{slice_cmp}
use Rattle.std.specs.Ordering.{is_eq, nat_cmp, ordering_then}
use Rattle.std.specs.List.{list_any}
use Rattle.std.specs.Map.{lookup}
use Rattle.std.specs.Str.{bytes_eq}
use Rattle.std.proofs.lemmas.Bool.{cases_Bool}
use Rattle.std.proofs.lemmas.List.{append-nil}
use Rattle.std.proofs.lemmas.Cmp.{nat_cmp_total, nat_list_cmp_total, tied_itself}
use Rattle.std.proofs.lemmas.Map.Text.{is_eq-slice_cmp}
use Rattle.std.proofs.lemmas.Slice.Eq.{bytes_eq-Decides}
use Rattle.isa.specs.Labels.{LabelMap, AreHeld, address_of, ending_of, key_cmp, key_of, names_of}
use Rattle.isa.specs.declared.listing.spot.Spot.TheVariants.{Label}
use Rattle.isa.specs.Listing.{stands_in, stands_twice, is_double, labels_at}
use Rattle.isa.specs.Spots.{double_spot}

-- ---- one more name

lookup_push : (t : List ℕ → Bool) (ps : List (List ℕ × ℕ)) (k : List ℕ) (v : ℕ) → lookup t ps ≡ None
    → lookup t (ps ++ (k, v) ∷ []) ≡ cond (t k) (Some v) None
lookup_push t [] k v e = refl
lookup_push t (p ∷ ps) k v e = elim (cases_Bool (t p.0)) [
  | inl is ↦ let bad : Some p.1 ≡ None = rw is at e in absurd cc
  | inr not ↦ let others : lookup t ps ≡ None = rw not at e in rw not (lookup_push t ps k v others)
]

lookup_keep : (t : List ℕ → Bool) (ps : List (List ℕ × ℕ)) (k : List ℕ) (v : ℕ) → t k ≡ false → lookup t (ps ++ (k, v) ∷ []) ≡ lookup t ps
lookup_keep t [] k v e = rw e refl
lookup_keep t (p ∷ ps) k v e = ap (cond (t p.0) (Some p.1)) (lookup_keep t ps k v e)

unequal_then : (a b : Ordering) → is_eq b ≡ false → is_eq (ordering_then a b) ≡ false
unequal_then Less b e = refl
unequal_then Equal b e = e
unequal_then Greater b e = refl

-- keys are equal where names are
same_key : (x y : List ℕ) → is_eq (key_cmp (key_of x) (key_of y)) ≡ bytes_eq x y
same_key x y = elim (cases_Bool (bytes_eq x y)) [
  | inl is ↦
      let same : x ≡ y = (bytes_eq-Decides x y).0 is in
      rw (is, sym same, tied_itself nat_cmp_total (ending_of x), tied_itself nat_list_cmp_total x) refl
  | inr not ↦ unequal_then (nat_cmp (ending_of x) (ending_of y)) (slice_cmp nat_cmp x y) (is_eq-slice_cmp x y ∙ not) ∙ sym not
]

pub stands_among : (name : List ℕ) (held : List (List ℕ × ℕ)) → is_some (lookup (λ k. bytes_eq k name) held) ≡ stands_in (names_of held) name
stands_among name [] = refl
stands_among name (p ∷ ps) = elim (cases_Bool (bytes_eq p.0 name)) [
  | inl is ↦ rw is refl
  | inr not ↦ rw not (stands_among name ps)
]

module _ (old new : LabelMap) (name : List ℕ) (address : ℕ) (held : List (List ℕ × ℕ)) (are : AreHeld old held) where
  pub is_among : is_some (address_of old name) ≡ stands_in (names_of held) name
  is_among = ap is_some (are name) ∙ stands_among name held

  pub held_more : address_of old name ≡ None → UpdatesBy key_cmp (key_cmp (key_of name)) old new (Some address)
      → AreHeld new (held ++ (name, address) ∷ [])
  held_more absent updates = λ q.
      let after : address_of new q ≡ cond (bytes_eq name q) (Some address) (address_of old q) = rw (same_key name q) at (updates.0 (key_of q)) in
      elim (cases_Bool (bytes_eq name q)) [
        | inl is ↦
            let same : name ≡ q = (bytes_eq-Decides name q).0 is in
            let none : lookup (λ k. bytes_eq k q) held ≡ None = rw same at (sym (are name) ∙ absent) in
            after ∙ rw is (rw is at (sym (lookup_push (λ k. bytes_eq k q) held name address none)))
        | inr not ↦ after ∙ rw not (are q ∙ sym (lookup_keep (λ k. bytes_eq k q) held name address not))
      ]

-- ---- names that stand twice

middle_exchanged : (a b c d : Bool) → ((a || b) || (c || d)) ≡ ((a || c) || (b || d))
middle_exchanged true b c d = refl
middle_exchanged false true true d = refl
middle_exchanged false true false d = refl
middle_exchanged false false c d = refl

middle_joined : (a b c d : Bool) → ((a || b) || (c || d)) ≡ (a || ((b || c) || d))
middle_joined true b c d = refl
middle_joined false true c d = refl
middle_joined false false c d = refl

either_way : (x y : List ℕ) → bytes_eq x y ≡ bytes_eq y x
either_way x y =
    let back = bytes_eq-Decides y x in
    one_answer (bytes_eq x y) (bytes_eq y x) (bytes_eq-Decides x y) ((λ same. sym (back.0 same)), λ same. back.1 (sym same))

-- among earlier names and one more: among the earlier ones, or it is the one
one_name_more : (earlier : List (List ℕ)) (x name : List ℕ) → stands_in (earlier ++ x ∷ []) name ≡ (stands_in earlier name || bytes_eq name x)
one_name_more [] x name = elim (cases_Bool (bytes_eq x name)) [
  | inl is ↦ rw (is, sym (either_way x name) ∙ is) refl
  | inr not ↦ rw (not, sym (either_way x name) ∙ not) refl
]
one_name_more (y ∷ ys) x name = elim (cases_Bool (bytes_eq y name)) [ inl is ↦ rw is refl | inr not ↦ rw not (one_name_more ys x name) ]

one_more : (earlier names : List (List ℕ)) (x : List ℕ)
    → list_any (stands_in (earlier ++ x ∷ [])) names ≡ (list_any (stands_in earlier) names || stands_in names x)
one_more earlier [] x = refl
one_more earlier (y ∷ ys) x =
    ap (λ (b : Bool). b || list_any (stands_in (earlier ++ x ∷ [])) ys) (one_name_more earlier x y)
    ∙ ap (λ (b : Bool). (stands_in earlier y || bytes_eq y x) || b) (one_more earlier ys x)
    ∙ middle_exchanged (stands_in earlier y) (bytes_eq y x) (list_any (stands_in earlier) ys) (stands_in ys x)

pub double_more : (earlier names : List (List ℕ)) (x : List ℕ)
    → is_double earlier (x ∷ names) ≡ (stands_in earlier x || is_double (earlier ++ x ∷ []) names)
double_more earlier names x =
    middle_joined (stands_in earlier x) (list_any (stands_in earlier) names) (stands_in names x) (stands_twice names)
    ∙ ap (λ (b : Bool). stands_in earlier x || (b || stands_twice names)) (sym (one_more earlier names x))

pub names_append : (xs ys : List (List ℕ × ℕ)) → map (λ p. p.0) (xs ++ ys) ≡ map (λ p. p.0) xs ++ map (λ p. p.0) ys
names_append [] ys = refl
names_append (x ∷ xs) ys = ap (λ (ns : List (List ℕ)). x.0 ∷ ns) (names_append xs ys)

-- ---- the labels of a line

-- Labels `held` were held before a line; of its labels `all` those before `rest`, which are n, have been added.
pub record AreAdded (labels : LabelMap) (held : List (List ℕ × ℕ)) (address n : ℕ) (rest all : List (List ℕ)) : Type 0 where
  pub now : List (List ℕ × ℕ)
  pub are : AreHeld labels now
  pub together : now ++ labels_at address rest ≡ held ++ labels_at address all
  pub double : is_double (names_of now) rest ≡ is_double (names_of held) all
  pub spot : double_spot n (names_of now) rest ≡ double_spot 0 (names_of held) all

pub added_none : (labels : LabelMap) (held : List (List ℕ × ℕ)) (address : ℕ) (all : List (List ℕ)) → AreHeld labels held
    → AreAdded labels held address 0 all all
added_none labels held address all are = record { now = held; are = are; together = refl; double = refl; spot = refl }

module _ (labels : LabelMap) (held : List (List ℕ × ℕ)) (address n : ℕ) (rest all : List (List ℕ)) (so_far : AreAdded labels held address n rest all) where
  pub added_done : rest ≡ [] → (is_double (names_of held) all ≡ false) × AreHeld labels (held ++ labels_at address all)
  added_done none =
      let together : so_far.now ++ [] ≡ held ++ labels_at address all = rw none at so_far.together in
      let double : is_double (names_of so_far.now) [] ≡ is_double (names_of held) all = rw none at so_far.double in
      (sym double, rw (sym (append-nil so_far.now) ∙ together) at so_far.are)

  module _ (name : List ℕ) (names : List (List ℕ)) (front : rest ≡ name ∷ names) where
    name_more : (stands_in (names_of so_far.now) name || is_double (names_of so_far.now ++ name ∷ []) names) ≡ is_double (names_of held) all
    name_more = sym (double_more (names_of so_far.now) names name) ∙ (rw front at so_far.double)

    spot_more : double_spot n (names_of so_far.now) (name ∷ names) ≡ double_spot 0 (names_of held) all
    spot_more = rw front at so_far.spot

    pub added_double : ((ps : List (List ℕ × ℕ)) → AreHeld labels ps → stands_in (names_of ps) name ≡ true)
        → (is_double (names_of held) all ≡ true) × (Label n ≡ double_spot 0 (names_of held) all)
    added_double stands =
        let twice = stands so_far.now so_far.are in
        (sym (rw twice at name_more), rw twice at spot_more)

    pub added_more : (after : LabelMap)
        → ((ps : List (List ℕ × ℕ)) → AreHeld labels ps → (stands_in (names_of ps) name ≡ false) × AreHeld after (ps ++ (name, address) ∷ []))
        → AreAdded after held address (n + 1) names all
    added_more after step =
        let one = step so_far.now so_far.are in
        record {
          now = so_far.now ++ (name, address) ∷ [];
          are = one.1;
          together = append_assoc so_far.now ((name, address) ∷ []) (labels_at address names) ∙ (rw front at so_far.together);
          double = rw (names_append so_far.now ((name, address) ∷ [])) (rw one.0 at name_more);
          spot = rw (names_append so_far.now ((name, address) ∷ [])) (rw one.0 at spot_more);
        }
