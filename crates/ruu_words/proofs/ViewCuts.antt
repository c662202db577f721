-- Cutting a view in two.
use Rattle.std.proofs.Common.{◌≡◌, ◌≢◌, ℕ, zero, suc, ◌+◌, ◌*◌, ◌<◌, ◌≤◌, List, [], ◌∷◌, ◌++◌, length, set, sym, refl, ap, ◌∙◌, subst, inl, inr, ◌⊎◌, ⊎_elim, arith, append-nil, length-append}
use Rattle.std.proofs.Common.{length-set}
use mathlib.Core.Option.{some, some-injective, some-ne-none}
use lib.ListN.{get_elem?}
use Rattle.atomic_table.specs.Table.{Splits, State}
use Rattle.atomic_table.proofs.Lists.{at_set}
use Rattle.instructions.specs.Programs.{Program}
use Rattle.inorder.specs.declared.history.Entry.{Entry}
use Rattle.inorder.specs.History.{front, own}
use Rattle.instructions.specs.Histories.{StartsWith}
use Rattle.inorder.specs.Unit.{Sizes}
use Rattle.inorder.proofs.Histories.{no_length, own-append}
use Rattle.ruu_words.specs.declared.rule.Draft.{Draft}
use Rattle.ruu_words.specs.declared.rule.Draft.TheVariants.{Nothing}
use Rattle.ruu_words.specs.declared.rule.SpareNumbers.{SpareNumbers}
use Rattle.ruu_words.specs.declared.rule.Role.{Role}
use Rattle.ruu_words.specs.declared.rule.Role.TheVariants.{Back, Front, Spent, Start, Worker}
use Rattle.ruu_words.specs.declared.rule.View.{View}
use Rattle.ruu_words.specs.Views.{ViewFits, IsAlive, IsCaller, IsSpare, IsOf, half, nobody, other_half, view, without_first}
use Rattle.ruu_words.specs.Rule.{IsKept, Keeps}
use Rattle.ruu_words.proofs.SpareNumbers.{half_apart, half_not_first, half_of, later_of, no_spare, not_first, other_half_of, own_number, positive}

at_end : {A : Type 0} (l : List A) (a b : A) (j : ℕ) → get_elem? (l ++ a ∷ []) j ≡ some b → (get_elem? l j ≡ some b) ⊎ ((j ≡ length l) × (a ≡ b))
at_end [] a b zero e = inr (refl, some-injective a b e)
at_end [] a b (suc j) e = absurd (some-ne-none b (sym e))
at_end (x ∷ xs) a b zero e = inl e
at_end (x ∷ xs) a b (suc j) e = ⊎_elim (λ h. inl h) (λ h. inr (ap suc h.0, h.1)) (at_end xs a b j e)

-- who has done nothing from one history to another has done nothing up to one between them
own_between : (id : ℕ) (h seen old : List Entry) → StartsWith h seen → StartsWith seen old → own id h ≡ own id old → own id h ≡ own id seen
own_between id h seen old a b e =
    let x : own id h ≡ own id a.more ++ own id seen = ap (own id) a.is ∙ own-append id a.more seen in
    let y : own id seen ≡ own id b.more ++ own id old = ap (own id) b.is ∙ own-append id b.more old in
    let n = ap (λ l. length l) (sym x ∙ e) in
    let m = ap (λ l. length l) y in
    let lx = length-append (own id a.more) (own id seen) in
    let ly = length-append (own id b.more) (own id old) in
    let none : own id a.more ≡ [] = no_length (own id a.more) (omega arith) in
    x ∙ ap (λ z. z ++ own id seen) none

pub starts_empty : (h : List Entry) → StartsWith h []
starts_empty h = record { more = h; is = sym (append-nil h) }

-- What a seat may name is cut in two: its own number stays, and a new caller has one that it might give away
pub record IsCut (v l r : View) : Type 0 where
  pub left_caller : IsCaller l.role l.by
  pub right_caller : IsCaller r.role r.by
  pub left_above : 1 ≤ l.spare.every → l.by < l.spare.first
  pub right_above : 1 ≤ r.spare.every → r.by < r.spare.first
  pub left_spare : (n : ℕ) → IsSpare l.spare n → IsSpare v.spare n
  pub given : IsAlive r.role → (n : ℕ) → IsOf r n → IsSpare v.spare n
  pub apart : IsAlive r.role → (n : ℕ) → IsOf l n → ¬ IsOf r n

-- Whose a seat is after a cut
data Where (views : List View) (id : ℕ) (l r : View) (i : ℕ) (a : View) : Type 0 where
  IsLeft : i ≡ id → l ≡ a → Where views id l r i a
  IsElse : i ≢ id → get_elem? views i ≡ some a → Where views id l r i a
  IsRight : i ≡ length views → r ≡ a → Where views id l r i a

where_is : (views : List View) (id : ℕ) (l r : View) (i : ℕ) (a : View) → get_elem? (set views id l ++ r ∷ []) i ≡ some a → Where views id l r i a
where_is views id l r i a e = ⊎_elim
    (λ old. ⊎_elim
    (λ (t : (i ≡ id) × (l ≡ a)). IsLeft t.0 t.1)
    (λ (t : (i ≢ id) × (get_elem? views i ≡ some a)). IsElse t.0 t.1)
    (at_set views id i l a old))
    (λ (t : (i ≡ length (set views id l)) × (r ≡ a)). IsRight (t.0 ∙ length-set views id l) t.1)
    (at_end (set views id l) r a i e)

module _ (P : Program) (C : Sizes) (opening : List Entry) where
  -- Other views of the same words and history keep the rule, if they fit it, have no number in common and have its draft
  pub with_views : (s : State ℕ View) (kept : Keeps P C opening s) (views : List View) →
      ((i : ℕ) (a : View) → get_elem? views i ≡ some a → ViewFits opening kept.history a) →
      ((i j n : ℕ) (a b : View) → get_elem? views i ≡ some a → get_elem? views j ≡ some b → i ≢ j → IsAlive a.role → IsAlive b.role → IsOf a n → ¬ IsOf b n) →
      ((i : ℕ) (a : View) → get_elem? views i ≡ some a → IsAlive a.role → a.by ≡ front → a.draft ≡ kept.draft) →
      Keeps P C opening (record { words = s.words; homes = s.homes; views = views })
  with_views s kept views fit apart same =
      let k = kept.kept in
      record {
        history = kept.history;
        draft = kept.draft;
        kept = record {
          legal = k.legal;
          one_table = k.one_table;
          wide = k.wide;
          words = k.words;
          views = fit;
          apart = apart;
          draft = same;
          proper = k.proper;
        };
      }

  module _ (id : ℕ) (v : View) (left right : Role) (kin : SpareNumbers) (number : ℕ) (spare : SpareNumbers) where
    abbrev L : View
    L = view left v.by kin v.seen v.draft

    abbrev R : View
    R = view right number spare v.seen Nothing

    module _ (live : IsAlive v.role) (s : State ℕ View) (h : List Entry) (d : Draft) (k : IsKept P C opening s h d) (here : get_elem? s.views id ≡ some v) (q : IsCut v L R) where
      left_of : (n : ℕ) → IsOf L n → IsOf v n
      left_of n x = ⊎_elim (λ e. inl e) (λ i. inr (q.left_spare n i)) x

      apart_at : (i j n : ℕ) (a b : View) → Where s.views id L R i a → Where s.views id L R j b → i ≢ j → IsAlive a.role → IsAlive b.role → IsOf a n → ¬ IsOf b n
      apart_at i j n a b (IsLeft e f) (IsLeft e' f') ne la lb x y = ne (e ∙ sym e')
      apart_at i j n a b (IsLeft e f) (IsElse e' f') ne la lb x y = k.apart id j n v b here f' (λ o. e' (sym o)) live lb (left_of n (subst (λ z. IsOf z n) (sym f) x)) y
      apart_at i j n a b (IsLeft e f) (IsRight e' f') ne la lb x y = q.apart (subst (λ (z : View). IsAlive z.role) (sym f') lb) n (subst (λ z. IsOf z n) (sym f) x) (subst (λ z. IsOf z n) (sym f') y)
      apart_at i j n a b (IsElse e f) (IsLeft e' f') ne la lb x y = k.apart i id n a v f here e la live x (left_of n (subst (λ z. IsOf z n) (sym f') y))
      apart_at i j n a b (IsElse e f) (IsElse e' f') ne la lb x y = k.apart i j n a b f f' ne la lb x y
      apart_at i j n a b (IsElse e f) (IsRight e' f') ne la lb x y = k.apart i id n a v f here e la live x
          (inr (q.given (subst (λ (z : View). IsAlive z.role) (sym f') lb) n (subst (λ z. IsOf z n) (sym f') y)))
      apart_at i j n a b (IsRight e f) (IsLeft e' f') ne la lb x y = q.apart (subst (λ (z : View). IsAlive z.role) (sym f) la) n (subst (λ z. IsOf z n) (sym f') y) (subst (λ z. IsOf z n) (sym f) x)
      apart_at i j n a b (IsRight e f) (IsElse e' f') ne la lb x y = k.apart id j n v b here f' (λ o. e' (sym o)) live lb
          (inr (q.given (subst (λ (z : View). IsAlive z.role) (sym f) la) n (subst (λ z. IsOf z n) (sym f) x))) y
      apart_at i j n a b (IsRight e f) (IsRight e' f') ne la lb x y = ne (e ∙ sym e')

      fits_at : (i : ℕ) (a : View) → Where s.views id L R i a → ViewFits opening h a
      fits_at i a (IsLeft e f) =
          let g = k.views id v here in
          subst (ViewFits opening h) f (record {
            begins = g.begins;
            told = starts_empty h;
            opened = λ _. g.opened live;
            all_own = λ _. g.all_own live;
            unborn = λ _ n x. g.unborn live n (q.left_spare n x);
            caller = q.left_caller;
            above = q.left_above;
          })
      fits_at i a (IsElse e f) = k.views i a f
      fits_at i a (IsRight e f) =
          let g = k.views id v here in
          subst (ViewFits opening h) f (record {
            begins = g.begins;
            told = starts_empty h;
            opened = λ _. g.opened live;
            all_own = λ a. own_between number h v.seen opening g.begins (g.opened live) (g.unborn live number (q.given a number (inl refl)));
            unborn = λ a n x. g.unborn live n (q.given a n (inr x));
            caller = q.right_caller;
            above = q.right_above;
          })

      draft_at : (i : ℕ) (a : View) → Where s.views id L R i a → IsAlive a.role → a.by ≡ front → a.draft ≡ d
      draft_at i a (IsLeft e f) la is = ap (λ (z : View). z.draft) (sym f) ∙ k.draft id v here live (ap (λ (z : View). z.by) f ∙ is)
      draft_at i a (IsElse e f) la is = k.draft i a f la is
      draft_at i a (IsRight e f) la is =
          let its = q.given (subst (λ (z : View). IsAlive z.role) (sym f) la) number (inl refl) in
          absurd (positive v.spare number v.by (k.views id v here).above its (ap (λ (z : View). z.by) f ∙ is))

    splits : IsAlive v.role → (IsCaller v.role v.by → (1 ≤ v.spare.every → v.by < v.spare.first) → IsCut v L R) → Splits (Keeps P C opening) id v L R
    splits live cut s kept here =
        let h : List Entry = kept.history in
        let d : Draft = kept.draft in
        let k : IsKept P C opening s h d = kept.kept in
        let f = k.views id v here in
        let q : IsCut v L R = cut f.caller f.above in
        with_views s kept (set s.views id L ++ R ∷ [])
        (λ i a e. fits_at live s h d k here q i a (where_is s.views id L R i a e))
        (λ i j n a b e e'. apart_at live s h d k here q i j n a b (where_is s.views id L R i a e) (where_is s.views id L R j b e'))
        (λ i a e. draft_at live s h d k here q i a (where_is s.views id L R i a e))

  -- The first seat is cut into the front's and the back's
  pub splits_back : (id : ℕ) (v : View) → v.role ≡ Start → v.spare ≡ record { first = 1; every = 1 } →
      Splits (Keeps P C opening) id v (view Front v.by (without_first v.spare) v.seen v.draft) (view Back v.spare.first nobody v.seen Nothing)
  splits_back id v is are = splits id v Front Back (without_first v.spare) v.spare.first nobody (subst IsAlive (sym is) tt) (λ caller above.
      let one : v.spare.first ≡ 1 = ap (λ (z : SpareNumbers). z.first) are in
      let step : v.spare.every ≡ 1 = ap (λ (z : SpareNumbers). z.every) are in
      let least : 1 ≤ v.spare.every = omega arith in
      let below = above least in
      record {
        left_caller = subst (λ r. IsCaller r v.by) is caller;
        right_caller = one;
        left_above = λ _. omega arith;
        right_above = λ none. absurd (no_spare none);
        left_spare = λ n i. later_of v.spare n i;
        given = λ _ n x. ⊎_elim (λ e. record { some = least; k = 0; is = e ∙ sym (first_is v.spare) }) (λ i. absurd (no_spare i.some)) x;
        apart = λ _ n x y. ⊎_elim (λ (e' : n ≡ v.spare.first). ⊎_elim (λ (e : n ≡ v.by). omega arith) (λ i. not_first v.spare n i e') x) (λ i. no_spare i.some) y;
      })
    where
      first_is : (spare : SpareNumbers) → spare.first + 0 * spare.every ≡ spare.first
      first_is spare = omega arith

  -- The first unit's is cut from the front's
  pub splits_first : (id : ℕ) (v : View) → v.role ≡ Front → v.spare ≡ record { first = 2; every = 1 } →
      Splits (Keeps P C opening) id v (view v.role v.by nobody v.seen v.draft) (view Worker v.spare.first (without_first v.spare) v.seen Nothing)
  splits_first id v is are = splits id v v.role Worker nobody v.spare.first (without_first v.spare) (subst IsAlive (sym is) tt) (λ caller above.
      let two : v.spare.first ≡ 2 = ap (λ (z : SpareNumbers). z.first) are in
      let step : v.spare.every ≡ 1 = ap (λ (z : SpareNumbers). z.every) are in
      let least : 1 ≤ v.spare.every = omega arith in
      let below = above least in
      record {
        left_caller = caller;
        right_caller = omega arith;
        left_above = λ none. absurd (no_spare none);
        right_above = λ _. omega arith;
        left_spare = λ n i. absurd (no_spare i.some);
        given = λ _ n x. ⊎_elim (λ e. record { some = least; k = 0; is = e ∙ sym (first_is v.spare) }) (λ i. later_of v.spare n i) x;
        apart = λ _ n x y. ⊎_elim (λ (e : n ≡ v.by). ⊎_elim (λ (e' : n ≡ v.spare.first). omega arith) (λ i. own_number v.spare n v.by above (later_of v.spare n i) (sym e)) y) (λ i. no_spare i.some) x;
      })
    where
      first_is : (spare : SpareNumbers) → spare.first + 0 * spare.every ≡ spare.first
      first_is spare = omega arith

  -- A unit's is cut into two units'
  pub splits_unit : (id : ℕ) (v : View) → v.role ≡ Worker → 1 ≤ v.spare.every →
      Splits (Keeps P C opening) id v (view v.role v.by (half v.spare) v.seen v.draft) (view Worker v.spare.first (other_half v.spare) v.seen Nothing)
  splits_unit id v is least = splits id v v.role Worker (half v.spare) v.spare.first (other_half v.spare) (subst IsAlive (sym is) tt) (λ caller above.
      let unit : 2 ≤ v.by = subst (λ r. IsCaller r v.by) is caller in
      let below = above least in
      record {
        left_caller = caller;
        right_caller = omega arith;
        left_above = λ _. omega arith;
        right_above = λ _. omega arith;
        left_spare = λ n i. half_of v.spare n i;
        given = λ _ n x. ⊎_elim (λ e. record { some = least; k = 0; is = e ∙ sym (first_is v.spare) }) (λ i. other_half_of v.spare n i) x;
        apart = λ _ n x y. ⊎_elim
            (λ (e : n ≡ v.by). ⊎_elim (λ (e' : n ≡ v.spare.first). omega arith) (λ i. own_number v.spare n v.by above (other_half_of v.spare n i) (sym e)) y)
            (λ i. ⊎_elim (λ (e' : n ≡ v.spare.first). half_not_first v.spare n i e') (λ j. half_apart v.spare n i j) y)
            x;
      })
    where
      first_is : (spare : SpareNumbers) → spare.first + 0 * spare.every ≡ spare.first
      first_is spare = omega arith

  -- A note of what a seat has seen is cut from it
  pub splits_note : (id : ℕ) (v : View) → IsAlive v.role → Splits (Keeps P C opening) id v (view v.role v.by v.spare v.seen v.draft) (view Spent 0 nobody v.seen Nothing)
  splits_note id v alive = splits id v v.role Spent v.spare 0 nobody alive (λ caller above. record {
    left_caller = caller;
    right_caller = tt;
    left_above = above;
    right_above = λ none. absurd (no_spare none);
    left_spare = λ n i. i;
    given = λ a. absurd a;
    apart = λ a. absurd a;
  })
