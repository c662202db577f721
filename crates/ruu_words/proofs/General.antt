-- A step on one place that adds events of its caller, and may change the front's let in progress, keeps the rule.
use Rattle.std.proofs.Common.{◌≡◌, ◌≢◌, ℕ, List, [], ◌++◌, map, slice_index, slice_set, sym, refl, ap, ◌∙◌, subst, inl, inr, ⊎_elim, arith, length-set}
use mathlib.Core.Option.{some}
use lib.ListN.{get_elem?}
use Rattle.atomic_table.specs.Table.{Allows, Me, State, Step, keeps, stepped}
use Rattle.atomic_table.proofs.Lists.{at_set}
use Rattle.instructions.specs.Programs.{Program}
use Rattle.inorder.specs.declared.history.Entry.{Entry}
use Rattle.inorder.specs.declared.history.Event.{Event}
use Rattle.inorder.specs.History.{entry, front, own, renewals, unit_of}
use Rattle.instructions.specs.Histories.{StartsWith}
use Rattle.inorder.specs.Unit.{Sizes}
use Rattle.ruu_words.specs.declared.place.Place.{Place}
use Rattle.ruu_words.specs.declared.rule.Draft.{Draft}
use Rattle.ruu_words.specs.declared.rule.View.{View}
use Rattle.ruu_words.specs.Content.{Content}
use Rattle.ruu_words.specs.Places.{IsPlace, index}
use Rattle.ruu_words.specs.Plans.{Plan, Plans}
use Rattle.ruu_words.specs.Views.{ViewFits, IsAlive, IsOf}
use Rattle.ruu_words.specs.Rule.{IsKept, Keeps}
use Rattle.ruu_words.specs.Telling.{Tells}
use Rattle.inorder.proofs.Histories.{own-append, own_none, own_of_other, renewals_more, starts_more}
use Rattle.instructions.proofs.Histories.{starts_longer, starts_same}
use Rattle.ruu_words.proofs.SpareNumbers.{own_number}
use Rattle.ruu_words.proofs.Placing.{written}

-- the view of a seat after its step
abbrev pub stepped_view : View → List Entry → Draft → View
stepped_view v h d = record { role = v.role; by = v.by; spare = v.spare; seen = h; told = v.told; draft = d }

module _ (P : Program) (C : Sizes) (opening : List Entry) where
  pub kept_after : (id : ℕ) (s : State ℕ View) (h : List Entry) (d : Draft) → IsKept P C opening s h d → (v : View) → get_elem? s.views id ≡ some v → (x : Place) (new : ℕ) → IsPlace C.ring x
      → (Kind : List Entry → Draft → List Event → Type 0) (p : Plan P C v.by h d x new Kind) → (rest : List (ℕ × ℕ)) → IsAlive v.role → StartsWith h opening
      → IsKept P C opening (stepped s (index C.ring x) new id rest (stepped_view v (map (entry v.by) p.events ++ h) p.draft) keeps) (map (entry v.by) p.events ++ h) p.draft
  kept_after id s h d k v here x new fits Kind p rest alive goes_on =
      let more : List Entry = map (entry v.by) p.events in
      let w : View = stepped_view v (more ++ h) p.draft in
      let f = k.views id v here in
      record {
        legal = p.legal;
        one_table = p.same ∙ k.one_table;
        wide = length-set s.words (index C.ring x) new ∙ k.wide;
        words = λ y place. ⊎_elim
            (λ (t : (x ≡ y) × (slice_index (slice_set s.words (index C.ring x) new) (index C.ring y) ≡ new)).
            subst (λ (z : Place × ℕ). Content P C (unit_of P C (more ++ h)) p.draft z.0 z.1) (λ j. (t.0 j, sym t.1 j)) p.here)
            (λ (t : (index C.ring x ≢ index C.ring y) × (slice_index (slice_set s.words (index C.ring x) new) (index C.ring y) ≡ slice_index s.words (index C.ring y))).
            subst (λ (z : ℕ). Content P C (unit_of P C (more ++ h)) p.draft y z) (sym t.1) (p.else y (slice_index s.words (index C.ring y)) place (λ e. t.0 (ap (index C.ring) (sym e)))
            (k.words y place)))
            (written C.ring s.words x y new k.wide fits place);
        views = λ j u e. ⊎_elim
            (λ (t : (j ≡ id) × (w ≡ u)). subst (ViewFits opening (more ++ h)) t.1 (record {
              begins = starts_same (more ++ h);
              told = starts_longer h v.told more f.told;
              opened = λ _. starts_longer h opening more goes_on;
              all_own = λ _. refl;
              unborn = λ _ n i. own_other n (own_number v.spare n v.by f.above i) ∙ f.unborn alive n i;
              caller = f.caller;
              above = f.above;
            }))
            (λ (t : (j ≢ id) × (get_elem? s.views j ≡ some u)). let g = k.views j u t.1 in
            record {
              begins = starts_longer h u.seen more g.begins;
              told = starts_longer h u.told more g.told;
              opened = g.opened;
              all_own = λ a. own_other u.by (λ e. k.apart j id u.by u v t.1 here t.0 a alive (inl refl) (inl (sym e))) ∙ g.all_own a;
              unborn = λ a n i. own_other n (λ e. k.apart j id n u v t.1 here t.0 a alive (inr i) (inl (sym e))) ∙ g.unborn a n i;
              caller = g.caller;
              above = g.above;
            })
            (at_set s.views id j w u e);
        apart = λ i j n a b at_i at_j ne. ⊎_elim
            (λ (x : (i ≡ id) × (w ≡ a)). ⊎_elim
            (λ (y : (j ≡ id) × (w ≡ b)). absurd (ne (x.0 ∙ sym y.0)))
            (λ (y : (j ≢ id) × (get_elem? s.views j ≡ some b)). subst (λ (z : View). IsAlive z.role → IsAlive b.role → IsOf z n → ¬ IsOf b n) x.1 (k.apart id j n v b here y.1 (λ e. y.0 (sym e))))
            (at_set s.views id j w b at_j))
            (λ (x : (i ≢ id) × (get_elem? s.views i ≡ some a)). ⊎_elim
            (λ (y : (j ≡ id) × (w ≡ b)). subst (λ (z : View). IsAlive a.role → IsAlive z.role → IsOf a n → ¬ IsOf z n) y.1 (k.apart i id n a v x.1 here x.0))
            (λ (y : (j ≢ id) × (get_elem? s.views j ≡ some b)). k.apart i j n a b x.1 y.1 ne)
            (at_set s.views id j w b at_j))
            (at_set s.views id i w a at_i);
        draft = λ j u e. ⊎_elim
            (λ (t : (j ≡ id) × (w ≡ u)). λ a is_front. ap (λ (z : View). z.draft) (sym t.1))
            (λ (t : (j ≢ id) × (get_elem? s.views j ≡ some u)). λ a is_front. k.draft j u t.1 a is_front ∙
            sym (p.mine (λ e. k.apart j id front u v t.1 here t.0 a alive (inl (sym is_front)) (inl (sym e)))))
            (at_set s.views id j w u e);
        proper = p.proper;
      }
    where
      own_other : (n : ℕ) → v.by ≢ n → own n (map (entry v.by) p.events ++ h) ≡ own n h
      own_other n ne = own-append n (map (entry v.by) p.events) h ∙ ap (λ (z : List Entry). z ++ own n h) (own_of_other n v.by p.events ne)

  -- `tell n` is what a step tells of: the number found, or at a store the number stored
  pub allowed : (slots id : ℕ) (me : Me ℕ View) (x : Place) (f tell : ℕ → ℕ) (Kind : ℕ → List Entry → Draft → List Event → Type 0) (z : Step ℕ) → IsPlace C.ring x → IsAlive me.0.role
      → Plans P C me.0.by me.0 x f (λ n. Kind (tell n)) → Allows (Keeps P C opening) slots id me (index C.ring x) f (λ n found. Tells P C opening me.0.by Kind z me (tell n) found)
  allowed slots id me x f tell Kind z fits alive plans s kept _ here small =
      let h : List Entry = kept.history in let d : Draft = kept.draft in let k : IsKept P C opening s h d = kept.kept in let v : View = me.0 in
      let by : ℕ = v.by in
      let fit : ViewFits opening h v = k.views id v here in
      let between : List Entry = fit.begins.more in
      let is : h ≡ between ++ v.seen = fit.begins.is in
      let k' : IsKept P C opening s (between ++ v.seen) d = subst (λ (x : List Entry). IsKept P C opening s x d) is k in
      let same : renewals (between ++ v.seen) ≡ renewals v.seen =
      (let all = k'.one_table in let less = starts_more v.seen opening (fit.opened alive) in let more = renewals_more between v.seen in omega (arith, all, less, more)) in
      let apart : own by between ≡ [] = own_none by between v.seen (sym (ap (λ (x : List Entry). own by x) is) ∙ fit.all_own alive) in
      let n : ℕ = slice_index s.words (index C.ring x) in
      let mine : by ≡ front → v.draft ≡ d = k.draft id v here alive in
      let p : Plan P C by (between ++ v.seen) d x (f n) (Kind (tell n)) = plans between d k'.legal same apart fit.caller mine k'.proper n small (k'.words x fits) in
      let all : List Entry = map (entry by) p.events ++ (between ++ v.seen) in
      let done : IsKept P C opening (stepped s (index C.ring x) (f n) id me.1 (stepped_view v all p.draft) keeps) all p.draft = kept_after id s (between ++ v.seen) d k' v here x (f n) fits
      (Kind (tell n)) p me.1 alive (starts_longer v.seen opening between (fit.opened alive)) in (
        stepped_view v all p.draft,
        keeps,
        tt,
        record { history = all; draft = p.draft; kept = done },
        record {
          grows = record {
            between = between;
            events = p.events;
            not_own = apart;
            is = refl;
            legal = p.legal;
            same = p.same ∙ same;
            role = refl;
            by_is = refl;
            spare_is = refl;
            told = starts_longer (between ++ v.seen) v.told (map (entry by) p.events) (subst (λ (x : List Entry). StartsWith x v.told) is fit.told);
            kind = p.kind;
          };
          unborn = λ m i. own-append m (map (entry by) p.events) (between ++ v.seen) ∙ (ap (λ (y : List Entry). y ++ own m (between ++ v.seen))
              (own_of_other m by p.events (own_number v.spare m by fit.above i)) ∙ (ap (λ (y : List Entry). own m y) (sym is) ∙ fit.unborn alive m i));
          slots = refl;
        },
      )

  -- the same, where the code gives the index
  pub allowed_at : (slots id : ℕ) (me : Me ℕ View) (x : Place) (i : ℕ) (f tell : ℕ → ℕ) (Kind : ℕ → List Entry → Draft → List Event → Type 0) (z : Step ℕ) →
      index C.ring x ≡ i → IsPlace C.ring x → IsAlive me.0.role
      → Plans P C me.0.by me.0 x f (λ n. Kind (tell n)) → Allows (Keeps P C opening) slots id me i f (λ n found. Tells P C opening me.0.by Kind z me (tell n) found)
  allowed_at slots id me x i f tell Kind z is fits alive plans = subst (λ (j : ℕ). Allows (Keeps P C opening) slots id me j f (λ n found. Tells P C opening me.0.by Kind z me (tell n) found)) is
      (allowed slots id me x f tell Kind z fits alive plans)
