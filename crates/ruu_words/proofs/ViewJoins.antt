-- Joining two views.
use Rattle.std.proofs.Common.{◌≡◌, ◌≢◌, ℕ, List, [], set, sym, refl, ap, ◌∙◌, subst, inl, inr, ⊎_elim}
use mathlib.Core.Option.{some}
use lib.ListN.{get_elem?}
use Rattle.atomic_table.specs.Table.{Joins}
use Rattle.atomic_table.proofs.Lists.{at_set, set_else}
use Rattle.instructions.specs.Programs.{Program}
use Rattle.inorder.specs.declared.history.Entry.{Entry}
use Rattle.inorder.specs.Unit.{Sizes}
use Rattle.ruu_words.specs.declared.rule.Draft.{Draft}
use Rattle.ruu_words.specs.declared.rule.Draft.TheVariants.{Nothing}
use Rattle.ruu_words.specs.declared.rule.Role.TheVariants.{Spent}
use Rattle.ruu_words.specs.declared.rule.View.{View}
use Rattle.ruu_words.specs.Views.{ViewFits, IsAlive, IsSpare, IsOf, informed, nobody, view}
use Rattle.ruu_words.specs.Rule.{IsKept, Keeps}
use Rattle.ruu_words.proofs.SpareNumbers.{no_spare}
use Rattle.ruu_words.proofs.ViewCuts.{starts_empty, with_views}

-- After a joining, a seat that is not spent was there before, with the same numbers
record WasAt (views : List View) (i : ℕ) (u : View) : Type 0 where
  pub before : View
  pub is : get_elem? views i ≡ some before
  pub role : before.role ≡ u.role
  pub by_is : before.by ≡ u.by
  pub spare_is : before.spare ≡ u.spare
  pub draft_is : before.draft ≡ u.draft

was_alive : (views : List View) (i : ℕ) (u : View) → (x : WasAt views i u) → IsAlive u.role → IsAlive x.before.role
was_alive views i u x a = subst IsAlive (sym x.role) a

was_of : (views : List View) (i n : ℕ) (u : View) → (x : WasAt views i u) → IsOf u n → IsOf x.before n
was_of views i n u x o = ⊎_elim (λ (e : n ≡ u.by). inl (e ∙ sym x.by_is)) (λ (h : IsSpare u.spare n). inr (subst (λ z. IsSpare z n) (sym x.spare_is) h)) o

was_at : (views : List View) (id : ℕ) (v : View) (other : ℕ) (w : View) → get_elem? views id ≡ some v →
    (i : ℕ) (u : View) →
    get_elem? (set (set views id (informed v w)) other (view Spent 0 nobody [] Nothing)) i ≡ some u →
    IsAlive u.role → WasAt views i u
was_at views id v other w here i u e alive = ⊎_elim
    (λ (t : (i ≡ other) × (view Spent 0 nobody [] Nothing ≡ u)). absurd (subst (λ (x : View). IsAlive x.role) (sym t.1) alive))
    (λ (t : (i ≢ other) × (get_elem? (set views id (informed v w)) i ≡ some u)). ⊎_elim
    (λ (o : (i ≡ id) × (informed v w ≡ u)). record {
      before = v;
      is = subst (λ j. get_elem? views j ≡ some v) (sym o.0) here;
      role = ap (λ (x : View). x.role) o.1;
      by_is = ap (λ (x : View). x.by) o.1;
      spare_is = ap (λ (x : View). x.spare) o.1;
      draft_is = ap (λ (x : View). x.draft) o.1;
    })
    (λ (o : (i ≢ id) × (get_elem? views i ≡ some u)). record { before = u; is = o.1; role = refl; by_is = refl; spare_is = refl; draft_is = refl })
    (at_set views id i (informed v w) u t.1))
    (at_set (set views id (informed v w)) other i (view Spent 0 nobody [] Nothing) u e)

module _ (P : Program) (C : Sizes) (opening : List Entry) where
  pub joins : (id : ℕ) (v : View) (other : ℕ) (w : View) → w.role ≡ Spent → Joins (Keeps P C opening) id v other w (informed v w) (view Spent 0 nobody [] Nothing)
  joins id v other w spent s kept here apart there =
      let h : List Entry = kept.history in let d : Draft = kept.draft in let k : IsKept P C opening s h d = kept.kept in
      let b : View = informed v w in let z : View = view Spent 0 nobody [] Nothing in
      let was : get_elem? s.views other ≡ some w = sym (set_else s.views id other b apart) ∙ there in
      let f = k.views id v here in let f' = k.views other w was in
      let is_both : ViewFits opening h b = record { begins = f.begins; told = f'.begins; opened = f.opened; all_own = f.all_own; unborn = f.unborn; caller = f.caller; above = f.above } in
      let is_spent : ViewFits opening h z = record {
        begins = starts_empty h;
        told = starts_empty h;
        opened = λ a. absurd a;
        all_own = λ a. absurd a;
        unborn = λ a. absurd a;
        caller = tt;
        above = λ none. absurd (no_spare none);
      } in
      with_views P C opening s kept (set (set s.views id b) other z)
      (λ j u e. ⊎_elim
      (λ (t : (j ≡ other) × (z ≡ u)). subst (ViewFits opening h) t.1 is_spent)
      (λ (t : (j ≢ other) × (get_elem? (set s.views id b) j ≡ some u)). ⊎_elim
      (λ (o : (j ≡ id) × (b ≡ u)). subst (ViewFits opening h) o.1 is_both)
      (λ (o : (j ≢ id) × (get_elem? s.views j ≡ some u)). k.views j u o.1)
      (at_set s.views id j b u t.1))
      (at_set (set s.views id b) other j z u e))
      (λ i j n u u' e e' ne a a' x x'.
      let y = was_at s.views id v other w here i u e a in
      let y' = was_at s.views id v other w here j u' e' a' in
      k.apart i j n y.before y'.before y.is y'.is ne (was_alive s.views i u y a) (was_alive s.views j u' y' a') (was_of s.views i n u y x) (was_of s.views j n u' y' x'))
      (λ j u e a is. let y = was_at s.views id v other w here j u e a in sym y.draft_is ∙ k.draft j y.before y.is (was_alive s.views j u y a) (y.by_is ∙ is))
