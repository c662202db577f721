-- No lost wake.
use Rattle.std.proofs.Common.{◌≡◌, ℕ, true, List, ◌∷◌, ◌++◌, Some, sym, ap, ◌∙◌, subst, ⊎_elim}
use Rattle.instructions.specs.Programs.{Program}
use Rattle.inorder.specs.declared.history.Entry.{Entry}
use Rattle.inorder.specs.declared.history.Event.TheVariants.{Marks}
use Rattle.inorder.specs.declared.history.Mark.{Mark}
use Rattle.inorder.specs.declared.history.Mark.TheVariants.{Asked, Walked}
use Rattle.inorder.specs.declared.history.Source.{Source}
use Rattle.inorder.specs.Callers.{HasMade}
use Rattle.inorder.specs.History.{IsLegal, MayMark, entry, unit_of}
use Rattle.inorder.specs.Replies.{IsAskedInTime, IsDelivered}
use Rattle.inorder.specs.Tenants.{IsNotLive, IsThere, Linked, Tenant, operand}
use Rattle.inorder.specs.Unit.{Sizes, UpdateUnit, at}
use Rattle.inorder.specs.Wakes.{AreMarked, IsMarked, LosesNoWake}
use Rattle.inorder.proofs.Histories.{legal_before, unit_lasts}
use Rattle.inorder.proofs.Moves.{goes}
use Rattle.inorder.proofs.Serving.{walked_stays}

module _ (P : Program) (C : Sizes) where
  -- a mark was allowed at its point
  marked : (h : List Entry) (mark : Mark) → IsLegal P C h → (m : IsMarked h mark) → IsLegal P C m.point × MayMark (unit_of P C m.point) m.by mark
  marked h mark legal m = let l = legal_before P C m.more (entry m.by (Marks mark) ∷ m.point) (subst (IsLegal P C) m.is legal) in (l.0, l.1)

  -- a fact of a tenant that steps keep, from a point of the history on
  delivered_stays : (k : Source) (p : ℕ) (more seen : List Entry) → IsLegal P C (more ++ seen) → IsDelivered (unit_of P C seen) p k → IsDelivered (unit_of P C (more ++ seen)) p k
  delivered_stays k p more seen legal d = unit_lasts P C (λ U. IsDelivered U p k)
      (λ U by s a ok x. let g = goes P C U by s a ok p x.tenant x.is in record { tenant = g.tenant; is = g.is; fact = (x.fact.0, g.goes.value k x.fact.0 x.fact.1) })
      more seen legal d

  in_time_stays : (k : Source) (p : ℕ) (more seen : List Entry) → IsLegal P C (more ++ seen) → IsAskedInTime (unit_of P C seen) p k → IsAskedInTime (unit_of P C (more ++ seen)) p k
  in_time_stays k p more seen legal d = unit_lasts P C (λ U. IsAskedInTime U p k)
      (λ U by s a ok x. let g = goes P C U by s a ok p x.tenant x.is in record { tenant = g.tenant; is = g.is; fact = g.goes.linked k true x.fact })
      more seen legal d

  one : (U : UpdateUnit) (p : ℕ) (t u : Tenant) → at U.tenants p ≡ Some t → at U.tenants p ≡ Some u → t ≡ u
  one U p t u e f = cc (sym e ∙ f)

  pub loses_no_wake : (h : List Entry) → IsLegal P C h → AreMarked P C h → LosesNoWake P C h
  loses_no_wake h legal are p q t k is opened way creator made =
      let m = are.asked p t k is way in
      let at_mark = marked h (Asked p k) legal m in
      let whole : IsLegal P C (m.more ++ entry m.by (Marks (Asked p k)) ∷ m.point) = subst (IsLegal P C) m.is legal in ⊎_elim
      (λ (d : IsDelivered (unit_of P C m.point) p k).
      let now : IsDelivered (unit_of P C h) p k = subst (λ z. IsDelivered (unit_of P C z) p k) (sym m.is) (delivered_stays k p m.more (entry m.by (Marks (Asked p k)) ∷ m.point) whole d) in
      subst (λ (z : Tenant). IsThere (operand k z).value) (one (unit_of P C h) p now.tenant t now.is is) now.fact)
      (λ (a : IsAskedInTime (unit_of P C m.point) p k).
      let now : IsAskedInTime (unit_of P C h) p k = subst (λ z. IsAskedInTime (unit_of P C z) p k) (sym m.is) (in_time_stays k p m.more (entry m.by (Marks (Asked p k)) ∷ m.point) whole a) in
      let in_time : (operand k t).way ≡ Linked true = ap (λ (z : Tenant). (operand k z).way) (sym (one (unit_of P C h) p now.tenant t now.is is)) ∙ now.fact in
      let w = are.walked q made in
      let at_walk = marked h (Walked q) legal w.mark in
      let whole2 : IsLegal P C (w.mark.more ++ entry w.mark.by (Marks (Walked q)) ∷ w.mark.point) = subst (IsLegal P C) w.mark.is legal in
      let has_made : HasMade (unit_of P C w.mark.point) q w.made.value = record { tenant = w.made.tenant; is = w.made.is; made = w.made.made } in
      let all = walked_stays P C q w.made.value w.mark.more (entry w.mark.by (Marks (Walked q)) ∷ w.mark.point) whole2 has_made at_walk.1.1 in
      let here : at (unit_of P C (w.mark.more ++ entry w.mark.by (Marks (Walked q)) ∷ w.mark.point)).tenants p ≡ Some t = ap (λ z. at (unit_of P C z).tenants p) (sym w.mark.is) ∙ is in ⊎_elim
      (λ (v : IsThere (operand k t).value). v)
      (λ (gone : IsNotLive t). absurd (gone opened.live))
      (all p t k here creator in_time))
      at_mark.1.1
