-- A question after its link: the source was asked for.
use Rattle.std.proofs.Common.{◌≡◌, ℕ, true, List, [], ◌∷◌, ◌++◌, Some, sym, ap, ◌∙◌, subst}
use Rattle.std.specs.Prelude.{is_none}
use Rattle.instructions.specs.Programs.{Program}
use Rattle.inorder.specs.declared.history.Act.TheVariants.{Link}
use Rattle.inorder.specs.declared.history.Entry.{Entry}
use Rattle.inorder.specs.declared.history.Event.TheVariants.{Does}
use Rattle.inorder.specs.declared.history.Source.{Source}
use Rattle.inorder.specs.declared.history.Step.TheVariants.{On}
use Rattle.inorder.specs.Callers.{HasAsked}
use Rattle.inorder.specs.History.{IsLegal, entry, front, unit_of}
use Rattle.inorder.specs.OneHistory.{Adds}
use Rattle.inorder.specs.Replies.{Has}
use Rattle.inorder.specs.Steps.{linked}
use Rattle.inorder.specs.Tenants.{on_path, operand}
use Rattle.inorder.specs.Unit.{Sizes, older, value_of}
use Rattle.inorder.proofs.Serving.{linked_creator, linked_way}
use Rattle.ruu_words.specs.declared.rule.Draft.TheVariants.{Nothing}
use Rattle.ruu_words.specs.declared.rule.View.{View}
use Rattle.ruu_words.specs.Kinds.{IsTenant}
use Rattle.ruu_words.specs.Telling.{Grows}
use Rattle.ruu_words.proofs.StationWords.{one_at}
use Rattle.ruu_words.proofs.Stays.{front_stays, named_of, named_stays, tenant_stays, with_fact}
use Rattle.station.specs.Asking.{MayAsk}
use Rattle.station.specs.Wakeup.{HasAskedOf, Links}
use Rattle.station.proofs.Adding.{adds_these}
use Rattle.station.proofs.Writing.{acted}
use Rattle.station.proofs.AskStays.{Next, apart, behind, last_linked, last_on, linked_path, next_act, next_by, no_renewal, path_stays, seen_by}

module _ (P : Program) (C : Sizes) where
  -- it was asked, and nothing else was done
  pub record IsAskedNow (by s g : ℕ) (k : Source) (a b : ℕ) (old : List Entry) (me : View) : Type 0 where
    pub r : ℕ
    pub q : ℕ
    pub of : HasAskedOf P C me.seen s g k a b r q
    pub adds : Adds P C by old me.seen (Does (On r (Link k)) ∷ [])
    pub draft : me.draft ≡ Nothing
    pub next : Next P C me.seen ≡ Next P C old

  pub asks_out : (by s g : ℕ) (k : Source) (a b : ℕ) (v w : View) → by ≡ front → MayAsk P C v.seen s g k a b → Grows P C by v w (Links P C s g k) → IsAskedNow by s g k a b v.seen w
  asks_out by s g k a b v w is may e =
      let h : List Entry = e.between ++ v.seen in
      let r = may.r in
      let q = may.q in
      let U = unit_of P C v.seen in
      let us = (unit_of P C h).tenants in
      let legal = behind P C by is v w (Links P C s g k) e in
      let none = apart P C by is v w (Links P C s g k) e in
      let calm = no_renewal P C by is v w (Links P C s g k) e in
      let named = named_stays P C r s g e.between v.seen legal calm (named_of may.asks) in
      let told = e.kind r named in
      let new : List Entry = entry by (Does (On r (Link k))) ∷ h in
      let seen : w.seen ≡ new = seen_by P C by is v w (Links P C s g k) e (Does (On r (Link k)) ∷ []) told.added in
      let legal2 : IsLegal P C new = subst (IsLegal P C) seen e.legal in
      let from : IsTenant (unit_of P C h) r s g (λ t. (operand k t).creator ≡ Some q) = tenant_stays P C r s g (λ t. (operand k t).creator ≡ Some q) (λ b st t t' m f. m.creator k ∙ f) e.between v.seen
      legal calm (with_fact (λ t. (operand k t).creator ≡ Some q) may.asks may.asks.fact.can.creator) in
      let path = front_stays P C (λ U. Has U r (λ t. on_path t ≡ true)) (λ U b st ok x sound i. path_stays P C U b st ok x r i) e.between v.seen legal none
      (record { tenant = may.asks.tenant; is = may.asks.is; fact = may.asks.fact.path }) in
      let same : path.tenant ≡ from.tenant = one_at P C h legal r path.tenant from.tenant path.is from.is in
      let there : HasAsked k q (linked (older us r) from.tenant k) = record {
        in_time = is_none (value_of (older us r) (operand k from.tenant).creator);
        way = linked_way (older us r) k from.tenant;
        creator = linked_creator (older us r) k k from.tenant ∙ from.fact;
        path = linked_path (older us r) k from.tenant ∙ (ap on_path (sym same) ∙ path.fact);
      } in
      let asked : HasAskedOf P C new s g k a b r q = record {
        asks = acted P C by r s g (Link k) (λ t. (operand k t).creator ≡ Some q) h legal2 from (HasAsked k q) there;
        last = last_linked P C by r r s k h legal2 (last_on P C r s e.between v.seen legal none may.last);
        creator = named_stays P C q a b (entry by (Does (On r (Link k))) ∷ e.between) v.seen legal2 calm may.creator;
        creator_last = last_linked P C by r q a k h legal2 (last_on P C q a e.between v.seen legal none may.creator_last);
      } in
      record {
        r = r;
        q = q;
        of = subst (λ z. HasAskedOf P C z s g k a b r q) (sym seen) asked;
        adds = adds_these P C by v w (Links P C s g k) (Does (On r (Link k)) ∷ []) e told.added;
        draft = told.draft;
        next = next_by P C by is v w (Links P C s g k) e (Does (On r (Link k)) ∷ []) told.added (next_act P C (unit_of P C h) by r (Link k) legal2.1.1 (linked_path (older us r) k legal2.1.1.tenant));
      }
