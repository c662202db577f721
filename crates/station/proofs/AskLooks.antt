-- The look of a question at its creator: it is linked in time, or the exchange after it delivers.
use Rattle.std.proofs.Common.{◌≡◌, ℕ, List, [], ◌∷◌, ◌++◌, map, Some, refl, sym, ap, ◌∙◌, subst, inl, inr, ⊎_elim}
use Rattle.instructions.specs.Programs.{Program}
use Rattle.inorder.specs.declared.history.Act.TheVariants.{Deliver, Link}
use Rattle.inorder.specs.declared.history.Entry.{Entry}
use Rattle.inorder.specs.declared.history.Event.{Event}
use Rattle.inorder.specs.declared.history.Event.TheVariants.{Does, Marks}
use Rattle.inorder.specs.declared.history.Mark.TheVariants.{Asked}
use Rattle.inorder.specs.declared.history.Source.{Source}
use Rattle.inorder.specs.declared.history.Step.TheVariants.{On}
use Rattle.inorder.specs.Callers.{HasAsked, HasMade}
use Rattle.inorder.specs.History.{IsLegal, entry, front, unit_of, renewals}
use Rattle.inorder.specs.OneHistory.{Adds}
use Rattle.inorder.specs.Legal.{Allowed}
use Rattle.inorder.specs.Replies.{IsAskedInTime, IsDelivered}
use Rattle.inorder.specs.Tenants.{IsThere, Tenant, operand}
use Rattle.inorder.specs.Unit.{Sizes, older, value_of}
use Rattle.inorder.proofs.Histories.{adds_on}
use Rattle.instructions.proofs.Histories.{starts_longer}
use Rattle.ruu_words.specs.declared.rule.Draft.TheVariants.{Nothing}
use Rattle.ruu_words.specs.declared.rule.View.{View}
use Rattle.ruu_words.specs.Fields.{state_of, word_value}
use Rattle.ruu_words.specs.Kinds.{Answers, HasLink, IsInTime, IsMade, IsNamed, IsTenant, IsUnmade, Questions}
use Rattle.ruu_words.specs.Telling.{Grows}
use Rattle.ruu_words.proofs.Asking.{value_there}
use Rattle.ruu_words.proofs.Delivery.{link_on}
use Rattle.ruu_words.proofs.StationWords.{one_at}
use Rattle.ruu_words.proofs.Stays.{named_of, named_stays, tenant_stays, with_fact}
use Rattle.station.specs.declared.answers.Ask.TheVariants.{Delivered, Linked}
use Rattle.station.specs.Asking.{AskAnswers}
use Rattle.station.specs.Wakeup.{CanAnswer, Ends, Finds}
use Rattle.station.proofs.Adding.{adds_these}
use Rattle.station.proofs.Writing.{acted}
use Rattle.station.proofs.AskStays.{Next, apart, behind, delivered_path, last_on, next_act, next_by, no_renewal, seen_by}
use Rattle.station.proofs.AskLinks.{IsAskedNow}

not_both : (n : ℕ) → IsMade n → IsUnmade n → ⊥
not_both n m u = ⊎_elim (λ e. u.0 e) (λ e. u.1 e) m

to_link : (k : Source) (q : ℕ) (t : Tenant) → HasAsked k q t → HasLink k q t
to_link k q t a = record { in_time = a.in_time; way = a.way; creator = a.creator }

module _ (P : Program) (C : Sizes) where
  -- The look

  module _ (by s g : ℕ) (k : Source) (a b n : ℕ) (old : List Entry) (v w : View) (is : by ≡ front) (x : IsAskedNow P C by s g k a b old v) (e : Grows P C by v w (Finds P C s g k a b n)) where
    legal_mid : IsLegal P C (e.between ++ v.seen)
    legal_mid = behind P C by is v w (Finds P C s g k a b n) e

    calm_mid : renewals (e.between ++ v.seen) ≡ renewals v.seen
    calm_mid = no_renewal P C by is v w (Finds P C s g k a b n) e

    asks_mid : IsTenant (unit_of P C (e.between ++ v.seen)) x.r s g (HasLink k x.q)
    asks_mid = tenant_stays P C x.r s g (HasLink k x.q) (λ b st t t' m f. link_on P C k x.q b st t t' m f) e.between v.seen legal_mid calm_mid
        (with_fact (HasLink k x.q) x.of.asks (to_link k x.q x.of.asks.tenant x.of.asks.fact))

    creator_mid : IsNamed (unit_of P C (e.between ++ v.seen)) x.q a b
    creator_mid = named_stays P C x.q a b e.between v.seen legal_mid calm_mid x.of.creator

    told_mid : Questions P C x.r k x.q n (e.between ++ v.seen) w.draft e.events
    told_mid = e.kind x.r (named_of asks_mid) x.q creator_mid

    pub quiet_mid : w.draft ≡ Nothing
    quiet_mid = told_mid.0

    -- the creator has made nothing
    pub told_linked : IsUnmade (state_of n) → (e.events ≡ Marks (Asked x.r k) ∷ []) × IsInTime (unit_of P C (e.between ++ v.seen)) x.r k x.q
    told_linked un = ⊎_elim (λ l. (l.1, l.2)) (λ r. absurd (not_both (state_of n) r.0 un)) told_mid.1

    pub linked_out : IsUnmade (state_of n) → AskAnswers P C by old w.seen s g k a b Linked
    linked_out un =
        let h : List Entry = e.between ++ v.seen in
        let t = told_linked un in
        let seen : w.seen ≡ entry by (Marks (Asked x.r k)) ∷ h = seen_by P C by is v w (Finds P C s g k a b n) e (Marks (Asked x.r k) ∷ []) t.0 in
        record {
          r = x.r;
          q = x.q;
          asks = subst (λ z. IsTenant (unit_of P C z) x.r s g (HasLink k x.q)) (sym seen) asks_mid;
          creator = subst (λ z. IsNamed (unit_of P C z) x.q a b) (sym seen) creator_mid;
          events = Marks (Asked x.r k) ∷ Does (On x.r (Link k)) ∷ [];
          question = inl refl;
          adds = adds_on P C by old v.seen w.seen (Does (On x.r (Link k)) ∷ []) (Marks (Asked x.r k) ∷ []) x.adds (adds_these P C by v w (Finds P C s g k a b n) (Marks (Asked x.r k) ∷ []) e t.0);
          is = (
            subst (λ z. IsAskedInTime (unit_of P C z) x.r k) (sym seen) t.1.asked,
            record {
              point = h;
              within = record { before_return = record { more = entry by (Marks (Asked x.r k)) ∷ []; is = seen }; behind_call = starts_longer v.seen old e.between x.adds.begins };
              fact = t.1.unmade;
            },
          );
        }

    pub linked_next : IsUnmade (state_of n) → Next P C w.seen ≡ Next P C old
    linked_next un = next_by P C by is v w (Finds P C s g k a b n) e (Marks (Asked x.r k) ∷ []) (told_linked un).0 refl ∙ x.next

    -- it has made the value that the word shows
    pub told_made : IsMade (state_of n) → (e.events ≡ []) × HasMade (unit_of P C (e.between ++ v.seen)) x.q (word_value n)
    told_made made = ⊎_elim (λ l. absurd (not_both (state_of n) made l.0)) (λ r. (r.1, r.2)) told_mid.1

    seen_made : IsMade (state_of n) → w.seen ≡ e.between ++ v.seen
    seen_made made = seen_by P C by is v w (Finds P C s g k a b n) e [] (told_made made).0

    pub can_answer : IsMade (state_of n) → CanAnswer P C w.seen s g k (word_value n)
    can_answer made = subst (λ z. CanAnswer P C z s g k (word_value n)) (sym (seen_made made)) (record {
      r = x.r;
      q = x.q;
      asks = asks_mid;
      last = last_on P C x.r s e.between v.seen legal_mid (apart P C by is v w (Finds P C s g k a b n) e) x.of.last;
      made = (told_made made).1;
    })

    -- The exchange

    module _ (made : IsMade (state_of n)) (o m : ℕ) (y : View) (f : Grows P C by w y (Ends P C s g k o m)) where
      legal_end : IsLegal P C (f.between ++ w.seen)
      legal_end = behind P C by is w y (Ends P C s g k o m) f

      calm_end : renewals (f.between ++ w.seen) ≡ renewals w.seen
      calm_end = no_renewal P C by is w y (Ends P C s g k o m) f

      asks_end : IsTenant (unit_of P C (f.between ++ w.seen)) x.r s g (HasLink k x.q)
      asks_end = tenant_stays P C x.r s g (HasLink k x.q) (λ b st t t' m f. link_on P C k x.q b st t t' m f) f.between w.seen legal_end calm_end
          (subst (λ z. IsTenant (unit_of P C z) x.r s g (HasLink k x.q)) (sym (seen_made made)) asks_mid)

      creator_end : IsNamed (unit_of P C (f.between ++ w.seen)) x.q a b
      creator_end = named_stays P C x.q a b f.between w.seen legal_end calm_end (subst (λ z. IsNamed (unit_of P C z) x.q a b) (sym (seen_made made)) creator_mid)

      told_end : Answers P C x.r k o m (f.between ++ w.seen) y.draft f.events
      told_end = f.kind x.r (named_of asks_end)

      pub quiet_end : y.draft ≡ Nothing
      quiet_end = told_end.0

      adds_end : (es : List Event) → f.events ≡ es → Adds P C by old y.seen (es ++ Does (On x.r (Link k)) ∷ [])
      adds_end es added =
          let first = adds_on P C by old v.seen w.seen (Does (On x.r (Link k)) ∷ []) [] x.adds (adds_these P C by v w (Finds P C s g k a b n) [] e (told_made made).0) in
          adds_on P C by old w.seen y.seen (Does (On x.r (Link k)) ∷ []) es first (adds_these P C by w y (Ends P C s g k o m) es f added)

      next_mid : Next P C w.seen ≡ Next P C old
      next_mid = next_by P C by is v w (Finds P C s g k a b n) e [] (told_made made).0 refl ∙ x.next

      -- what is so after these events
      pub record IsEnded : Type 0 where
        pub reply : AskAnswers P C by old y.seen s g k a b Delivered
        pub next : Next P C y.seen ≡ Next P C old

      hit_end : f.events ≡ Marks (Asked x.r k) ∷ Does (On x.r (Deliver k)) ∷ [] → IsEnded
      hit_end added =
          let h : List Entry = f.between ++ w.seen in
          let us = (unit_of P C h).tenants in
          let es : List Event = Marks (Asked x.r k) ∷ Does (On x.r (Deliver k)) ∷ [] in
          let new : List Entry = map (entry by) es ++ h in
          let seen : y.seen ≡ new = seen_by P C by is w y (Ends P C s g k o m) f es added in
          let legal : IsLegal P C new = subst (IsLegal P C) seen f.legal in
          let may : Allowed P C (unit_of P C h) by (On x.r (Deliver k)) = legal.0.1.1 in
          let one : asks_end.tenant ≡ may.tenant = one_at P C h legal_end x.r asks_end.tenant may.tenant asks_end.is may.is in
          let worth : value_of (older us x.r) (operand k asks_end.tenant).creator ≡ Some may.may.value = ap (λ (z : Tenant). value_of (older us x.r) (operand k z).creator) one ∙ may.may.is_made in
          let there = acted P C by x.r s g (Deliver k) (HasLink k x.q) h legal.0 asks_end (λ t. IsThere (operand k t).value) (may.may.value, value_there (older us x.r) k asks_end.tenant ∙ worth) in
          let asks = tenant_stays P C x.r s g (HasLink k x.q) (λ b st t t' m f. link_on P C k x.q b st t t' m f) (entry by (Does (On x.r (Deliver k))) ∷ []) h legal.0 refl asks_end in
          let creator = named_stays P C x.q a b (entry by (Does (On x.r (Deliver k))) ∷ []) h legal.0 refl creator_end in
          record {
            reply = record {
              r = x.r;
              q = x.q;
              asks = subst (λ z. IsTenant (unit_of P C z) x.r s g (HasLink k x.q)) (sym seen) asks;
              creator = subst (λ z. IsNamed (unit_of P C z) x.q a b) (sym seen) creator;
              events = es ++ Does (On x.r (Link k)) ∷ [];
              question = inr refl;
              adds = adds_end es added;
              is = subst (λ z. IsDelivered (unit_of P C z) x.r k) (sym seen) (record { tenant = there.tenant; is = there.is; fact = there.fact });
            };
            next = next_by P C by is w y (Ends P C s g k o m) f es added (next_act P C (unit_of P C h) by x.r (Deliver k) may (delivered_path (older us x.r) k may.tenant)) ∙ next_mid;
          }

      miss_end : f.events ≡ Marks (Asked x.r k) ∷ [] → IsDelivered (unit_of P C (f.between ++ w.seen)) x.r k → IsEnded
      miss_end added had =
          let h : List Entry = f.between ++ w.seen in
          let es : List Event = Marks (Asked x.r k) ∷ [] in
          let seen : y.seen ≡ map (entry by) es ++ h = seen_by P C by is w y (Ends P C s g k o m) f es added in
          record {
            reply = record {
              r = x.r;
              q = x.q;
              asks = subst (λ z. IsTenant (unit_of P C z) x.r s g (HasLink k x.q)) (sym seen) asks_end;
              creator = subst (λ z. IsNamed (unit_of P C z) x.q a b) (sym seen) creator_end;
              events = es ++ Does (On x.r (Link k)) ∷ [];
              question = inl refl;
              adds = adds_end es added;
              is = subst (λ z. IsDelivered (unit_of P C z) x.r k) (sym seen) had;
            };
            next = next_by P C by is w y (Ends P C s g k o m) f es added refl ∙ next_mid;
          }

      pub delivered_out : IsEnded
      delivered_out = ⊎_elim (λ hit. hit_end hit.1) (λ miss. miss_end miss.1 miss.2) told_end.1
