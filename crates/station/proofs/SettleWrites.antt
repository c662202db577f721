-- The look and the exchange of a load that settles, and what is carried after them.
use Rattle.std.proofs.Common.{◌≡◌, ◌≢◌, ℕ, Bool, List, [], ◌∷◌, ◌++◌, map, Some, sym, ap, ◌∙◌, subst, inl, inr, ⊎_elim}
use Rattle.std.specs.List.{AllByRecursion}
use Rattle.atomic_table.specs.Table.{Me}
use Rattle.instructions.specs.Programs.{Program}
use Rattle.inorder.specs.declared.history.Act.TheVariants.{Load}
use Rattle.inorder.specs.declared.history.Entry.{Entry}
use Rattle.inorder.specs.declared.history.Event.{Event}
use Rattle.inorder.specs.declared.history.Event.TheVariants.{Does, Refuses}
use Rattle.inorder.specs.declared.history.Refusal.TheVariants.{Stale}
use Rattle.inorder.specs.declared.history.Step.TheVariants.{On}
use Rattle.inorder.specs.Callers.{CanLoad}
use Rattle.inorder.specs.History.{IsLegal, back, entry, own, unit_of, renewals}
use Rattle.inorder.specs.OneHistory.{Adds}
use Rattle.inorder.specs.Legal.{Allowed}
use Rattle.inorder.specs.Memory.{load_value}
use Rattle.inorder.specs.Replies.{IsStale}
use Rattle.inorder.specs.Tenants.{Live, Squashed, Tenant}
use Rattle.inorder.specs.Unit.{Sizes, at, older}
use Rattle.inorder.proofs.Histories.{adds_on}
use Rattle.ruu_words.specs.declared.rule.Role.{Role}
use Rattle.ruu_words.specs.declared.rule.Role.TheVariants.{Back}
use Rattle.ruu_words.specs.declared.rule.View.{View}
use Rattle.ruu_words.specs.declared.place.Place.TheVariants.{Station}
use Rattle.ruu_words.specs.Content.{IsStation}
use Rattle.ruu_words.specs.Fields.{word_value}
use Rattle.ruu_words.specs.Kinds.{Finds, IsAny, IsNamed, IsTenant, Settles}
use Rattle.ruu_words.specs.Views.{IsCaller}
use Rattle.ruu_words.specs.Telling.{Grows}
use Rattle.ruu_words.proofs.Settling.{load_lasts}
use Rattle.ruu_words.proofs.StationWords.{its_word, one_at}
use Rattle.ruu_words.proofs.Stays.{named_stays, one_named, same_before}
use Rattle.station.specs.declared.answers.Settle.{Settle}
use Rattle.station.specs.declared.answers.Settle.TheVariants.{Settled, Stale as StaleLoad}
use Rattle.station.specs.Carrying.{HasValueOf, HasWalked, Makes, OfTenant}
use Rattle.station.specs.Seats.{IsSeated}
use Rattle.station.specs.Steps.{Sees}
use Rattle.station.specs.Writeback.{CanSettle, IsDeliveryOf, IsWalk, IsWritten, MaySettle, SettleAnswers, WasStale}
use Rattle.station.proofs.Backs.{IsNoRetirement, back_seated}
use Rattle.station.proofs.WalkStays.{all_append}
use Rattle.station.proofs.Writing.{IsOut, act_out, acted, stale_out, writes_out}

module _ (P : Program) (C : Sizes) where
  is_back : (r : Role) (by : ℕ) → r ≡ Back → IsCaller r by → by ≡ back
  is_back r by e c = subst (λ z. IsCaller z by) e c

  module _ (by s g val n : ℕ) (v v1 : View) (role : v.role ≡ Back) (may : MaySettle P C v.seen s g val) (e1 : Grows P C by v v1 (Sees P C by v (Station s) n)) where
    seen1 : v1.seen ≡ e1.between ++ v.seen
    seen1 = e1.is ∙ ap (λ es. map (entry by) es ++ (e1.between ++ v.seen)) e1.kind.none

    legal1 : IsLegal P C (e1.between ++ v.seen)
    legal1 = subst (IsLegal P C) seen1 e1.legal

    same1 : renewals (e1.between ++ v.seen) ≡ renewals v.seen
    same1 = same_before P C by v v1 (Sees P C by v (Station s) n) e1

    own_none : own back e1.between ≡ []
    own_none = subst (λ z. own z e1.between ≡ []) (is_back v.role by role e1.kind.caller) e1.not_own

    -- the look tells the address, unless the load is squashed
    pub can_settle : CanSettle P C v1.seen s g (word_value n) val
    can_settle =
        let h : List Entry = e1.between ++ v.seen in
        let c = may.can in
        let named : IsNamed (unit_of P C h) c.p s g = named_stays P C c.p s g e1.between v.seen legal1 same1 c.named in
        let now = load_lasts P C c.p may.address val e1.between v.seen legal1 same1 own_none c.can in
        subst (λ z. CanSettle P C z s g (word_value n) val) (sym seen1) (record {
          p = c.p;
          named = named;
          can = ⊎_elim
              (λ (x : CanLoad P (unit_of P C h) c.p may.address val).
              let one : named.tenant ≡ x.tenant = one_at P C h legal1 c.p named.tenant x.tenant named.is x.is in
              let at_s : x.tenant.station ≡ s = ap (λ (z : Tenant). z.station) (sym one) ∙ named.station_is in
              let word = its_word P C h legal1 c.p s n x.tenant x.is at_s x.may.live e1.kind.content in
              let address : word_value n ≡ may.address = (subst (λ f. IsStation (Rattle.inorder.specs.StationWords.live_word x.tenant.tag f) n) x.fate word).value in
              inl (subst (λ a. CanLoad P (unit_of P C h) c.p a val) (sym address) x))
              (λ x. inr x)
              now;
        })

  module _ (by s g a val old n : ℕ) (v w : View) (role : v.role ≡ Back) (caller : IsCaller v.role by) (can : CanSettle P C v.seen s g a val) (e : Grows P C by v w (Settles P C s g old n)) where
    pub settle_stale : n ≢ old → WasStale P C by v.seen w.seen s g
    settle_stale miss = ⊎_elim (λ hit. absurd (miss hit.0)) (λ m. stale_out P C by s g v w (Settles P C s g old n) e m.1) e.kind

    pub settle_out : n ≡ old → IsOut P C by s g Load v.seen w.seen
    settle_out hit = ⊎_elim (λ h. act_out P C by s g Load IsAny v w (Settles P C s g old n) e h.1) (λ m. absurd (m.0 hit)) e.kind

    loaded : Finds (unit_of P C (e.between ++ v.seen)) s g e.events IsAny (λ p. Does (On p Load) ∷ []) → HasValueOf P C w.seen s g val
    loaded f =
        let h : List Entry = e.between ++ v.seen in
        let us = (unit_of P C h).tenants in
        let seen : w.seen ≡ entry by (Does (On f.p Load)) ∷ h = e.is ∙ ap (λ es. map (entry by) es ++ h) f.added in
        let legal : IsLegal P C (entry by (Does (On f.p Load)) ∷ h) = subst (IsLegal P C) seen e.legal in
        let none : own back e.between ≡ [] = subst (λ z. own z e.between ≡ []) (is_back v.role by role caller) e.not_own in
        let calm = same_before P C by v w (Settles P C s g old n) e in
        let now = load_lasts P C can.p a val e.between v.seen legal.0 calm none can.can in
        let named : IsNamed (unit_of P C h) can.p s g = named_stays P C can.p s g e.between v.seen legal.0 calm can.named in
        let one : can.p ≡ f.p = one_named P C h legal.0 can.p f.p s g named f.tenant in
        let allowed : Allowed P C (unit_of P C h) by (On f.p Load) = legal.1.1 in
        let same : f.tenant.tenant ≡ allowed.tenant = one_at P C h legal.0 f.p f.tenant.tenant allowed.tenant f.tenant.is allowed.is in
        let worth : load_value P (older us f.p) f.tenant.tenant ≡ val = ⊎_elim
        (λ (x : CanLoad P (unit_of P C h) can.p a val).
        let there : f.tenant.tenant ≡ x.tenant = one_at P C h legal.0 f.p f.tenant.tenant x.tenant f.tenant.is (ap (at us) (sym one) ∙ x.is) in
        (λ i. load_value P (older us (sym one i)) (there i)) ∙ x.value_is)
        (λ (x : IsStale (unit_of P C h) can.p).
        let there : allowed.tenant ≡ x.tenant = one_at P C h legal.0 f.p allowed.tenant x.tenant allowed.is (ap (at us) (sym one) ∙ x.is) in
        absurd (apart (sym allowed.may.live ∙ (ap (λ (z : Tenant). z.standing) there ∙ x.fact))))
        now in
        record {
          p = f.p;
          named = subst (λ z. IsTenant (unit_of P C z) f.p s g (Makes val)) (sym seen) (acted P C by f.p s g Load IsAny h legal f.tenant (Makes val) (ap Some worth));
        }
      where
        apart : Live ≡ Squashed → ⊥
        apart x = cc x

    pub settle_made : n ≡ old → HasValueOf P C w.seen s g val
    settle_made hit = ⊎_elim (λ h. loaded h.1) (λ m. absurd (m.0 hit)) e.kind

  pub stale_after : (by s g : ℕ) (old mid new : List Entry) → Adds P C by old mid [] → WasStale P C by mid new s g → WasStale P C by old new s g
  stale_after by s g old mid new a w = record { p = w.p; named = w.named; adds = adds_on P C by old mid new [] (Refuses (Stale w.p) ∷ []) a w.adds }

  pub settle_all : (by id s g : ℕ) (old seen mid new : List Entry) → id ≡ by → Adds P C by old seen [] → IsOut P C by s g Load seen mid → OfTenant P C mid s g (λ q. HasWalked P C id q mid new) →
      IsWritten P C by old new s g Load (λ p. IsWalk P C new p)
  settle_all by id s g old seen mid new is a out walk = writes_out P C by s g Load old mid new (λ p. IsWalk P C new p)
      (record { p = out.p; named = out.named; adds = adds_on P C by old seen mid [] (Does (On out.p Load) ∷ []) a out.adds })
      (λ q i.
      let c : HasWalked P C by q mid new = subst (λ z. HasWalked P C z q mid new) is (walk q i) in
      (c.events, (c.walk, c.adds)))

  -- After a settle

  delivers_keep : (seen : List Entry) (q : ℕ) (es : List Event) → AllByRecursion (IsDeliveryOf P C seen q) es → AllByRecursion (IsNoRetirement P C) es
  delivers_keep seen q [] all = tt
  delivers_keep seen q (e ∷ es) all = (subst (IsNoRetirement P C) (sym all.0.is) tt, delivers_keep seen q es all.1)

  walk_keeps : (seen : List Entry) (q : ℕ) (es : List Event) → IsWalk P C seen q es → AllByRecursion (IsNoRetirement P C) es
  walk_keeps seen q es w = subst (AllByRecursion (IsNoRetirement P C)) (sym w.is) (tt, delivers_keep seen q w.deliveries w.each)

  pub settled_seated : (by station s g : ℕ) (over : Bool) (v w : Me ℕ View) (a : Settle) → IsSeated P C Back by station over v → w.0.role ≡ v.0.role → w.1 ≡ v.1 →
      SettleAnswers P C by v.0.seen w.0.seen s g a → IsSeated P C Back by station over w
  settled_seated by station s g over v w Settled seated role slots out =
      let act : List Event = Does (On out.p Load) ∷ [] in
      back_seated P C by station over v w (out.behind ++ act) seated role slots out.adds
      (all_append (IsNoRetirement P C) out.behind act (walk_keeps w.0.seen out.p out.behind out.carried) (tt, tt))
  settled_seated by station s g over v w StaleLoad seated role slots out =
      back_seated P C by station over v w (Refuses (Stale out.p) ∷ []) seated role slots out.adds (tt, tt)
