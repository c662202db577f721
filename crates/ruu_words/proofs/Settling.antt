-- The exchange with which a load gets its value.
use Rattle.std.proofs.Common.{◌≡◌, ◌≢◌, ◌⊎◌, ℕ, suc, ◌==◌, List, [], ◌++◌, Some, refl, sym, ap, ◌∙◌, subst, inl, inr, ⊎_elim, arith}
use prog.Atomic.{either}
use Rattle.atomic_table.proofs.Lists.{exchanged}
use Rattle.instructions.specs.Programs.{Program}
use Rattle.inorder.specs.declared.history.Act.TheVariants.{Load}
use Rattle.inorder.specs.declared.history.Entry.{Entry}
use Rattle.inorder.specs.declared.history.Refusal.TheVariants.{Stale}
use Rattle.inorder.specs.Callers.{CanLoad}
use Rattle.inorder.proofs.Recent.{live_is_recent}
use Rattle.inorder.specs.History.{IsLegal, IsUnitOrBack, back, own, renewals, unit_of}
use Rattle.inorder.specs.Memory.{load_value}
use Rattle.inorder.specs.Replies.{IsSquashed, IsStale}
use Rattle.inorder.specs.StationWords.{live_word, station_word}
use Rattle.inorder.specs.Tenants.{Addr, Done, Fate, Live, Squashed, Tenant}
use Rattle.inorder.specs.Unit.{Sizes, UpdateUnit, older, recent}
use Rattle.inorder.proofs.Loading.{gone_stays, load_stays}
use Rattle.ruu_words.specs.declared.place.Place.TheVariants.{Station}
use Rattle.ruu_words.specs.declared.rule.Role.TheVariants.{Back}
use Rattle.ruu_words.specs.declared.rule.View.{View}
use Rattle.ruu_words.specs.Content.{IsStation}
use Rattle.ruu_words.specs.Kinds.{IsNamed, Settles}
use Rattle.ruu_words.specs.Views.{IsCaller}
use Rattle.ruu_words.proofs.Building.{changes, tells}
use Rattle.ruu_words.specs.Plans.{Plan, Plans}
use Rattle.ruu_words.proofs.StationWords.{its_word, one_at, one_live, still_live, the_tenant}
use Rattle.ruu_words.proofs.Stays.{back_stays, named_stays, with_fact}

module _ (P : Program) (C : Sizes) where
  -- what the back has seen of a load: it may be answered, or is squashed
  pub load_lasts : (p a val : ℕ) (more seen : List Entry) → IsLegal P C (more ++ seen) → renewals (more ++ seen) ≡ renewals seen → own back more ≡ []
      → CanLoad P (unit_of P C seen) p a val ⊎ IsStale (unit_of P C seen) p → CanLoad P (unit_of P C (more ++ seen)) p a val ⊎ IsStale (unit_of P C (more ++ seen)) p
  load_lasts p a val more seen legal same none can = back_stays P C (λ U. CanLoad P U p a val ⊎ IsStale U p)
      (λ U by s b may ok q. ⊎_elim (λ c. load_stays P C U by s b may ok p a val c) (λ x. inr (gone_stays P C U by s may p x)) q)
      more seen legal same none can

  pub settle_plan : (id : ℕ) (v : View) (s g p a val old new : ℕ) → v.role ≡ Back → IsStation (live_word g (Addr a)) old → IsStation (live_word g (Done val)) new →
      IsNamed (unit_of P C v.seen) p s g
      → CanLoad P (unit_of P C v.seen) p a val ⊎ IsStale (unit_of P C v.seen) p
      → Plans P C id v (Station s) (λ n. either (n == old) new n) (Settles P C s g old)
  settle_plan id v s g p a val old new role old_is new_is named can between d legal same apart caller mine draft n small content =
      let h : List Entry = between ++ v.seen in
      let U : UpdateUnit = unit_of P C h in
      let is_back : id ≡ back = subst (λ r. IsCaller r id) role caller in
      let i = named_stays P C p s g between v.seen legal same named in
      let now = load_lasts p a val between v.seen legal same (subst (λ z. own z between ≡ []) is_back apart) can in
      let stale : IsStale U p → n ≢ old → Plan P C id h d (Station s) n (Settles P C s g old n) = λ x miss.
      let one : i.tenant ≡ x.tenant = one_at P C h legal p i.tenant x.tenant i.is x.is in
      let gone : i.tenant.standing ≡ Squashed = ap (λ (z : Tenant). z.standing) one ∙ x.fact in
      tells P C id h d legal draft (Station s) n (Stale p) (or_back is_back, record { tenant = i.tenant; is = i.is; fact = gone }) content (Settles P C s g old n)
      (inr (miss, record { p = p; tenant = with_fact IsSquashed i gone; added = refl })) in
      exchanged n old new (λ z. Plan P C id h d (Station s) z (Settles P C s g old n))
      (λ hit.
      let word : IsStation (station_word C (recent U) s) old = subst (IsStation (station_word C (recent U) s)) hit content in
      let state = old_is.state in
      let here = the_tenant P C h legal p s g old i.tenant i.is i.new i.station_is i.tag_is word (omega arith) old_is.tag in ⊎_elim
      (λ (c : CanLoad P U p a val).
      let t : Tenant = c.tenant in
      let one : i.tenant ≡ t = one_at P C h legal p i.tenant t i.is c.is in
      let at_s : t.station ≡ s = ap (λ (z : Tenant). z.station) (sym one) ∙ i.station_is in
      let tag : t.tag ≡ g = ap (λ (z : Tenant). z.tag) (sym one) ∙ i.tag_is in
      let fits : IsStation (live_word t.tag (Done (load_value P (older U.tenants p) t))) new = subst (λ (z : ℕ × ℕ). IsStation (live_word z.0 (Done z.1)) new) (λ j. (sym tag j, sym c.value_is j))
      new_is in
      subst (λ x. Plan P C id h d (Station x) new (Settles P C s g old n)) at_s
      (changes P C id h d legal draft p Load t tt (inr tt) is_back (record { tenant = t; is = c.is; may = c.may }) c.is new
      (still_live t.standing (suc t.tag) t.tag (Done (load_value P (older U.tenants p) t)) (Some (load_value P (older U.tenants p) t)) new c.may.live fits)
      (Settles P C s g old n) (inl (
        hit,
        record {
          p = p;
          tenant = record { tenant = t; is = c.is; new = live_is_recent P C h legal p t c.is c.may.live; station_is = at_s; tag_is = tag; fact = tt };
          added = refl;
        },
      ))))
      (λ (x : IsStale U p). absurd (apart_from (sym here.0 ∙ (ap (λ (z : Tenant). z.standing) (one_at P C h legal p i.tenant x.tenant i.is x.is) ∙ x.fact))))
      now)
      (λ miss. ⊎_elim
      (λ (c : CanLoad P U p a val).
      let one : i.tenant ≡ c.tenant = one_at P C h legal p i.tenant c.tenant i.is c.is in
      let at_s : c.tenant.station ≡ s = ap (λ (z : Tenant). z.station) (sym one) ∙ i.station_is in
      let tag : c.tenant.tag ≡ g = ap (λ (z : Tenant). z.tag) (sym one) ∙ i.tag_is in
      let l = its_word P C h legal p s n c.tenant c.is at_s c.may.live content in
      absurd (miss (one_live g (Addr a) n old (subst (λ (z : ℕ × Fate). IsStation (live_word z.0 z.1) n) (λ j. (tag j, c.fate j)) l) old_is)))
      (λ x. stale x miss)
      now)
    where
      apart_from : Live ≡ Squashed → ⊥
      apart_from e = cc e

      or_back : id ≡ back → IsUnitOrBack id
      or_back e = omega arith
