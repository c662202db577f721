-- What an exchange writes: the tenant of this station and tag was acted on, or is stale.
use Rattle.std.proofs.Common.{◌≡◌, ℕ, List, [], ◌∷◌, ◌++◌, map, refl, sym, ap, ◌∙◌, subst, ⊎_elim}
use Rattle.instructions.specs.Programs.{Program}
use Rattle.instructions.specs.declared.op.Kind.{Kind}
use Rattle.inorder.specs.declared.history.Act.{Act}
use Rattle.inorder.specs.declared.history.Entry.{Entry}
use Rattle.inorder.specs.declared.history.Event.{Event}
use Rattle.inorder.specs.declared.history.Event.TheVariants.{Does, Refuses}
use Rattle.inorder.specs.declared.history.Refusal.TheVariants.{Stale}
use Rattle.inorder.specs.declared.history.Step.TheVariants.{On}
use Rattle.inorder.specs.History.{IsLegal, entry, unit_of}
use Rattle.inorder.specs.OneHistory.{Adds}
use Rattle.inorder.specs.Legal.{changed}
use Rattle.inorder.specs.Replies.{IsSquashed}
use Rattle.inorder.specs.Tenants.{Tenant}
use Rattle.inorder.specs.Unit.{Sizes, older}
use Rattle.inorder.proofs.Histories.{adds_on}
use Rattle.inorder.proofs.Moves.{IsActed, IsLeft, at_changed}
use Rattle.inorder.proofs.Tags.{same_place}
use Rattle.ruu_words.specs.declared.rule.Draft.{Draft}
use Rattle.ruu_words.specs.declared.rule.View.{View}
use Rattle.ruu_words.specs.Kinds.{Finds, IsAny, IsNamed, IsTenant, refuses}
use Rattle.ruu_words.specs.Telling.{Grows}
use Rattle.ruu_words.proofs.Stays.{named_of, named_on}
use Rattle.station.specs.Carrying.{OfTenant}
use Rattle.station.specs.Writeback.{IsWritten, WasStale}
use Rattle.station.proofs.Adding.{adds_these}
use Rattle.inorder.proofs.Recent.{old_kept}

module _ (P : Program) (C : Sizes) where
  -- The tenant of this station and tag was acted on
  pub record IsOut (by s g : ℕ) (act : Act) (old new : List Entry) : Type 0 where
    pub p : ℕ
    pub named : IsNamed (unit_of P C new) p s g
    pub adds : Adds P C by old new (Does (On p act) ∷ [])

  -- and then this was carried
  pub writes_out : (by s g : ℕ) (act : Act) (old mid new : List Entry) (Carried : ℕ → List Event → Type 0) → IsOut by s g act old mid →
      OfTenant P C mid s g (λ q. (es : List Event) × (Carried q es × Adds P C by mid new es)) → IsWritten P C by old new s g act Carried
  writes_out by s g act old mid new Carried out carry =
      let c = carry out.p out.named in
      record {
        p = out.p;
        named = named_on P C by out.p s g c.0 mid new c.1.1 out.named;
        behind = c.0;
        carried = c.1.0;
        adds = adds_on P C by old mid new (Does (On out.p act) ∷ []) c.0 out.adds c.1.1;
      }

  -- the tenant that an act changed
  pub acted : (by p s g : ℕ) (act : Act) (F : Tenant → Type 0) (h : List Entry) → (legal : IsLegal P C (entry by (Does (On p act)) ∷ h)) → (i : IsTenant (unit_of P C h) p s g F) →
      (G : Tenant → Type 0) → G (changed P by act i.tenant (older (unit_of P C h).tenants p)) → IsTenant (unit_of P C (entry by (Does (On p act)) ∷ h)) p s g G
  acted by p s g act F h legal i G fact =
      let us = (unit_of P C h).tenants in
      let t = i.tenant in
      let place = same_place P by act t (older us p) in
      let now : IsActed P us by p act t p t = ⊎_elim (λ z. z) (λ (z : IsLeft P us by p act p t). absurd (z.position refl)) (at_changed P us by p act t i.is p t i.is) in
      record {
        tenant = changed P by act t (older us p);
        is = now.now;
        new = old_kept P C (unit_of P C h) by (On p act) (λ e. cc e) legal.1.1 p ∙ i.new;
        station_is = place.0 ∙ i.station_is;
        tag_is = place.1 ∙ i.tag_is;
        fact = fact;
      }

  -- a refusal changes nothing
  pub stale_out : (by s g : ℕ) (v w : View) (Kind : List Entry → Draft → List Event → Type 0) (e : Grows P C by v w Kind) →
      Finds (unit_of P C (e.between ++ v.seen)) s g e.events IsSquashed (refuses Stale) → WasStale P C by v.seen w.seen s g
  stale_out by s g v w Kind e f =
      let h : List Entry = e.between ++ v.seen in
      let seen : w.seen ≡ entry by (Refuses (Stale f.p)) ∷ h = e.is ∙ ap (λ es. map (entry by) es ++ h) f.added in
      record {
        p = f.p;
        named = subst (λ z. IsNamed (unit_of P C z) f.p s g) (sym seen) (named_of f.tenant);
        adds = adds_these P C by v w Kind (Refuses (Stale f.p) ∷ []) e f.added;
      }

  -- an exchange that hit
  pub act_out : (by s g : ℕ) (act : Act) (F : Tenant → Type 0) (v w : View) (Kind : List Entry → Draft → List Event → Type 0) (e : Grows P C by v w Kind) →
      Finds (unit_of P C (e.between ++ v.seen)) s g e.events F (λ p. Does (On p act) ∷ []) → IsOut by s g act v.seen w.seen
  act_out by s g act F v w Kind e f =
      let h : List Entry = e.between ++ v.seen in
      let seen : w.seen ≡ entry by (Does (On f.p act)) ∷ h = e.is ∙ ap (λ es. map (entry by) es ++ h) f.added in
      let legal : IsLegal P C (entry by (Does (On f.p act)) ∷ h) = subst (IsLegal P C) seen e.legal in
      record {
        p = f.p;
        named = subst (λ z. IsNamed (unit_of P C z) f.p s g) (sym seen) (acted by f.p s g act F h legal f.tenant IsAny tt);
        adds = adds_these P C by v w Kind (Does (On f.p act) ∷ []) e f.added;
      }
