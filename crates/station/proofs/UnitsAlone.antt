-- What stays of a tenant in a history to which units alone add.
use Rattle.std.proofs.Common.{◌≡◌, ◌≢◌, ℕ, Bool, true, false, cond, eqb, List, [], ◌∷◌, ◌++◌, length, Some, sym, ap, ◌∙◌, subst, ⊎_elim, arith, length-append}
use Rattle.std.proofs.lemmas.Option.{same_Some}
use Rattle.std.specs.List.{AllByRecursion}
use Rattle.instructions.specs.Programs.{Program}
use Rattle.instructions.specs.declared.stop.Outcome.{Outcome}
use Rattle.instructions.specs.declared.stop.Outcome.TheVariants.{Address, Next, Pair, Stop as Stops, Value}
use Rattle.inorder.specs.declared.history.Act.{Act}
use Rattle.inorder.specs.declared.history.Act.TheVariants.{Claim, Deliver, Finish, Link, Load, Mend, Retire, Speculate, Squash}
use Rattle.inorder.specs.declared.history.Entry.{Entry}
use Rattle.inorder.specs.declared.history.Event.{Event}
use Rattle.inorder.specs.declared.history.Event.TheVariants.{Does, Marks, Refuses}
use Rattle.inorder.specs.declared.history.Source.TheVariants.{First, Second}
use Rattle.inorder.specs.declared.history.Step.{Step}
use Rattle.inorder.specs.declared.history.Step.TheVariants.{Let, On, Renew}
use Rattle.inorder.specs.History.{IsLegal, IsTheirAct, IsTheirs, IsUnit, MayAdd, back, entry, front, own, unit_of}
use Rattle.inorder.specs.Legal.{Allowed, May, applied, changed}
use Rattle.inorder.specs.Replies.{Has}
use Rattle.inorder.specs.Steps.{finished}
use Rattle.inorder.specs.Tenants.{Busy, Done, Miss, Open, Tenant, computed}
use Rattle.inorder.specs.Unit.{Sizes, UpdateUnit, at, older, younger}
use Rattle.inorder.proofs.Histories.{no_length, only_front_renews, own-append, own_else, own_here, unit_sound}
use Rattle.inorder.proofs.Moves.{IsActed, IsLeft, at_changed, goes}
use Rattle.ruu_words.specs.Kinds.{IsTenant, fate_of}
use Rattle.ruu_words.proofs.Stays.{place_stays}
use Rattle.station.specs.Finishing.{HasOutcome, IsLive, OnlyUnits}
use Rattle.inorder.proofs.Recent.{old_kept}

-- Histories of units alone

abbrev pub AreUnits : List Entry → Type 0
AreUnits = AllByRecursion (λ e. IsUnit e.by)

not_by : (n : ℕ) (e : Entry) (more : List Entry) → own n (e ∷ more) ≡ [] → e.by ≢ n
not_by n e more none same = no_cons e (own n more) (sym (own_here n e more same) ∙ none)
  where
    no_cons : (x : Entry) (xs : List Entry) → x ∷ xs ≡ [] → ⊥
    no_cons x xs e = cc e

are_units : (more : List Entry) → own front more ≡ [] → own back more ≡ [] → AreUnits more
are_units [] f b = tt
are_units (e ∷ more) f b =
    let not_front : e.by ≢ front = not_by front e more f in
    let not_back : e.by ≢ back = not_by back e more b in
    (two e.by not_front not_back, are_units more (sym (own_else front e more not_front) ∙ f) (sym (own_else back e more not_back) ∙ b))
  where
    two : (n : ℕ) → n ≢ 0 → n ≢ 1 → IsUnit n
    two n a b = omega arith

-- what is after a point of it, where a caller has added nothing
none_behind : (n : ℕ) (old new more point rest : List Entry) → new ≡ more ++ point → point ≡ rest ++ old → own n new ≡ own n old → own n more ≡ []
none_behind n old new more point rest is before same =
    let a = ap (λ z. length z) (sym same ∙ (ap (own n) is ∙ own-append n more point)) in
    let b = length-append (own n more) (own n point) in
    let c = ap (λ z. length z) (ap (own n) before ∙ own-append n rest old) in
    let d = length-append (own n rest) (own n old) in
    no_length (own n more) (omega arith)

pub units_behind : (old new more point rest : List Entry) → new ≡ more ++ point → point ≡ rest ++ old → OnlyUnits old new → AreUnits more
units_behind old new more point rest is before only =
    are_units more (none_behind front old new more point rest is before only.fronts) (none_behind back old new more point rest is before only.backs)

-- What no act of a unit ends

not_open : (x : ℕ) (o : Outcome) → fate_of x o ≢ Open
not_open x (Value v) e = cc e
not_open x (Next n) e = go (eqb n x) e
  where
    go : (b : Bool) → cond b (Done n) (Miss n) ≢ Open
    go true e = cc e
    go false e = cc e
not_open x (Address a) e = cc e
not_open x (Stops c) e = cc e
not_open x (Pair low high) e = cc e

not_busy : (x by : ℕ) (o : Outcome) → fate_of x o ≢ Busy by
not_busy x by (Value v) e = cc e
not_busy x by (Next n) e = go (eqb n x) e
  where
    go : (b : Bool) → cond b (Done n) (Miss n) ≢ Busy by
    go true e = cc e
    go false e = cc e
not_busy x by (Address a) e = cc e
not_busy x by (Stops c) e = cc e
not_busy x by (Pair low high) e = cc e

finished_live : (t : Tenant) (o : Outcome) → IsLive t → IsLive (finished t o)
finished_live t (Value v) l = l
finished_live t (Next x) l = l
finished_live t (Address a) l = l
finished_live t (Stops c) l = l
finished_live t (Pair low high) l = l

abbrev Keeps : (Tenant → Type 0) → Type 0
Keeps Fact = (P : Program) (id : ℕ) → IsUnit id → (act : Act) (ys : List Tenant) (t : Tenant) (ts : List Tenant) →
    IsTheirAct id act → May P id act ys t ts → Fact t → Fact (changed P id act t ts)

pub live_kept : Keeps IsLive
live_kept P id u (Link k) ys t ts w m l = absurd (omega arith)
live_kept P id u (Deliver First) ys t ts w m l = l
live_kept P id u (Deliver Second) ys t ts w m l = l
live_kept P id u Claim ys t ts w m l = l
live_kept P id u Finish ys t ts w m l = finished_live t (computed P t) l
live_kept P id u Load ys t ts w m l = l
live_kept P id u (Retire n) ys t ts w m l = absurd (omega arith)
live_kept P id u Squash ys t ts w m l = absurd (omega arith)
live_kept P id u (Speculate s) ys t ts w m l = absurd w
live_kept P id u Mend ys t ts w m l = absurd (omega arith)

pub outcome_kept : (o : Outcome) → Keeps (HasOutcome o)
outcome_kept o P id u (Link k) ys t ts w m h = absurd (omega arith)
outcome_kept o P id u (Deliver First) ys t ts w m h = record { live = h.live; fate = h.fate; made = h.made }
outcome_kept o P id u (Deliver Second) ys t ts w m h = record { live = h.live; fate = h.fate; made = h.made }
outcome_kept o P id u Claim ys t ts w m h = absurd (not_open t.predicted o (sym h.fate ∙ m.fate))
outcome_kept o P id u Finish ys t ts w m h = absurd (not_busy t.predicted id o (sym h.fate ∙ m.fate))
outcome_kept o P id u Load ys t ts w m h = absurd (omega arith)
outcome_kept o P id u (Retire n) ys t ts w m h = absurd (omega arith)
outcome_kept o P id u Squash ys t ts w m h = absurd (omega arith)
outcome_kept o P id u (Speculate s) ys t ts w m h = absurd w
outcome_kept o P id u Mend ys t ts w m h = absurd (omega arith)

module _ (P : Program) (C : Sizes) where
  module _ (Fact : Tenant → Type 0) (keeps : Keeps Fact) where
    kept_step : (p : ℕ) (U : UpdateUnit) (id : ℕ) → IsUnit id → (s : Step) → IsTheirs C U id s → Allowed P C U id s → (t t' : Tenant) →
        at U.tenants p ≡ Some t → at (applied P C U id s).tenants p ≡ Some t' → Fact t → Fact t'
    kept_step p U id u (Let index predicted first second) w a t t' is now f = let by_front = w.0 in absurd (omega arith)
    kept_step p U id u Renew w a t t' is now f = subst Fact (same_Some t t' (sym is ∙ now)) f
    kept_step p U id u (On r act) w a t t' is now f = ⊎_elim
        (λ (z : IsActed P U.tenants id r act a.tenant p t).
        subst Fact (same_Some (changed P id act a.tenant (older U.tenants r)) t' (sym z.now ∙ now))
        (keeps P id u act (younger U.tenants r) a.tenant (older U.tenants r) w a.may (subst Fact z.tenant f)))
        (λ (z : IsLeft P U.tenants id r act p t). subst Fact (same_Some t t' (sym z.now ∙ now)) f)
        (at_changed P U.tenants id r act a.tenant a.is p t is)

    above : (id : ℕ) → IsUnit id → id ≢ front
    above id u e = omega arith

    kept_entry : (p s g : ℕ) (h : List Entry) (id : ℕ) → IsUnit id → (e : Event) → IsLegal P C h → MayAdd P C h id e →
        IsTenant (unit_of P C h) p s g Fact → IsTenant (unit_of P C (entry id e ∷ h)) p s g Fact
    kept_entry p s g h id u (Does st) legal may i =
        let m = goes P C (unit_of P C h) id st may.1 (unit_sound P C h legal) p i.tenant i.is in
        record {
          tenant = m.tenant;
          is = m.is;
          new = old_kept P C (unit_of P C h) id st (λ x. only_front_renews C (unit_of P C h) id (subst (IsTheirs C (unit_of P C h) id) x may.0) (above id u)) may.1 p ∙ i.new;
          station_is = m.goes.station ∙ i.station_is;
          tag_is = m.goes.tag ∙ i.tag_is;
          fact = kept_step p (unit_of P C h) id u st may.0 may.1 i.tenant m.tenant i.is m.is i.fact;
        }
    kept_entry p s g h id u (Refuses r) legal may i = i
    kept_entry p s g h id u (Marks k) legal may i = i

    -- what no act of a unit ends is still so after entries of units
    kept_on : (p s g : ℕ) (more seen : List Entry) → IsLegal P C (more ++ seen) → AreUnits more →
        IsTenant (unit_of P C seen) p s g Fact → IsTenant (unit_of P C (more ++ seen)) p s g Fact
    kept_on p s g [] seen legal all i = i
    kept_on p s g (e ∷ more) seen legal all i = kept_entry p s g (more ++ seen) e.by all.0 e.event legal.0 legal.1 (kept_on p s g more seen legal.0 all.1 i)

  -- in a history that goes on from this one
  pub kept_to : (Fact : Tenant → Type 0) → Keeps Fact → (p s g : ℕ) (more seen new : List Entry) → new ≡ more ++ seen → IsLegal P C new → AreUnits more →
      IsTenant (unit_of P C seen) p s g Fact → IsTenant (unit_of P C new) p s g Fact
  kept_to Fact keeps p s g more seen new is legal all i =
      subst (λ z. IsTenant (unit_of P C z) p s g Fact) (sym is) (kept_on Fact keeps p s g more seen (subst (IsLegal P C) is legal) all i)

  pub any_to : (p : ℕ) (t : Tenant) (more seen new : List Entry) → new ≡ more ++ seen → IsLegal P C new → at (unit_of P C seen).tenants p ≡ Some t →
      Has (unit_of P C new) p (λ u. (u.station ≡ t.station) × (u.tag ≡ t.tag))
  any_to p t more seen new is legal here =
      subst (λ z. Has (unit_of P C z) p (λ u. (u.station ≡ t.station) × (u.tag ≡ t.tag))) (sym is)
      (place_stays P C p t more seen (subst (IsLegal P C) is legal) here)
