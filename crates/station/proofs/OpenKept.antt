-- An open and ready tenant stays so, where nobody steps but the back.
use Rattle.std.proofs.Common.{◌≡◌, ◌≢◌, ℕ, ◌<◌, List, [], ◌∷◌, ◌++◌, Some, refl, sym, ap, ◌∙◌, subst, ⊎_elim, arith}
use Rattle.std.proofs.lemmas.Option.{same_Some}
use mathlib.Core.Logic.{dite}
use native.Mathlib.Decide.{ℕ_discrete}
use Rattle.std.proofs.lemmas.Bool.{cases_lt}
use Rattle.std.specs.List.{AllByRecursion}
use Rattle.instructions.specs.Programs.{Program}
use Rattle.inorder.specs.declared.history.Act.{Act}
use Rattle.inorder.specs.declared.history.Act.TheVariants.{Claim, Deliver, Finish, Link, Load, Mend, Retire, Speculate, Squash}
use Rattle.inorder.specs.declared.history.Entry.{Entry}
use Rattle.inorder.specs.declared.history.Event.{Event}
use Rattle.inorder.specs.declared.history.Event.TheVariants.{Does, Marks, Refuses}
use Rattle.inorder.specs.declared.history.Source.TheVariants.{First, Second}
use Rattle.inorder.specs.declared.history.Step.{Step}
use Rattle.inorder.specs.declared.history.Step.TheVariants.{Let, On, Renew}
use Rattle.inorder.specs.Callers.{IsReady}
use Rattle.inorder.specs.History.{IsLegal, IsTheirAct, IsTheirs, MayAdd, back, entry, front, own, taken_of, unit_of}
use Rattle.inorder.specs.Legal.{Allowed, May, applied, changed}
use Rattle.inorder.specs.Replies.{Has, IsOpen, JobFields, job_of}
use Rattle.inorder.specs.Steps.{CanRetire}
use Rattle.inorder.specs.Tenants.{Live, Tenant, kind_of}
use Rattle.inorder.specs.Unit.{at, older, recent, Sizes, UpdateUnit, younger}
use Rattle.inorder.proofs.Histories.{allowed_steps, none_renewed, own_else, own_here, own_none, unit_lasts, unit_sound}
use Rattle.inorder.proofs.Moves.{IsActed, IsLeft, at_changed, goes}
use Rattle.inorder.proofs.Positions.{younger_at}
use Rattle.inorder.proofs.Stations.{is_ring, stands}
use Rattle.ruu_words.proofs.StationWords.{one_at}
use Rattle.ruu_words.proofs.Stays.{named_of, named_stays, ready_stays}
use Rattle.station.specs.Quiet.{IsStill, ReadyTenantsStay}
use Rattle.station.proofs.Holding.{fields_stay}
use Rattle.inorder.proofs.Recent.{live_is_last, old_are_gone}

-- Who has no entry here: all are the back's
pub only_back : (rest : List Entry) → ((n : ℕ) → n ≢ back → own n rest ≡ []) → AllByRecursion (λ e. e.by ≡ back) rest
only_back [] none = tt
only_back (e ∷ rest) none = (here, only_back rest (λ n ne. sym (own_else n e rest (λ same. ne (sym same ∙ here))) ∙ none n ne))
  where
    no_cons : (x : Entry) (xs : List Entry) → x ∷ xs ≡ [] → ⊥
    no_cons x xs e = cc e

    here : e.by ≡ back
    here = dite (ℕ_discrete e.by back) (λ y. y) (λ ne. absurd (no_cons e (own e.by rest) (sym (own_here e.by e rest refl) ∙ none e.by ne)))

module _ (P : Program) (C : Sizes) where
  -- no act of the back ends it
  open_by : (id : ℕ) → id ≡ back → (act : Act) (ys : List Tenant) (t : Tenant) (ts : List Tenant) → IsTheirAct id act → May P id act ys t ts → IsOpen t → IsOpen (changed P id act t ts)
  open_by id e (Link k) ys t ts w m o = absurd (omega arith)
  open_by id e (Deliver First) ys t ts w m o = record { live = o.live; fate = o.fate }
  open_by id e (Deliver Second) ys t ts w m o = record { live = o.live; fate = o.fate }
  open_by id e Claim ys t ts w m o = absurd (omega arith)
  open_by id e Finish ys t ts w m o = absurd (omega arith)
  open_by id e Load ys t ts w m o = let f = m.fate in let g = o.fate in absurd (cc (sym f ∙ g))
  open_by id e (Retire r) ys t ts w m o = absurd (subst (CanRetire (kind_of P t) t.second.value) o.fate m.can)
  open_by id e Squash ys t ts w m o = absurd (omega arith)
  open_by id e (Speculate s) ys t ts w m o = absurd w
  open_by id e Mend ys t ts w m o = absurd (omega arith)

  open_step : (p : ℕ) (U : UpdateUnit) (id : ℕ) → id ≡ back → (s : Step) → IsTheirs C U id s → Allowed P C U id s → (t t' : Tenant) → at U.tenants p ≡ Some t →
      at (applied P C U id s).tenants p ≡ Some t' → IsOpen t → IsOpen t'
  open_step p U id e (Let index predicted first second) w a t t' is now o = let by_front = w.0 in absurd (omega arith)
  open_step p U id e Renew w a t t' is now o = subst IsOpen (same_Some t t' (sym is ∙ now)) o
  open_step p U id e (On r act) w a t t' is now o = ⊎_elim
      (λ (z : IsActed P U.tenants id r act a.tenant p t).
      subst IsOpen (same_Some (changed P id act a.tenant (older U.tenants r)) t' (sym z.now ∙ now))
      (open_by id e act (younger U.tenants r) a.tenant (older U.tenants r) w a.may (subst IsOpen z.tenant o)))
      (λ (z : IsLeft P U.tenants id r act p t). subst IsOpen (same_Some t t' (sym z.now ∙ now)) o)
      (at_changed P U.tenants id r act a.tenant a.is p t is)

  open_entry : (p : ℕ) (h : List Entry) (id : ℕ) → id ≡ back → (e : Event) → IsLegal P C h → MayAdd P C h id e → Has (unit_of P C h) p IsOpen → Has (unit_of P C (entry id e ∷ h)) p IsOpen
  open_entry p h id is (Does s) legal may o =
      let g = goes P C (unit_of P C h) id s may.1 (unit_sound P C h legal) p o.tenant o.is in
      record { tenant = g.tenant; is = g.is; fact = open_step p (unit_of P C h) id is s may.0 may.1 o.tenant g.tenant o.is g.is o.fact }
  open_entry p h id is (Refuses r) legal may o = o
  open_entry p h id is (Marks m) legal may o = o

  pub open_lasts : (p : ℕ) (more seen : List Entry) → IsLegal P C (more ++ seen) → AllByRecursion (λ e. e.by ≡ back) more → Has (unit_of P C seen) p IsOpen → Has (unit_of P C (more ++ seen)) p IsOpen
  open_lasts p [] seen legal all o = o
  open_lasts p (e ∷ more) seen legal all o = open_entry p (more ++ seen) e.by all.0 e.event legal.0 legal.1 (open_lasts p more seen legal.0 all.1 o)

  -- it keeps its job
  abbrev pub HasJob : ℕ → JobFields → UpdateUnit → Type 0
  HasJob p f U = Has U p (λ u. IsReady P u × (job_of P u ≡ f))

  pub job_lasts : (p : ℕ) (f : JobFields) (more seen : List Entry) → IsLegal P C (more ++ seen) → HasJob p f (unit_of P C seen) → HasJob p f (unit_of P C (more ++ seen))
  job_lasts p f more seen legal j = unit_lasts P C (HasJob p f)
      (λ U by s a ok x. let g = goes P C U by s a ok p x.tenant x.is in
      record { tenant = g.tenant; is = g.is; fact = (ready_stays P by s x.tenant g.tenant g.goes x.fact.0, fields_stay P by s x.tenant g.tenant g.goes x.fact.0 ∙ x.fact.1) })
      more seen legal j

  -- after a live tenant none has its station
  pub last_live : (h : List Entry) → IsLegal P C h → (p q : ℕ) (t u : Tenant) → at (unit_of P C h).tenants p ≡ Some t → at (unit_of P C h).tenants q ≡ Some u →
      t.standing ≡ Live → u.station ≡ t.station →
      ¬ (p < q)
  last_live h legal p q t u is is' live same less =
      let us = (unit_of P C h).tenants in
      younger_at (λ x. x.station ≢ t.station) us p (live_is_last C (unit_of P C h) (is_ring C (recent (unit_of P C h)) (stands P C (taken_of h) (allowed_steps P C h legal))) (old_are_gone P C h legal)
      p t is live) q u less is' same

  pub neither : (p q : ℕ) → ¬ (p < q) → ¬ (q < p) → q ≡ p
  neither p q a b = dite (ℕ_discrete q p) (λ e. e) (λ ne. ⊎_elim (λ less. absurd (a less)) (λ more. absurd (b (omega arith))) (cases_lt p q))

-- A ready tenant stays

pub ready_tenants_stay : ReadyTenantsStay
ready_tenants_stay P C old new s g p begins legal_new quiet t =
    let more : List Entry = begins.more in
    let is : new ≡ more ++ old = begins.is in
    let legal : IsLegal P C (more ++ old) = subst (IsLegal P C) is legal_new in
    let none : (n : ℕ) → n ≢ back → own n more ≡ [] = λ n ne. own_none n more old (ap (own n) (sym is) ∙ quiet n ne) in
    let o = open_lasts P C p more old legal (only_back more none) (record { tenant = t.tenant; is = t.is; fact = t.fact.is_open }) in
    let j = job_lasts P C p (job_of P t.tenant) more old legal (record { tenant = t.tenant; is = t.is; fact = (t.fact.ready, refl) }) in
    let i = named_stays P C p s g more old legal (none_renewed P C more old legal (none front (λ e. cc e))) (named_of t) in
    let open_job : o.tenant ≡ j.tenant = one_at P C (more ++ old) legal p o.tenant j.tenant o.is j.is in
    let named_job : i.tenant ≡ j.tenant = one_at P C (more ++ old) legal p i.tenant j.tenant i.is j.is in
    subst (λ z. IsStill P C z s g p t.tenant) (sym is) (record {
      tenant = record {
        tenant = j.tenant;
        is = j.is;
        new = i.new;
        station_is = ap (λ (z : Tenant). z.station) (sym named_job) ∙ i.station_is;
        tag_is = ap (λ (z : Tenant). z.tag) (sym named_job) ∙ i.tag_is;
        fact = record { is_open = subst IsOpen open_job o.fact; ready = j.fact.0 };
      };
      job_is = j.fact.1;
    })
