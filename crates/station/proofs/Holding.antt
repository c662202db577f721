-- A job stays held until its caller finishes it.
use Rattle.std.proofs.Common.{◌≡◌, ◌≢◌, ◌⊎◌, ℕ, Bool, true, false, cond, List, [], ◌∷◌, ◌++◌, map, Option, Some, None, refl, sym, ap, ◌∙◌, subst, inl, inr, ⊎_elim, eqb, eq-eqb}
use Rattle.std.specs.Prelude.{unwrap_or}
use Rattle.std.specs.List.{AllByRecursion}
use Rattle.instructions.specs.Instruction.{kind}
use Rattle.instructions.specs.Programs.{Program, instr_of}
use Rattle.instructions.specs.declared.op.Kind.{Kind}
use Rattle.instructions.specs.declared.op.Kind.TheVariants.{Computes, Jumps, Links, Loads, Stores}
use Rattle.instructions.specs.declared.stop.Outcome.{Outcome}
use Rattle.instructions.specs.declared.stop.Outcome.TheVariants.{Address, Next, Pair, Stop as Stops, Value}
use Rattle.inorder.specs.declared.history.Act.{Act}
use Rattle.inorder.specs.declared.history.Act.TheVariants.{Claim, Deliver, Finish, Link, Load, Mend, Retire, Speculate, Squash}
use Rattle.inorder.specs.declared.history.Entry.{Entry}
use Rattle.inorder.specs.declared.history.Event.{Event}
use Rattle.inorder.specs.declared.history.Event.TheVariants.{Does, Marks, Refuses}
use Rattle.inorder.specs.declared.history.Source.TheVariants.{First, Second}
use Rattle.inorder.specs.declared.history.Step.{Step}
use Rattle.inorder.specs.declared.history.Step.TheVariants.{Let, On, Renew}
use Rattle.inorder.specs.Callers.{IsHeld, IsReady}
use Rattle.inorder.specs.History.{entry, front, IsLegal, MayAdd, own, unit_of}
use Rattle.inorder.specs.OneHistory.{Adds}
use Rattle.inorder.specs.Legal.{Allowed, May, applied, changed}
use Rattle.inorder.specs.Replies.{Has, JobFields, job_of, needed}
use Rattle.inorder.specs.Speculation.{CanGuess}
use Rattle.inorder.specs.Steps.{CanRetire, new_tenant}
use Rattle.inorder.specs.Tenants.{Tenant, kind_of, missing_of, needs, operand_value}
use Rattle.inorder.specs.Unit.{Sizes, UpdateUnit, at, older, younger}
use Rattle.inorder.proofs.Histories.{own-append, unit_lasts, unit_sound}
use Rattle.inorder.proofs.Moves.{Goes, IsActed, IsLeft, at_changed, goes}
use Rattle.inorder.proofs.Positions.{at_below, at_more}
use Rattle.inorder.proofs.Sound.{IsSound}
use Rattle.ruu_words.proofs.Stays.{ready_stays}
use Rattle.station.specs.declared.answers.Finish.{Finish as FinishAnswer}
use Rattle.station.specs.declared.answers.Finish.TheVariants.{Finished, Stale as WasStale}
use Rattle.station.specs.declared.answers.Claim.{Claim as ClaimAnswer}
use Rattle.station.specs.declared.answers.Claim.TheVariants.{Job as Claimed, Moved, NotOpen, Waiting}
use Rattle.station.specs.declared.job.Job.{Job}
use Rattle.station.specs.Claiming.{ClaimAnswers, Holds, IsJob}
use Rattle.station.specs.Laws.{AreTwo, IsNoFinish}
use Rattle.station.specs.Writeback.{FinishAnswers, IsCarried, IsDeliveryOf}
use Rattle.station.proofs.WalkStays.{all_append}
use Rattle.station.proofs.Splitting.{cut_back}
use Rattle.inorder.proofs.Recent.{old_since}
use Rattle.inorder.proofs.Renewing.{begins_again}
use Rattle.inorder.specs.declared.history.Speculation.TheVariants.{Confirm, Flush, Guess}

-- What a job says stays

-- a needed source that is delivered stays what it was
first_same : (k : Kind) (a b a' : Option ℕ) → ((v : ℕ) → a ≡ Some v → a' ≡ Some v) → missing_of k a b ≡ None → cond (needs k First) (unwrap_or a' 0) 0 ≡ cond (needs k First) (unwrap_or a 0) 0
first_same k None b a' f e = absurd (cc e)
first_same k (Some v) b a' f e = ap (λ z. cond (needs k First) (unwrap_or z 0) 0) (f v refl)

second_same : (k : Kind) (a b b' : Option ℕ) → ((v : ℕ) → b ≡ Some v → b' ≡ Some v) → missing_of k a b ≡ None → cond (needs k Second) (unwrap_or b' 0) 0 ≡ cond (needs k Second) (unwrap_or b 0) 0
second_same k None b b' g e = absurd (cc e)
second_same k (Some v) (Some w) b' g e = ap (λ z. cond (needs k Second) (unwrap_or z 0) 0) (g w refl)
second_same Computes (Some v) None b' g e = absurd (cc e)
second_same Jumps (Some v) None b' g e = absurd (cc e)
second_same Links (Some v) None b' g e = absurd (cc e)
second_same Loads (Some v) None b' g e = absurd (cc e)
second_same Stores (Some v) None b' g e = refl

pub fields_stay : (P : Program) (by : ℕ) (s : Step) (t t' : Tenant) → Goes by s t t' → IsReady P t → job_of P t' ≡ job_of P t
fields_stay P by s t t' m ready =
    let kind_same : kind_of P t' ≡ kind_of P t = ap (λ i. kind (instr_of P i).op) m.index in
    let first : needed P First t' ≡ needed P First t = ap (λ k. cond (needs k First) (operand_value t'.first) 0) kind_same ∙
    first_same (kind_of P t) t.first.value t.second.value t'.first.value (m.value First) ready in
    let second : needed P Second t' ≡ needed P Second t = ap (λ k. cond (needs k Second) (operand_value t'.second) 0) kind_same ∙
    second_same (kind_of P t) t.first.value t.second.value t'.second.value (m.value Second) ready in
    λ i. record { station = m.station i; tag = m.tag i; index = m.index i; half = m.half i; pc = m.pc i; predicted = m.predicted i; first = first i; second = second i }

-- no act but a finish ends it
held_by : (P : Program) (by id : ℕ) (act : Act) (ys : List Tenant) (t : Tenant) (ts : List Tenant) → act ≢ Finish → May P id act ys t ts → IsHeld by t → IsHeld by (changed P id act t ts)
held_by P by id (Link First) ys t ts n m h = record { fate = h.fate; stays = h.stays }
held_by P by id (Link Second) ys t ts n m h = record { fate = h.fate; stays = h.stays }
held_by P by id (Deliver First) ys t ts n m h = record { fate = h.fate; stays = h.stays }
held_by P by id (Deliver Second) ys t ts n m h = record { fate = h.fate; stays = h.stays }
held_by P by id Claim ys t ts n m h = let f = m.fate in let g = h.fate in absurd (cc (sym f ∙ g))
held_by P by id Finish ys t ts n m h = absurd (n refl)
held_by P by id Load ys t ts n m h = let f = m.fate in let g = h.fate in absurd (cc (sym f ∙ g))
held_by P by id (Retire r) ys t ts n m h = absurd (subst (CanRetire (kind_of P t) t.second.value) h.fate m.can)
held_by P by id Squash ys t ts n m h = record { fate = h.fate; stays = inr refl }
held_by P by id (Speculate (Guess v)) ys t ts n m h = absurd (subst CanGuess h.fate m.fate)
held_by P by id (Speculate Confirm) ys t ts n m h = let f = m.fate in let g = h.fate in absurd (cc (sym f ∙ g))
held_by P by id (Speculate Flush) ys t ts n m h = record { fate = h.fate; stays = inr refl }
held_by P by id Mend ys t ts n m h = let f = m.fate in let g = h.fate in absurd (cc (sym f ∙ g))

found : (x y : Tenant) → Some x ≡ Some y → x ≡ y
found x y e = cc e

module _ (P : Program) (C : Sizes) (by : ℕ) where
  abbrev IsHeldAs : JobFields → ℕ → UpdateUnit → Type 0
  IsHeldAs f p U = Has U p (IsJob P by f)

  -- an entry of the caller itself
  held_own : (p : ℕ) (U : UpdateUnit) (id : ℕ) (s : Step) → Allowed P C U id s → IsNoFinish p (Does s) → (t t' : Tenant) → at U.tenants p ≡ Some t → at (applied P C U id s).tenants p ≡ Some t' →
      IsHeld by t → IsHeld by t'
  held_own p U id (Let index predicted first second) a ne t t' is now held = subst (IsHeld by) (found t t' (sym (at_more (new_tenant P C U index predicted first second) U.tenants p t is)
      ∙ now)) held
  held_own p U id Renew a ne t t' is now held = subst (IsHeld by) (found t t' (sym is ∙ now)) held
  held_own p U id (On r act) a ne t t' is now held = ⊎_elim
      (λ (z : IsActed P U.tenants id r act a.tenant p t).
      subst (IsHeld by) (found (changed P id act a.tenant (older U.tenants r)) t' (sym z.now ∙ now))
      (held_by P by id act (younger U.tenants r) a.tenant (older U.tenants r) (λ fin. ne (λ i. Does (On (sym z.position i) (fin i)))) a.may (subst (IsHeld by) z.tenant held)))
      (λ (z : IsLeft P U.tenants id r act p t). subst (IsHeld by) (found t t' (sym z.now ∙ now)) held)
      (at_changed P U.tenants id r act a.tenant a.is p t is)

  job_step : (f : JobFields) (p : ℕ) (U : UpdateUnit) (id : ℕ) (s : Step) → IsSound P U.tenants → Allowed P C U id s → (id ≢ by) ⊎ IsNoFinish p (Does s) → IsHeldAs f p U →
      IsHeldAs f p (applied P C U id s)
  job_step f p U id s ok a ne j =
      let g = goes P C U id s a ok p j.tenant j.is in
      record {
        tenant = g.tenant;
        is = g.is;
        fact = record {
          held = ⊎_elim (λ other. g.goes.held by other j.fact.held) (λ none. held_own p U id s a none j.tenant g.tenant j.is g.is j.fact.held) ne;
          ready = ready_stays P id s j.tenant g.tenant g.goes j.fact.ready;
          fields_are = fields_stay P id s j.tenant g.tenant g.goes j.fact.ready ∙ j.fact.fields_are;
        };
      }

  -- What each entry is: another caller's, or no finish of tenant p
  abbrev IsNoEnd : ℕ → Entry → Type 0
  IsNoEnd p e = (e.by ≢ by) ⊎ IsNoFinish p e.event

  job_entry : (f : JobFields) (p : ℕ) (h : List Entry) (id : ℕ) (e : Event) → IsLegal P C h → MayAdd P C h id e → (id ≢ by) ⊎ IsNoFinish p e → IsHeldAs f p (unit_of P C h) →
      IsHeldAs f p (unit_of P C (entry id e ∷ h))
  job_entry f p h id (Does s) legal may ne j = job_step f p (unit_of P C h) id s (unit_sound P C h legal) may.1 ne j
  job_entry f p h id (Refuses r) legal may ne j = j
  job_entry f p h id (Marks m) legal may ne j = j

  job_lasts : (f : JobFields) (p : ℕ) (more seen : List Entry) → IsLegal P C (more ++ seen) → AllByRecursion (IsNoEnd p) more → IsHeldAs f p (unit_of P C seen) →
      IsHeldAs f p (unit_of P C (more ++ seen))
  job_lasts f p [] seen legal all j = j
  job_lasts f p (e ∷ more) seen legal all j = job_entry f p (more ++ seen) e.by e.event legal.0 legal.1 all.0 (job_lasts f p more seen legal.0 all.1 j)

  -- the caller's own entries are these events
  all_no_end : (p : ℕ) (more : List Entry) → AllByRecursion (λ e. IsNoFinish p e.event) (own by more) → AllByRecursion (IsNoEnd p) more
  all_no_end p [] h = tt
  all_no_end p (e ∷ more) h = go (eqb e.by by) refl (all_no_end p more) h
    where
      go : (b : Bool) → eqb e.by by ≡ b → (AllByRecursion (λ e. IsNoFinish p e.event) (own by more) → AllByRecursion (IsNoEnd p) more) →
          AllByRecursion (λ e. IsNoFinish p e.event) (cond b (e ∷ own by more) (own by more)) → AllByRecursion (IsNoEnd p) (e ∷ more)
      go true f rest a = (inr a.0, rest a.1)
      go false f rest a = (inl (λ same. apart (sym (eq-eqb e.by by same) ∙ f)), rest a)
        where
          apart : true ≡ false → ⊥
          apart e = cc e

  events_no_end : (p : ℕ) (es : List Event) → AllByRecursion (IsNoFinish p) es → AllByRecursion (λ e. IsNoFinish p e.event) (map (entry by) es)
  events_no_end p [] h = tt
  events_no_end p (e ∷ es) h = (h.0, events_no_end p es h.1)

  -- A held job stays held after calls that add no finish of it
  pub holds_on : (old new : List Entry) (es : List Event) (j : Job) (h : Holds P C by old j) → Adds P C by old new es → AllByRecursion (IsNoFinish h.p) es → Holds P C by new j
  holds_on old new es j h a none =
      let more : List Entry = a.begins.more in
      let these : own by more ≡ map (entry by) es = cut_back (own by more) (map (entry by) es) (own by old) (sym (own-append by more old) ∙ (ap (own by) (sym a.begins.is) ∙ a.mine)) in
      let all = all_no_end h.p more (subst (AllByRecursion (λ e. IsNoFinish h.p e.event)) (sym these) (events_no_end h.p es none)) in
      record {
        p = h.p;
        tenant = subst (λ z. IsHeldAs j h.p (unit_of P C z)) (sym a.begins.is) (job_lasts j h.p more old (subst (IsLegal P C) a.begins.is a.legal) all h.tenant);
        new = old_since P C new old a.begins a.legal a.one_table h.p ∙ h.new;
      }

  -- so after a look or a meeting
  pub holds_seen : (old new : List Entry) (j : Job) → Holds P C by old j → Adds P C by old new [] → Holds P C by new j
  holds_seen old new j h a = holds_on old new [] j h a tt

  -- after another claim
  pub holds_claimed : (old new : List Entry) (s : ℕ) (answer : ClaimAnswer) (j : Job) → Holds P C by old j → ClaimAnswers P C by old new s answer → Holds P C by new j
  holds_claimed old new s (Claimed i) j h a = holds_on old new _ j h a.adds ((λ e. cc e), tt)
  holds_claimed old new s NotOpen j h a = holds_on old new _ j h a ((λ e. cc e), tt)
  holds_claimed old new s (Waiting g k) j h a = holds_on old new _ j h a.adds ((λ e. cc e), tt)
  holds_claimed old new s (Moved g) j h a = holds_on old new _ j h a.adds ((λ e. cc e), tt)

  -- and after the finish of another job

  -- two tenants, of two stations or with two tags, stand apart
  apart_from : (h : List Entry) (p q : ℕ) (t u : Tenant) → at (unit_of P C h).tenants p ≡ Some t → at (unit_of P C h).tenants q ≡ Some u → (t.station ≢ u.station) ⊎ (t.tag ≢ u.tag) → q ≢ p
  apart_from h p q t u at_p at_q ne same =
      let one : t ≡ u = found t u (sym at_p ∙ (ap (at (unit_of P C h).tenants) (sym same) ∙ at_q)) in
      ⊎_elim (λ n. n (ap (λ (z : Tenant). z.station) one)) (λ n. n (ap (λ (z : Tenant). z.tag) one)) ne

  delivers_none : (seen : List Entry) (p q : ℕ) (es : List Event) → AllByRecursion (IsDeliveryOf P C seen q) es → AllByRecursion (IsNoFinish p) es
  delivers_none seen p q [] all = tt
  delivers_none seen p q (e ∷ es) all = (subst (IsNoFinish p) (sym all.0.is) (λ x. cc x), delivers_none seen p q es all.1)

  carried_none : (seen : List Entry) (p q : ℕ) (o : Outcome) (es : List Event) → IsCarried P C seen q o es → AllByRecursion (IsNoFinish p) es
  carried_none seen p q (Value v) es w = subst (AllByRecursion (IsNoFinish p)) (sym w.is) ((λ x. cc x), delivers_none seen p q w.deliveries w.each)
  carried_none seen p q (Pair l h) es none = subst (AllByRecursion (IsNoFinish p)) (sym none) tt
  carried_none seen p q (Next x) es none = subst (AllByRecursion (IsNoFinish p)) (sym none) tt
  carried_none seen p q (Address x) es none = subst (AllByRecursion (IsNoFinish p)) (sym none) tt
  carried_none seen p q (Stops x) es none = subst (AllByRecursion (IsNoFinish p)) (sym none) tt

  pub holds_finished : (old new : List Entry) (done : Job) (answer : FinishAnswer) (j : Job) → Holds P C by old j → AreTwo j done → FinishAnswers P C by old new done answer → Holds P C by new j
  holds_finished old new done Finished j h other a =
      let f = h.tenant.fact.fields_are in
      let at_new = goes_to old new a.adds.begins.more a.adds.begins.is a.adds.legal h.p h.tenant.tenant h.tenant.is in
      let ne : a.p ≢ h.p = apart_from new h.p a.p at_new.tenant a.named.tenant at_new.is a.named.is (⊎_elim
      (λ n. inl (λ e. n (sym (ap (λ (z : JobFields). z.station) f) ∙ (sym at_new.fact.0 ∙ (e ∙ a.named.station_is)))))
      (λ n. inr (λ e. n (sym (ap (λ (z : JobFields). z.tag) f) ∙ (sym at_new.fact.1 ∙ (e ∙ a.named.tag_is)))))
      other) in
      holds_on old new (a.behind ++ Does (On a.p Finish) ∷ []) j h a.adds
      (all_append (IsNoFinish h.p) a.behind (Does (On a.p Finish) ∷ []) (carried_none new h.p a.p _ a.behind a.carried) ((λ x. ne (same_position a.p h.p x)), tt))
    where
      same_position : (p q : ℕ) → Does (On p Finish) ≡ Does (On q Finish) → p ≡ q
      same_position p q e = cc e

      goes_to : (old new more : List Entry) → new ≡ more ++ old → IsLegal P C new → (p : ℕ) (t : Tenant) → at (unit_of P C old).tenants p ≡ Some t →
          Has (unit_of P C new) p (λ u. (u.station ≡ t.station) × (u.tag ≡ t.tag))
      goes_to old new more is legal p t at_p = subst (λ z. Has (unit_of P C z) p (λ u. (u.station ≡ t.station) × (u.tag ≡ t.tag))) (sym is)
          (unit_lasts P C (λ U. Has U p (λ u. (u.station ≡ t.station) × (u.tag ≡ t.tag)))
          (λ U b s a ok x. let g = goes P C U b s a ok p x.tenant x.is in record { tenant = g.tenant; is = g.is; fact = (g.goes.station ∙ x.fact.0, g.goes.tag ∙ x.fact.1) })
          more old (subst (IsLegal P C) is legal) (record { tenant = t; is = at_p; fact = (refl, refl) }))
  holds_finished old new done WasStale j h other a = holds_on old new _ j h a.adds ((λ e. cc e), tt)

-- After a renewal nobody holds a job
pub none_held : (P : Program) (C : Sizes) (by : ℕ) (seen : List Entry) (j : Job) → ¬ Holds P C by (entry front (Does Renew) ∷ seen) j
none_held P C by seen j h =
    let U = unit_of P C seen in
    let below = at_below U.tenants h.p h.tenant.tenant h.tenant.is in
    let old = (begins_again P C U front).before h.p below in
    no_both (sym old ∙ h.new)
  where
    no_both : true ≡ false → ⊥
    no_both e = cc e
