-- A claimed tenant is live until it is finished, and then has the outcome of its job.
use Rattle.std.proofs.Common.{◌≡◌, ℕ, List, [], ◌∷◌, ◌++◌, length, Some, refl, sym, ap, ◌∙◌, subst, ⊎_elim, arith, append_assoc, length-append}
use Rattle.std.proofs.lemmas.Option.{same_Some}
use Rattle.instructions.specs.Programs.{Program}
use Rattle.instructions.specs.declared.stop.Outcome.{Outcome}
use Rattle.instructions.specs.declared.stop.Outcome.TheVariants.{Address, Next, Pair, Stop as Stops, Value}
use Rattle.inorder.specs.declared.history.Act.TheVariants.{Claim, Finish}
use Rattle.inorder.specs.declared.history.Entry.{Entry}
use Rattle.inorder.specs.declared.history.Event.{Event}
use Rattle.inorder.specs.declared.history.Event.TheVariants.{Does, Refuses}
use Rattle.inorder.specs.declared.history.Refusal.TheVariants.{Stale as IsStaleNow}
use Rattle.inorder.specs.declared.history.Step.TheVariants.{On}
use Rattle.inorder.specs.History.{IsLegal, back, entry, front, own, unit_of}
use Rattle.instructions.specs.Histories.{StartsWith}
use Rattle.inorder.specs.OneHistory.{Adds}
use Rattle.inorder.specs.Legal.{Allowed, applied, changed}
use Rattle.inorder.specs.Replies.{Has, JobFields}
use Rattle.inorder.specs.Steps.{finished}
use Rattle.inorder.specs.Tenants.{Live, Tenant, computed}
use Rattle.inorder.specs.Unit.{Sizes, at, older}
use Rattle.inorder.proofs.Histories.{legal_before, no_length, none_from, own-append, own_none, unit_sound}
use Rattle.inorder.proofs.Moves.{IsActed, IsLeft, at_changed, goes}
use Rattle.ruu_words.specs.Kinds.{IsTenant}
use Rattle.ruu_words.proofs.StationWords.{one_at, one_tag}
use Rattle.station.specs.declared.answers.Finish.{Finish as Answer}
use Rattle.station.specs.declared.answers.Finish.TheVariants.{Finished, Stale}
use Rattle.station.specs.declared.job.Job.{Job}
use Rattle.station.specs.Claiming.{Holds, IsClaimed}
use Rattle.station.specs.Finishing.{ClaimedAreInFlight, HasFinished, HasOutcome, IsInFlight, IsLive, JobsAreFinished, JobsStayInFlight, OnlyUnits}
use Rattle.station.specs.Writeback.{FinishAnswers, HasTenant, IsWritten, WasStale, job_outcome}
use Rattle.station.proofs.Holding.{holds_seen}
use Rattle.station.proofs.Splitting.{LastEvent, last_event}
use Rattle.station.proofs.FinishWrites.{is_job}
use Rattle.inorder.proofs.Recent.{old_kept, old_since, live_is_recent}
use Rattle.station.proofs.UnitsAlone.{AreUnits, any_to, kept_to, live_kept, outcome_kept, units_behind}

-- The outcome that a finish writes
has_outcome : (t : Tenant) (o : Outcome) → IsLive t → HasOutcome o (finished t o)
has_outcome t (Value v) l = record { live = l; fate = refl; made = λ w e. same w e }
  where
    same : (w : ℕ) → Value v ≡ Value w → Some v ≡ Some w
    same w e = cc e
has_outcome t (Next x) l = record { live = l; fate = refl; made = λ w e. absurd (cc e) }
has_outcome t (Address a) l = record { live = l; fate = refl; made = λ w e. absurd (cc e) }
has_outcome t (Stops c) l = record { live = l; fate = refl; made = λ w e. absurd (cc e) }
has_outcome t (Pair low high) l = record { live = l; fate = refl; made = λ w e. absurd (cc e) }

module _ (P : Program) (C : Sizes) where
  -- the entry of the call, and those after it
  with_entry : (by : ℕ) (new after point : List Entry) (e : Event) → new ≡ after ++ entry by e ∷ point → new ≡ (after ++ entry by e ∷ []) ++ point
  with_entry by new after point e is = is ∙ sym (append_assoc after (entry by e ∷ []) point)

  -- A claimed tenant is live

  claimed_live : (by : ℕ) (old new : List Entry) (s : ℕ) (j : Job) → OnlyUnits old new → IsClaimed P C by old new s j → IsInFlight P C new j
  claimed_live by old new s j only a =
      let q : ℕ = a.holds.p in
      let e : Event = Does (On q Claim) in
      let l = last_event P C by old new e [] a.adds in
      let legal_e : IsLegal P C (entry by e ∷ l.point) = legal_before P C l.after (entry by e ∷ l.point) l.legal in
      let may = legal_e.1 in
      let u : Tenant = may.1.tenant in
      let more : List Entry = l.after ++ entry by e ∷ [] in
      let is : new ≡ more ++ l.point = with_entry by new l.after l.point e l.is in
      let all : AreUnits more = units_behind old new more l.point l.before.begins.more is l.before.begins.is only in
      let was : IsTenant (unit_of P C l.point) q u.station u.tag IsLive = record {
        tenant = u;
        is = may.1.is;
        new = live_is_recent P C l.point legal_e.0 q u may.1.is may.1.may.live;
        station_is = refl;
        tag_is = refl;
        fact = may.1.may.live;
      } in
      let now = kept_to P C IsLive live_kept q u.station u.tag more l.point new is a.adds.legal all was in
      let held = a.holds.tenant in
      let same : now.tenant ≡ held.tenant = one_at P C new a.adds.legal q now.tenant held.tenant now.is held.is in
      let f = held.fact.fields_are in
      record {
        p = q;
        named = record {
          tenant = now.tenant;
          is = now.is;
          new = now.new;
          station_is = ap (λ (z : Tenant). z.station) same ∙ ap (λ (z : JobFields). z.station) f;
          tag_is = ap (λ (z : Tenant). z.tag) same ∙ ap (λ (z : JobFields). z.tag) f;
          fact = now.fact;
        };
      }

  -- The first event of a call
  record FirstEvent (by : ℕ) (old new : List Entry) (e : Event) : Type 0 where
    pub point : List Entry
    pub more : List Entry
    pub is : new ≡ (more ++ entry by e ∷ []) ++ point
    pub behind : new ≡ more ++ entry by e ∷ point
    pub before : Adds P C by old point []

  first_event : (by : ℕ) (old new : List Entry) (es : List Event) (e : Event) → Adds P C by old new (es ++ e ∷ []) → FirstEvent by old new e
  first_event by old new [] e a =
      let l = last_event P C by old new e [] a in
      record { point = l.point; more = l.after; is = with_entry by new l.after l.point e l.is; behind = l.is; before = l.before }
  first_event by old new (x ∷ es) e a =
      let l = last_event P C by old new x (es ++ e ∷ []) a in
      let f = first_event by old l.point es e l.before in
      let more : List Entry = (l.after ++ entry by x ∷ []) ++ f.more in
      let is : new ≡ more ++ entry by e ∷ f.point = with_entry by new l.after l.point x l.is ∙ (ap (λ z. (l.after ++ entry by x ∷ []) ++ z) f.behind ∙
      sym (append_assoc (l.after ++ entry by x ∷ []) f.more (entry by e ∷ f.point))) in
      record { point = f.point; more = more; is = with_entry by new more f.point e is; behind = is; before = f.before }

  -- A finish is in time

  module _ (by : ℕ) (old new : List Entry) (j : Job) (only : OnlyUnits old new) (holds : Holds P C by old j) where
    -- the tenant at the moment of the finish
    written : (a : IsWritten P C by old new j.station j.tag Finish (λ p. Rattle.station.specs.Writeback.IsCarried P C new p (job_outcome P j))) →
        HasTenant P C new j.station j.tag (HasOutcome (job_outcome P j))
    written a =
        let p : ℕ = a.p in
        let e : Event = Does (On p Finish) in
        let f = first_event by old new a.behind e a.adds in
        let point : List Entry = f.point in
        let legal_new : IsLegal P C new = a.adds.legal in
        let legal_e : IsLegal P C (entry by e ∷ point) = legal_before P C f.more (entry by e ∷ point) (subst (IsLegal P C) f.behind legal_new) in
        let may = legal_e.1 in
        let t : Tenant = may.1.tenant in
        let at_p : at (unit_of P C point).tenants p ≡ Some t = may.1.is in
        let new_p = live_is_recent P C point legal_e.0 p t at_p may.1.may.live in
        let later = any_to P C p t (f.more ++ entry by e ∷ []) point new f.is legal_new at_p in
        let same : later.tenant ≡ a.named.tenant = one_at P C new legal_new p later.tenant a.named.tenant later.is a.named.is in
        let station_is : t.station ≡ j.station = sym later.fact.0 ∙ (ap (λ (z : Tenant). z.station) same ∙ a.named.station_is) in
        let tag_is : t.tag ≡ j.tag = sym later.fact.1 ∙ (ap (λ (z : Tenant). z.tag) same ∙ a.named.tag_is) in
        let h = holds_seen P C by old point j holds f.before in
        let u : Tenant = h.tenant.tenant in
        let fields = h.tenant.fact.fields_are in
        let here : h.p ≡ p = one_tag P C point legal_e.0 h.p p u t h.tenant.is at_p h.new new_p
        (ap (λ (z : JobFields). z.station) fields ∙ sym station_is) (ap (λ (z : JobFields). z.tag) fields ∙ sym tag_is) in
        let one : u ≡ t = same_Some u t (sym h.tenant.is ∙ (ap (at (unit_of P C point).tenants) here ∙ at_p)) in
        let o : Outcome = job_outcome P j in
        let comes : computed P t ≡ o = ap (computed P) (sym one) ∙ (is_job P by j o u h.tenant.fact refl).computes in
        let has : HasOutcome o (finished t (computed P t)) = subst (λ z. HasOutcome o (finished t z)) (sym comes) (has_outcome t o may.1.may.live) in
        let m = goes P C (unit_of P C point) by (On p Finish) may.1 (unit_sound P C point legal_e.0) p t at_p in
        let after : IsTenant (unit_of P C (entry by e ∷ point)) p j.station j.tag (HasOutcome o) = record {
          tenant = m.tenant;
          is = m.is;
          new = old_kept P C (unit_of P C point) by (On p Finish) (λ x. cc x) may.1 p ∙ new_p;
          station_is = m.goes.station ∙ station_is;
          tag_is = m.goes.tag ∙ tag_is;
          fact = acted p point t m.tenant at_p may.1 m.is has;
        } in
        let all : AreUnits (f.more ++ entry by e ∷ []) = units_behind old new (f.more ++ entry by e ∷ []) point f.before.begins.more f.is f.before.begins.is only in
        record { p = p; named = kept_to P C (HasOutcome o) (outcome_kept o) p j.station j.tag f.more (entry by e ∷ point) new f.behind legal_new (front_part f.more (entry by e ∷ []) all) after }
      where
        front_part : (xs ys : List Entry) → AreUnits (xs ++ ys) → AreUnits xs
        front_part [] ys all = tt
        front_part (x ∷ xs) ys all = (all.0, front_part xs ys all.1)

        acted : (p : ℕ) (point : List Entry) (t t' : Tenant) → at (unit_of P C point).tenants p ≡ Some t → (a : Allowed P C (unit_of P C point) by (On p Finish)) →
            at (applied P C (unit_of P C point) by (On p Finish)).tenants p ≡ Some t' → HasOutcome (job_outcome P j) (finished t (computed P t)) → HasOutcome (job_outcome P j) t'
        acted p point t t' is a now has =
            let us = (unit_of P C point).tenants in
            ⊎_elim
            (λ (z : IsActed P us by p Finish a.tenant p t).
            subst (HasOutcome (job_outcome P j)) (same_Some (changed P by Finish a.tenant (older us p)) t' (sym z.now ∙ now))
            (subst (λ x. HasOutcome (job_outcome P j) (finished x (computed P x))) z.tenant has))
            (λ (z : IsLeft P us by p Finish p t). absurd (z.position refl))
            (at_changed P us by p Finish a.tenant a.is p t is)

    -- a live tenant is not told to be stale
    not_stale : IsInFlight P C old j → WasStale P C by old new j.station j.tag → ⊥
    not_stale live a =
        let e : Event = Refuses (IsStaleNow a.p) in
        let l = last_event P C by old new e [] a.adds in
        let rest : List Entry = l.before.begins.more in
        let legal_e : IsLegal P C (entry by e ∷ l.point) = legal_before P C l.after (entry by e ∷ l.point) l.legal in
        let stale : Has (unit_of P C l.point) a.p Rattle.inorder.specs.Replies.IsSquashed = legal_e.1.1 in
        let t : Tenant = stale.tenant in
        let whole : StartsWith new l.point = record { more = l.after ++ entry by e ∷ []; is = with_entry by new l.after l.point e l.is } in
        let new_p = sym (old_since P C new l.point whole a.adds.legal (none_from new l.point old whole l.before.begins a.adds.one_table) a.p) ∙ a.named.new in
        let later = any_to P C a.p t (l.after ++ entry by e ∷ []) l.point new (with_entry by new l.after l.point e l.is) a.adds.legal stale.is in
        let same : later.tenant ≡ a.named.tenant = one_at P C new a.adds.legal a.p later.tenant a.named.tenant later.is a.named.is in
        let i = live.named in
        let all : AreUnits rest = units_behind old l.point rest old [] l.before.begins.is refl (until l) in
        let now = kept_to P C IsLive live_kept live.p j.station j.tag rest old l.point l.before.begins.is legal_e.0 all i in
        let here : live.p ≡ a.p = one_tag P C l.point legal_e.0 live.p a.p now.tenant t now.is stale.is now.new new_p
        (now.station_is ∙ sym (sym later.fact.0 ∙ (ap (λ (z : Tenant). z.station) same ∙ a.named.station_is)))
        (now.tag_is ∙ sym (sym later.fact.1 ∙ (ap (λ (z : Tenant). z.tag) same ∙ a.named.tag_is))) in
        let one : now.tenant ≡ t = same_Some now.tenant t (sym now.is ∙ (ap (at (unit_of P C l.point).tenants) here ∙ stale.is)) in
        apart (sym now.fact ∙ (ap (λ (z : Tenant). z.standing) one ∙ stale.fact))
      where
        apart : Live ≡ Rattle.inorder.specs.Tenants.Squashed → ⊥
        apart e = cc e

        -- up to a point of it too
        until : {e : Event} {es : List Event} → (l : LastEvent P C by old new e es) → OnlyUnits old l.point
        until {e} l = record { fronts = same front only.fronts; backs = same back only.backs }
          where
            same : (n : ℕ) → own n new ≡ own n old → own n l.point ≡ own n old
            same n q =
                let rest : List Entry = l.before.begins.more in
                let whole : new ≡ (l.after ++ entry by e ∷ []) ++ l.point = with_entry by new l.after l.point e l.is in
                let long : new ≡ ((l.after ++ entry by e ∷ []) ++ rest) ++ old = whole ∙ (ap (λ z. (l.after ++ entry by e ∷ []) ++ z) l.before.begins.is ∙
                sym (append_assoc (l.after ++ entry by e ∷ []) rest old)) in
                let none : own n ((l.after ++ entry by e ∷ []) ++ rest) ≡ [] = own_none n ((l.after ++ entry by e ∷ []) ++ rest) old (ap (own n) (sym long) ∙ q) in
                let parts = own-append n (l.after ++ entry by e ∷ []) rest in
                let a = ap (λ z. length z) (sym parts ∙ none) in
                let b = length-append (own n (l.after ++ entry by e ∷ [])) (own n rest) in
                let mine : own n rest ≡ [] = no_length (own n rest) (omega arith) in
                ap (own n) l.before.begins.is ∙ (own-append n rest old ∙ ap (λ z. z ++ own n old) mine)

    finish_in_time : (answer : Answer) → IsInFlight P C old j → FinishAnswers P C by old new j answer → HasFinished P C new j answer
    finish_in_time Finished live a = record { is = refl; tenant = written a }
    finish_in_time Stale live a = absurd (not_stale live a)

pub claimed_are_in_flight : ClaimedAreInFlight
claimed_are_in_flight P C by old new s j only a = claimed_live P C by old new s j only a

pub jobs_stay_in_flight : JobsStayInFlight
jobs_stay_in_flight P C old new j begins legal only live =
    let more : List Entry = begins.more in
    record { p = live.p; named = kept_to P C IsLive live_kept live.p j.station j.tag more old new begins.is legal (units_behind old new more old [] begins.is refl only) live.named }

pub jobs_are_finished : JobsAreFinished
jobs_are_finished P C by old new j answer only holds live a = finish_in_time P C by old new j only holds answer live a
