-- Each call of a unit and of the back has an answer.
use Rattle.std.proofs.Common.{◌≡◌, ◌≢◌, ◌⊎◌, ℕ, ◌<◌, ◌≤◌, ◌^◌, List, [], ◌∷◌, length, Option, Some, None, refl, sym, ap, ◌∙◌, subst, inl, inr, ⊎_elim, arith}
use mathlib.Core.Logic.{dite}
use native.Mathlib.Decide.{ℕ_discrete}
use Rattle.std.proofs.lemmas.Bool.{cases_lt}
use Rattle.std.specs.List.{AllByRecursion}
use Rattle.instructions.specs.Programs.{Program}
use Rattle.instructions.specs.declared.op.Kind.{Kind}
use Rattle.instructions.specs.declared.op.Kind.TheVariants.{Computes, Jumps, Links, Loads, Stores}
use Rattle.instructions.specs.declared.stop.Stop.{Stop}
use Rattle.inorder.specs.declared.history.Act.TheVariants.{Claim, Finish}
use Rattle.inorder.specs.declared.history.Entry.{Entry}
use Rattle.inorder.specs.declared.history.Event.TheVariants.{Does, Refuses}
use Rattle.inorder.specs.declared.history.Refusal.TheVariants.{Empty, NotDone, Over, Stale, Waiting}
use Rattle.inorder.specs.declared.history.Source.{Source}
use Rattle.inorder.specs.declared.history.Step.TheVariants.{On}
use Rattle.inorder.specs.Answered.{ClaimIsAnswered, FinishIsAnswered, MayRetireOne, RetirementIsAnswered}
use Rattle.inorder.specs.History.{IsLegal, IsUnit, IsUnitOrBack, MayAdd, back, taken_of, unit_of}
use Rattle.inorder.specs.Replies.{IsOpen, IsRetiredStop}
use Rattle.inorder.specs.Steps.{CanRetire, IsNoRetiredStop}
use Rattle.inorder.specs.Tenants.{Addr, Busy, Done, Fate, Guessed, IsNotLive, Live, Miss, Open, Retired, Squashed, Standing, Stopped, Tenant, kind_of, missing, stands_on_path}
use Rattle.inorder.specs.Unit.{Sizes, at, older, younger}
use Rattle.inorder.proofs.Basics.{split_at}
use Rattle.inorder.proofs.Runs.Examples.{less}
use Rattle.inorder.proofs.Theorem.Forbidden.{same_tenant, stop_ends}
use Rattle.inorder.proofs.Grows.{sound_mid}
use Rattle.inorder.proofs.Heads.{Oldest, find_oldest}
use Rattle.inorder.proofs.Histories.{allowed_steps, unit_sound}
use Rattle.instructions.proofs.Histories.{starts_same}
use Rattle.inorder.proofs.Positions.{all_at, at_below, at_more, at_new, older_at, older_from}
use Rattle.inorder.proofs.Sound.{IsSound, IsSoundAt}

standing_cases : (s : Standing) → (s ≡ Live) ⊎ (s ≡ Retired) ⊎ (s ≡ Squashed)
standing_cases Live = inl refl
standing_cases Retired = inr (inl refl)
standing_cases Squashed = inr (inr refl)

unit_or_back : (by : ℕ) → IsUnit by → IsUnitOrBack by
unit_or_back by h = omega arith

-- The tenants, same_tenant after another

-- an open tenant of a station, or none
pub record OpenAt (ts : List Tenant) (s : ℕ) : Type 0 where
  pub p : ℕ
  pub tenant : Tenant
  pub is : at ts p ≡ Some tenant
  pub station : tenant.station ≡ s
  pub opened : IsOpen tenant

abbrev IsNoneOf : ℕ → Tenant → Type 0
IsNoneOf s t = t.station ≡ s → ¬ IsOpen t

open_or_not : (t : Tenant) → IsOpen t ⊎ (¬ IsOpen t)
open_or_not t = go t.standing t.fate refl refl
  where
    not_live : (s : Standing) → t.standing ≡ s → s ≢ Live → IsOpen t ⊎ (¬ IsOpen t)
    not_live s e ne = inr (λ o. ne (sym e ∙ o.live))

    not_open : (f : Fate) → t.fate ≡ f → f ≢ Open → IsOpen t ⊎ (¬ IsOpen t)
    not_open f e ne = inr (λ o. ne (sym e ∙ o.fate))

    go : (s : Standing) (f : Fate) → t.standing ≡ s → t.fate ≡ f → IsOpen t ⊎ (¬ IsOpen t)
    go Retired f e g = not_live Retired e (λ x. cc x)
    go Squashed f e g = not_live Squashed e (λ x. cc x)
    go Live Open e g = inl (record { live = e; fate = g })
    go Live (Busy by) e g = not_open (Busy by) g (λ x. cc x)
    go Live (Addr a) e g = not_open (Addr a) g (λ x. cc x)
    go Live (Done v) e g = not_open (Done v) g (λ x. cc x)
    go Live (Guessed x) e g = not_open (Guessed x) g (λ x. cc x)
    go Live (Miss x) e g = not_open (Miss x) g (λ x. cc x)
    go Live (Stopped c) e g = not_open (Stopped c) g (λ x. cc x)

find_open : (ts : List Tenant) (s : ℕ) → OpenAt ts s ⊎ AllByRecursion (IsNoneOf s) ts
find_open [] s = inr tt
find_open (t ∷ ts) s = ⊎_elim
    (λ (o : OpenAt ts s). inl (record { p = o.p; tenant = o.tenant; is = at_more t ts o.p o.tenant o.is; station = o.station; opened = o.opened }))
    (λ (none : AllByRecursion (IsNoneOf s) ts). dite (ℕ_discrete t.station s)
    (λ e. ⊎_elim
    (λ (o : IsOpen t). inl (record { p = length ts; tenant = t; is = at_new t ts; station = e; opened = o }))
    (λ (not : ¬ IsOpen t). inr ((λ same. not), none))
    (open_or_not t))
    (λ ne. inr ((λ same. absurd (ne same)), none)))
    (find_open ts s)

-- a stop that has retired, or none
pub record StopAt (ts : List Tenant) : Type 0 where
  pub p : ℕ
  pub tenant : Tenant
  pub is : at ts p ≡ Some tenant
  pub stop : IsRetiredStop tenant

stop_or_not : (t : Tenant) → IsRetiredStop t ⊎ IsNoRetiredStop t
stop_or_not t = go t.standing t.fate refl refl
  where
    stays : (s : Standing) → t.standing ≡ s → s ≢ Retired → IsRetiredStop t ⊎ IsNoRetiredStop t
    stays s e ne = inr (λ gone. absurd (ne (sym e ∙ gone)))

    goes_on : (f : Fate) → t.fate ≡ f → ((c : Stop) → f ≢ Stopped c) → IsRetiredStop t ⊎ IsNoRetiredStop t
    goes_on f e ne = inr (λ gone c g. ne c (sym e ∙ g))

    go : (s : Standing) (f : Fate) → t.standing ≡ s → t.fate ≡ f → IsRetiredStop t ⊎ IsNoRetiredStop t
    go Live f e g = stays Live e (λ x. cc x)
    go Squashed f e g = stays Squashed e (λ x. cc x)
    go Retired Open e g = goes_on Open g (λ c x. cc x)
    go Retired (Busy by) e g = goes_on (Busy by) g (λ c x. cc x)
    go Retired (Addr a) e g = goes_on (Addr a) g (λ c x. cc x)
    go Retired (Done v) e g = goes_on (Done v) g (λ c x. cc x)
    go Retired (Guessed x) e g = goes_on (Guessed x) g (λ c x. cc x)
    go Retired (Miss x) e g = goes_on (Miss x) g (λ c x. cc x)
    go Retired (Stopped c) e g = inl (record { code = c; standing = e; fate = g })

pub find_stop : (ts : List Tenant) → StopAt ts ⊎ AllByRecursion IsNoRetiredStop ts
find_stop [] = inr tt
find_stop (t ∷ ts) = ⊎_elim
    (λ (s : StopAt ts). inl (record { p = s.p; tenant = s.tenant; is = at_more t ts s.p s.tenant s.is; stop = s.stop }))
    (λ (none : AllByRecursion IsNoRetiredStop ts). ⊎_elim
    (λ (s : IsRetiredStop t). inl (record { p = length ts; tenant = t; is = at_new t ts; stop = s }))
    (λ (not : IsNoRetiredStop t). inr (not, none))
    (stop_or_not t))
    (find_stop ts)

-- whether a tenant can retire
can_or_not : (k : Kind) (second : Option ℕ) (f : Fate) → CanRetire k second f ⊎ (¬ CanRetire k second f)
can_or_not k second Open = inr (λ c. c)
can_or_not k second (Busy by) = inr (λ c. c)
can_or_not k second (Guessed x) = inr (λ c. c)
can_or_not k second (Miss x) = inr (λ c. c)
can_or_not k second (Done v) = inl tt
can_or_not k second (Stopped c) = inl tt
can_or_not Stores (Some v) (Addr a) = inl (refl, (v, refl))
can_or_not Stores None (Addr a) = inr (λ c. let there = c.1.1 in cc there)
can_or_not Computes second (Addr a) = inr (λ c. let e = c.0 in cc e)
can_or_not Jumps second (Addr a) = inr (λ c. let e = c.0 in cc e)
can_or_not Links second (Addr a) = inr (λ c. let e = c.0 in cc e)
can_or_not Loads second (Addr a) = inr (λ c. let e = c.0 in cc e)

-- a claimed tenant has not retired
busy_stays : (P : Program) (ts : List Tenant) (p by : ℕ) (t : Tenant) → IsSound P ts → at ts p ≡ Some t → t.fate ≡ Busy by → t.standing ≢ Retired
busy_stays P ts p by t sound is busy gone =
    let own : IsSoundAt P (older ts p) t = sound_mid P t (older ts p) (younger ts p) (subst (IsSound P) (split_at ts p t is) sound) in
    let can : CanRetire (kind_of P t) t.second.value t.fate = (own.placed (ap stands_on_path gone)).can gone in
    subst (CanRetire (kind_of P t) t.second.value) busy can

module _ (P : Program) (C : Sizes) where
  pub finish_is_answered : (h : List Entry) → FinishIsAnswered P C h
  finish_is_answered h by p t unit legal is busy = go (standing_cases t.standing)
    where
      go : (t.standing ≡ Live) ⊎ (t.standing ≡ Retired) ⊎ (t.standing ≡ Squashed) → MayAdd P C h by (Does (On p Finish)) ⊎ MayAdd P C h by (Refuses (Stale p))
      go (inl live) = inl (unit, record { tenant = t; is = is; may = record { live = live; fate = busy } })
      go (inr (inl gone)) = absurd (busy_stays P (unit_of P C h).tenants p by t (unit_sound P C h legal) is busy gone)
      go (inr (inr gone)) = inr (unit_or_back by unit, record { tenant = t; is = is; fact = gone })

  pub claim_is_answered : (h : List Entry) → ClaimIsAnswered P C h
  claim_is_answered h by s unit legal = ⊎_elim
      (λ (o : OpenAt ts s). inr (record { p = o.p; tenant = o.tenant; is = o.is; station = o.station; answer = go o (missing P o.tenant) refl }))
      (λ (none : AllByRecursion (IsNoneOf s) ts). inl (unit, λ p t is at_s. all_at (IsNoneOf s) ts none p t is at_s))
      (find_open ts s)
    where
      ts : List Tenant
      ts = (unit_of P C h).tenants

      go : (o : OpenAt ts s) (k : Option Source) → missing P o.tenant ≡ k → MayAdd P C h by (Does (On o.p Claim)) ⊎ ((k : Source) × MayAdd P C h by (Refuses (Waiting o.p k)))
      go o None e = inl (unit, record { tenant = o.tenant; is = o.is; may = record { live = o.opened.live; fate = o.opened.fate; needs = e } })
      go o (Some k) e = inr (
        k,
        (
          unit,
          record { point = h; starts = starts_same h; opened = record { tenant = o.tenant; is = o.is; fact = o.opened } },
          record { tenant = o.tenant; is = o.is; fact = e },
        ),
      )

  module _ (h : List Entry) where
    abbrev ts : List Tenant
    ts = (unit_of P C h).tenants

    -- there is same_tenant oldest live tenant
    same_oldest : (p q : ℕ) (t u : Tenant) → at ts p ≡ Some t → at ts q ≡ Some u → t.standing ≡ Live → u.standing ≡ Live →
        AllByRecursion IsNotLive (older ts p) → AllByRecursion IsNotLive (older ts q) → q ≡ p
    same_oldest p q t u is at_q live live_q oldest oldest_q = ⊎_elim
        (λ (lt : p < q). absurd (older_at IsNotLive ts q (at_below ts q u at_q) oldest_q p t lt is live))
        (λ (le : q ≤ p). dite (ℕ_discrete q p) (λ e. e)
        (λ ne. let gt : q < p = omega arith in absurd (older_at IsNotLive ts p (at_below ts p t is) oldest q u gt at_q live_q)))
        (cases_lt p q)

    not_done_stays : MayAdd P C h back (Refuses NotDone) → ¬ MayRetireOne P C h
    not_done_stays n r =
        let a = r.1.1 in
        let same = same_oldest n.1.p r.0 n.1.tenant a.tenant n.1.is a.is n.1.live a.may.live n.1.oldest a.may.oldest in
        let both : a.tenant ≡ n.1.tenant = same_tenant ts r.0 a.tenant n.1.tenant a.is (subst (λ q. at ts q ≡ Some n.1.tenant) (sym same) n.1.is) in
        n.1.stays (subst (λ (t : Tenant). CanRetire (kind_of P t) t.second.value t.fate) both a.may.can)

    empty_retires_not : MayAdd P C h back (Refuses Empty) → ¬ MayRetireOne P C h
    empty_retires_not e r = let a = r.1.1 in all_at IsNotLive ts e.1.none r.0 a.tenant a.is a.may.live

    empty_is_done : MayAdd P C h back (Refuses Empty) → ¬ MayAdd P C h back (Refuses NotDone)
    empty_is_done e n = all_at IsNotLive ts e.1.none n.1.p n.1.tenant n.1.is n.1.live

    goes_on_not_over : MayAdd P C h back (Refuses Over) → ¬ AllByRecursion IsNoRetiredStop ts
    goes_on_not_over o g =
        let stop = o.1.stop in
        all_at IsNoRetiredStop ts g o.1.p stop.tenant stop.is stop.fact.standing stop.fact.code stop.fact.fate

    over_retires_not : IsLegal P C h → MayAdd P C h back (Refuses Over) → ¬ MayRetireOne P C h
    over_retires_not legal o r =
        let stop = o.1.stop in
        stop_ends P C (taken_of h) (allowed_steps P C h legal) back r.0 o.1.p 0 stop.tenant stop.fact.code stop.is stop.fact.standing stop.fact.fate r.1.1

    answered : MayRetireOne P C h ⊎ MayAdd P C h back (Refuses NotDone) ⊎ MayAdd P C h back (Refuses Empty) ⊎ MayAdd P C h back (Refuses Over)
    answered = ⊎_elim
        (λ (s : StopAt ts). inr (inr (inr (refl, record { p = s.p; stop = record { tenant = s.tenant; is = s.is; fact = s.stop } }))))
        (λ (goes_on : AllByRecursion IsNoRetiredStop ts). ⊎_elim
        (λ (none : AllByRecursion IsNotLive ts). inr (inr (inl (refl, record { goes_on = goes_on; none = none }))))
        (λ (o : Oldest ts). head goes_on o (can_or_not (kind_of P o.tenant) o.tenant.second.value o.tenant.fate))
        (find_oldest ts))
        (find_stop ts)
      where
        head : AllByRecursion IsNoRetiredStop ts → (o : Oldest ts) →
            CanRetire (kind_of P o.tenant) o.tenant.second.value o.tenant.fate ⊎ (¬ CanRetire (kind_of P o.tenant) o.tenant.second.value o.tenant.fate) →
            MayRetireOne P C h ⊎ MayAdd P C h back (Refuses NotDone) ⊎ MayAdd P C h back (Refuses Empty) ⊎ MayAdd P C h back (Refuses Over)
        head goes_on o c =
            let below = at_below ts o.p o.tenant o.is in
            let oldest = older_from IsNotLive ts o.p below (λ q u lt e. o.oldest q u lt e) in
            let no_stop = older_from IsNoRetiredStop ts o.p below (λ q u lt e. all_at IsNoRetiredStop ts goes_on q u e) in
            let small : 0 < 2 ^ 32 = less 0 (2 ^ 32) refl in ⊎_elim
            (λ (can : CanRetire (kind_of P o.tenant) o.tenant.second.value o.tenant.fate).
            inl (o.p, (refl, record { tenant = o.tenant; is = o.is; may = record { small = small; live = o.live; oldest = oldest; no_stop = no_stop; can = can } })))
            (λ (not : ¬ CanRetire (kind_of P o.tenant) o.tenant.second.value o.tenant.fate).
            inr (inl (refl, record { goes_on = goes_on; p = o.p; tenant = o.tenant; is = o.is; live = o.live; oldest = oldest; stays = not })))
            c

    pub retirement_is_answered : IsLegal P C h → RetirementIsAnswered P C h
    retirement_is_answered legal = record {
      answer = answered;
      not_done = not_done_stays;
      empty = λ e. (empty_retires_not e, empty_is_done e);
      over = λ o. (over_retires_not legal o, (λ n. goes_on_not_over o n.1.goes_on), (λ e. goes_on_not_over o e.1.goes_on));
    }
