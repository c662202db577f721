-- A claim of an open and ready tenant gives a job, where nobody else steps but the back.
use Rattle.std.proofs.Common.{◌≡◌, ◌≢◌, ℕ, List, [], ◌∷◌, ◌++◌, length, Some, None, refl, sym, ap, ◌∙◌, subst, arith, append_assoc, length-append}
use mathlib.Core.Logic.{dite}
use native.Mathlib.Decide.{ℕ_discrete}
use Rattle.instructions.specs.Programs.{Program}
use Rattle.inorder.specs.declared.history.Act.TheVariants.{Claim}
use Rattle.inorder.specs.declared.history.Entry.{Entry}
use Rattle.inorder.specs.declared.history.Event.{Event}
use Rattle.inorder.specs.declared.history.Event.TheVariants.{Does, Refuses}
use Rattle.inorder.specs.declared.history.Refusal.TheVariants.{Moved as HasMoved, NotOpen as IsNotOpen, Waiting as Waits}
use Rattle.inorder.specs.declared.history.Source.{Source}
use Rattle.inorder.specs.declared.history.Step.TheVariants.{On}
use Rattle.inorder.specs.History.{IsLegal, IsUnit, MayAdd, back, entry, own, unit_of, renewals}
use Rattle.instructions.specs.Histories.{StartsWith}
use Rattle.inorder.specs.Replies.{Has, HasMoved as Gone, IsOpen, IsWaiting, JobFields, job_of}
use Rattle.inorder.specs.Tenants.{Tenant, missing}
use Rattle.inorder.specs.Unit.{at, Sizes}
use Rattle.inorder.proofs.Histories.{legal_before, no_length, none_to, own-append, own_else, own_none}
use Rattle.ruu_words.specs.Kinds.{IsAny, IsNamed, IsTenant}
use Rattle.ruu_words.proofs.StationWords.{one_at}
use Rattle.ruu_words.proofs.Stays.{named_of, named_on, named_stays, place_stays}
use Rattle.station.specs.declared.answers.Claim.{Claim as Answer}
use Rattle.station.specs.declared.answers.Claim.TheVariants.{Job as Claimed, Moved, NotOpen, Waiting}
use Rattle.station.specs.declared.job.Job.{Job}
use Rattle.station.specs.Claiming.{ClaimAnswers, IsClaimed}
use Rattle.station.specs.Moments.{WasOpenOnce}
use Rattle.station.specs.Quiet.{ClaimsGiveJobs, IsClaimable, IsJobOf, IsQuiet}
use Rattle.station.proofs.Splitting.{LastEvent, last_event}
use Rattle.station.proofs.OpenKept.{HasJob, job_lasts, last_live, neither, only_back, open_lasts}

module _ (P : Program) (C : Sizes) where
  module _ (by : ℕ) (unit : IsUnit by) (old new : List Entry) (s g p : ℕ) (t : IsTenant (unit_of P C old) p s g (IsClaimable P)) (quiet : IsQuiet by old new) where
    -- at the moment of the call's own entry the tenant is open and ready
    record IsThere (e : Event) (point : List Entry) : Type 0 where
      pub legal : IsLegal P C point
      pub may : MayAdd P C point by e
      pub is_open : Has (unit_of P C point) p IsOpen
      pub named : IsNamed (unit_of P C point) p s g
      pub job : HasJob P C p (job_of P t.tenant) (unit_of P C point)

    there : (e : Event) → (l : LastEvent P C by old new e []) → IsThere e l.point
    there e l =
        let rest : List Entry = l.before.begins.more in
        let is : l.point ≡ rest ++ old = l.before.begins.is in
        let behind : IsLegal P C (entry by e ∷ l.point) = legal_before P C l.after (entry by e ∷ l.point) l.legal in
        let legal : IsLegal P C (rest ++ old) = subst (IsLegal P C) is behind.0 in
        let mine : own by rest ≡ [] = own_none by rest old (ap (own by) (sym is) ∙ l.before.mine) in
        let others : (n : ℕ) → n ≢ back → own n rest ≡ [] = λ n ne. dite (ℕ_discrete n by) (λ (same : n ≡ by). subst (λ i. own i rest ≡ []) (sym same) mine) (λ apart. other l n ne apart) in
        let all = only_back rest others in
        record {
          legal = behind.0;
          may = behind.1;
          is_open = subst (λ h. Has (unit_of P C h) p IsOpen) (sym is) (open_lasts P C p rest old legal all (record { tenant = t.tenant; is = t.is; fact = t.fact.is_open }));
          named = named_on P C by p s g [] old l.point l.before (named_of t);
          job = subst (λ h. HasJob P C p (job_of P t.tenant) (unit_of P C h)) (sym is) (job_lasts P C p (job_of P t.tenant) rest old legal
              (record { tenant = t.tenant; is = t.is; fact = (t.fact.ready, refl) }));
        }
      where
        other : (l : LastEvent P C by old new e []) (n : ℕ) → n ≢ back → n ≢ by → own n l.before.begins.more ≡ []
        other l n ne apart =
            let rest : List Entry = l.before.begins.more in
            let last : List Entry = entry by e ∷ l.point in
            let whole : own n new ≡ own n l.after ++ own n last = ap (own n) l.is ∙ own-append n l.after last in
            let skip : own n last ≡ own n l.point = own_else n (entry by e) l.point (λ same. apart (sym same)) in
            let parts : own n l.point ≡ own n rest ++ own n old = ap (own n) l.before.begins.is ∙ own-append n rest old in
            let a = ap (λ z. length z) (sym (quiet n apart ne) ∙ whole) in
            let b = length-append (own n l.after) (own n last) in
            let c = ap (λ z. length z) (skip ∙ parts) in
            let d = length-append (own n rest) (own n old) in
            no_length (own n rest) (omega arith)

    -- another tenant that is refused at this station would not be open
    refused : (e : Event) (l : LastEvent P C by old new e []) → renewals new ≡ renewals old → (q tag : ℕ) → IsNamed (unit_of P C new) q s tag → WasOpenOnce P C old new q →
        Has (unit_of P C l.point) q IsAny → q ≡ p
    refused e l one_table q tag named was here =
        let x = there e l in
        let m : List Entry = was.point in
        let legal_m : IsLegal P C m = legal_before P C was.within.before_return.more m (subst (IsLegal P C) (was.within.before_return.is) legal_new) in
        let same_m = sym (ap renewals was.within.behind_call.is) ∙ none_to new m old was.within.before_return was.within.behind_call one_table in
        let p_at = named_stays P C p s g was.within.behind_call.more old (subst (IsLegal P C) was.within.behind_call.is legal_m) same_m
        (named_of t) in
        let p_m = subst (λ h. IsNamed (unit_of P C h) p s g) (sym was.within.behind_call.is) p_at in
        let q_m : was.fact.tenant.station ≡ s = station_of m was.within.before_return q was.fact.tenant was.fact.is named in
        let q_p : here.tenant.station ≡ s = station_of l.point (record { more = l.after ++ entry by e ∷ []; is = l.is ∙ sym (append_assoc l.after (entry by e ∷ []) l.point) }) q here.tenant here.is
        named in
        let open_p = x.is_open in
        let same : open_p.tenant ≡ x.named.tenant = one_at P C l.point x.legal p open_p.tenant x.named.tenant open_p.is x.named.is in
        neither P C p q
        (last_live P C l.point x.legal p q open_p.tenant here.tenant open_p.is here.is open_p.fact.live (q_p ∙ sym (ap (λ (z : Tenant). z.station) same ∙ x.named.station_is)))
        (last_live P C m legal_m q p was.fact.tenant p_m.tenant was.fact.is p_m.is was.fact.fact.live (p_m.station_is ∙ sym q_m))
      where
        legal_new : IsLegal P C new
        legal_new = subst (IsLegal P C) (sym l.is) l.legal

        station_of : (h : List Entry) → StartsWith new h → (q : ℕ) (u : Tenant) → at (unit_of P C h).tenants q ≡ Some u → IsNamed (unit_of P C new) q s tag → u.station ≡ s
        station_of h a q u is named =
            let later = place_stays P C q u a.more h (subst (IsLegal P C) a.is legal_new) is in
            let now = subst (λ z. Has (unit_of P C z) q (λ x. (x.station ≡ u.station) × (x.tag ≡ u.tag))) (sym a.is) later in
            let same : now.tenant ≡ named.tenant = one_at P C new legal_new q now.tenant named.tenant now.is named.is in
            sym now.fact.0 ∙ (ap (λ (z : Tenant). z.station) same ∙ named.station_is)

    -- the tenant that was claimed is this one
    claimed : (j : Job) → (a : IsClaimed P C by old new s j) → j ≡ job_of P t.tenant
    claimed j a =
        let q : ℕ = a.holds.p in
        let e : Event = Does (On q Claim) in
        let l = last_event P C by old new e [] a.adds in
        let x = there e l in
        let act = x.may.1 in
        let u : Tenant = act.tenant in
        let legal_new : IsLegal P C new = subst (IsLegal P C) (sym l.is) l.legal in
        let more : List Entry = l.after ++ entry by e ∷ [] in
        let is : new ≡ more ++ l.point = l.is ∙ sym (append_assoc l.after (entry by e ∷ []) l.point) in
        let legal : IsLegal P C (more ++ l.point) = subst (IsLegal P C) is legal_new in
        let later = subst (λ z. Has (unit_of P C z) q (λ x. (x.station ≡ u.station) × (x.tag ≡ u.tag))) (sym is) (place_stays P C q u more l.point legal act.is) in
        let held = a.holds.tenant in
        let same : later.tenant ≡ held.tenant = one_at P C new legal_new q later.tenant held.tenant later.is held.is in
        let f = held.fact.fields_are in
        let at_s : u.station ≡ s = sym later.fact.0 ∙ (ap (λ (z : Tenant). z.station) same ∙ (ap (λ (z : JobFields). z.station) f ∙ a.station)) in
        let open_p = x.is_open in
        let one : open_p.tenant ≡ x.named.tenant = one_at P C l.point x.legal p open_p.tenant x.named.tenant open_p.is x.named.is in
        let p_s : open_p.tenant.station ≡ s = ap (λ (z : Tenant). z.station) one ∙ x.named.station_is in
        let here : q ≡ p = neither P C p q
        (last_live P C l.point x.legal p q open_p.tenant u open_p.is act.is open_p.fact.live (at_s ∙ sym p_s))
        (last_live P C l.point x.legal q p u open_p.tenant act.is open_p.is act.may.live (p_s ∙ sym at_s)) in
        let now = subst (λ z. HasJob P C p (job_of P t.tenant) (unit_of P C z)) (sym is) (job_lasts P C p (job_of P t.tenant) more l.point legal x.job) in
        let its : now.tenant ≡ held.tenant = one_at P C new legal_new p now.tenant held.tenant now.is (ap (at (unit_of P C new).tenants) (sym here) ∙ held.is) in
        sym f ∙ (ap (job_of P) (sym its) ∙ now.fact.1)

    -- a ready tenant does not wait
    not_waiting : (h : List Entry) → IsLegal P C h → (k : Source) → HasJob P C p (job_of P t.tenant) (unit_of P C h) → IsWaiting P (unit_of P C h) p k → ⊥
    not_waiting h legal k j w =
        let same : j.tenant ≡ w.tenant = one_at P C h legal p j.tenant w.tenant j.is w.is in
        let ready = j.fact.0 in
        let none : None ≡ Some k = sym ready ∙ (ap (missing P) same ∙ w.fact) in
        cc none

    moved_not : (h : List Entry) → IsLegal P C h → Has (unit_of P C h) p IsOpen → Gone (unit_of P C h) p → ⊥
    moved_not h legal o m =
        let same : o.tenant ≡ m.tenant = one_at P C h legal p o.tenant m.tenant o.is m.is in
        m.fact (subst IsOpen same o.fact)

    gives_job : (answer : Answer) → ClaimAnswers P C by old new s answer → IsJobOf P answer t.tenant
    gives_job (Claimed j) a = record { job = j; is = refl; fields_are = claimed j a }
    gives_job NotOpen a =
        let e : Event = Refuses (IsNotOpen s) in
        let l = last_event P C by old new e [] a in
        let x = there e l in
        let o = x.is_open in
        let one : o.tenant ≡ x.named.tenant = one_at P C l.point x.legal p o.tenant x.named.tenant o.is x.named.is in
        absurd (x.may.1 p o.tenant o.is (ap (λ (z : Tenant). z.station) one ∙ x.named.station_is) o.fact)
    gives_job (Waiting tag k) a =
        let e : Event = Refuses (Waits a.p k) in
        let l = last_event P C by old new e [] a.adds in
        let x = there e l in
        let w = x.may.2 in
        let same = refused e l a.adds.one_table a.p tag a.named a.opened (record { tenant = w.tenant; is = w.is; fact = tt }) in
        absurd (not_waiting l.point x.legal k x.job (subst (λ q. IsWaiting P (unit_of P C l.point) q k) same w))
    gives_job (Moved tag) a =
        let e : Event = Refuses (HasMoved a.p) in
        let l = last_event P C by old new e [] a.adds in
        let x = there e l in
        let w = x.may.2 in
        let same = refused e l a.adds.one_table a.p tag a.named a.opened (record { tenant = w.tenant; is = w.is; fact = tt }) in
        absurd (moved_not l.point x.legal x.is_open (subst (λ q. Gone (unit_of P C l.point) q) same w))

pub claims_give_jobs : ClaimsGiveJobs
claims_give_jobs P C by old new s g p answer unit t quiet a = gives_job P C by unit old new s g p t quiet answer a
