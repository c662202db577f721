-- A retirement, after the write with which its tenant leaves.
use Rattle.std.proofs.Common.{◌≡◌, ◌≢◌, ℕ, suc, ◌+◌, ◌%◌, ◌<◌, false, List, [], ◌∷◌, ◌++◌, map, length, Some, refl, sym, ap, ◌∙◌, subst, arith}
use Rattle.std.proofs.Math.Nat.{mod-add-mod}
use Rattle.std.specs.List.{AllByRecursion}
use Rattle.instructions.specs.declared.op.Half.{Half}
use Rattle.instructions.specs.Programs.{Program}
use Rattle.instructions.specs.declared.stop.Stop.{Stop}
use Rattle.inorder.specs.declared.history.Act.TheVariants.{Retire}
use Rattle.inorder.specs.declared.history.Entry.{Entry}
use Rattle.inorder.specs.declared.history.Event.{Event}
use Rattle.inorder.specs.declared.history.Event.TheVariants.{Does, Refuses}
use Rattle.inorder.specs.declared.history.Refusal.TheVariants.{Empty, NotDone, Over}
use Rattle.inorder.specs.declared.history.Step.TheVariants.{On}
use Rattle.inorder.specs.Callers.{GoesOn, head_station, is_retired}
use Rattle.inorder.specs.History.{IsLegal, entry, taken_of, unit_of}
use Rattle.inorder.specs.OneHistory.{Adds}
use Rattle.inorder.specs.Legal.{applied, change_at}
use Rattle.inorder.specs.Replies.{last_tag}
use Rattle.inorder.specs.Steps.{IsNoRetiredStop, retired}
use Rattle.inorder.specs.Tenants.{Addr, Done, Fate, Stopped, Tenant}
use Rattle.inorder.specs.Unit.{at, how_many, older, recent, Sizes, UpdateUnit, younger, is_old}
use Rattle.inorder.proofs.Basics.{split_at}
use Rattle.inorder.proofs.Grows.{all_grows, sound_mid}
use Rattle.inorder.proofs.Heads.{head_at}
use Rattle.inorder.proofs.Histories.{adds_on, allowed_steps, unit_sound}
use Rattle.inorder.proofs.Kept.{parts}
use Rattle.inorder.proofs.Positions.{all_at, all_from, at_replaced_here}
use Rattle.inorder.proofs.Serving.{are_small}
use Rattle.inorder.proofs.Sound.{IsSound}
use Rattle.inorder.proofs.Stations.{is_ring, stands}
use Rattle.ruu_words.specs.declared.rule.View.{View}
use Rattle.ruu_words.specs.Kinds.{IsTenant}
use Rattle.ruu_words.specs.Telling.{Grows}
use Rattle.station.specs.declared.answers.Last.{Last}
use Rattle.station.specs.declared.answers.Last.TheVariants.{Done as WasDone, Stop as WasStop, Stored}
use Rattle.station.specs.declared.answers.Retire.{Retire as Answer}
use Rattle.station.specs.declared.answers.Retire.TheVariants.{Empty as IsEmpty, NotDone as IsNotDoneYet, Over as IsOver, Retired as HasRetired}
use Rattle.station.specs.declared.steps.retire.Leaving.{Leaving}
use Rattle.station.specs.Retirement.{EndsAs, IsThisHalf, IsRetired, Leaves, MayLeave, RetireAnswers, is_stop}
use Rattle.station.specs.Retirement.{kept_value}
use Rattle.station.specs.Seats.{HasRetiredStop, IsAtHead}
use Rattle.station.proofs.Adding.{adds_these}
use Rattle.station.proofs.Backs.{IsNoRetirement}
use Rattle.inorder.proofs.Recent.{live_is_recent, old_are_gone, recent_change, old_kept}
use Rattle.station.proofs.EndWords.{one_more}

module _ (P : Program) (C : Sizes) where
  abbrev U : List Entry → UpdateUnit
  U h = unit_of P C h

  -- What is known at the head

  pub leaving_small : (h : List Entry) → IsLegal P C h → (l : Leaving) → MayLeave P C h l → l.tag < last_tag
  leaving_small h legal l m = subst (λ z. z < last_tag) m.head.fact.tag_is (are_small P C h legal m.p m.head.tenant m.head.is)

  pub inside : (h : List Entry) → IsLegal P C h → (p : ℕ) (t : Tenant) → at (U h).tenants p ≡ Some t → t.index < length P.code
  inside h legal p t is =
      let us = (U h).tenants in
      (sound_mid P t (older us p) (younger us p) (subst (IsSound P) (split_at us p t is) (unit_sound P C h legal))).own.inside

  -- After the write

  module _ (by : ℕ) (l : Leaving) (v w : View) (g : Grows P C by v w (Leaves P C l)) where
    abbrev h : List Entry
    h = g.between ++ v.seen

    abbrev m : ℕ
    m = kept_value l.last

    abbrev p : ℕ
    p = g.kind.may.p

    abbrev t : Tenant
    t = g.kind.may.head.tenant

    abbrev us : List Tenant
    us = (U h).tenants

    abbrev gone : Tenant
    gone = retired t m

    seen : w.seen ≡ entry by (Does (On p (Retire m))) ∷ h
    seen = g.is ∙ ap (λ es. map (entry by) es ++ h) g.kind.added

    legal : IsLegal P C (entry by (Does (On p (Retire m))) ∷ h)
    legal = subst (IsLegal P C) seen g.legal

    abbrev V : UpdateUnit
    V = applied P C (U h) by (On p (Retire m))

    at_p : at V.tenants p ≡ Some gone
    at_p = ap (λ o. at (change_at P us by p (Retire m) o) p) g.kind.may.head.is ∙ at_replaced_here us p t gone g.kind.may.head.is

    recent_p : is_old V p ≡ false
    recent_p = old_kept P C (U h) by (On p (Retire m)) (λ e. cc e) legal.1.1 p ∙ live_is_recent P C h legal.0 p t g.kind.may.head.is g.kind.may.head.live

    still_ends : (x : Last) → EndsAs P x t → EndsAs P x gone
    still_ends (WasDone n) e = e
    still_ends (Stored a n) e = e
    still_ends (WasStop c) e = e

    pub retired_out : IsRetired P C by v.seen w.seen l.station l.tag l.index l.half l.last
    retired_out =
        let x = g.kind.may.head.fact in
        let named : IsTenant V p l.station l.tag (IsThisHalf P l.index l.half l.last) = record {
          tenant = gone;
          is = at_p;
          new = recent_p;
          station_is = x.station_is;
          tag_is = x.tag_is;
          fact = record { index_is = x.last_is.index_is; half_is = x.last_is.half_is; ends = still_ends l.last x.last_is.ends };
        } in
        record {
          p = p;
          n = m;
          tenant = subst (λ z. IsTenant (U z) p l.station l.tag (IsThisHalf P l.index l.half l.last)) (sym seen) named;
          adds = adds_these P C by v w (Leaves P C l) (Does (On p (Retire m)) ∷ []) g g.kind.added;
        }

    all_now : V.tenants ≡ younger us p ++ gone ∷ older us p
    all_now = parts P us by p (Retire m) t g.kind.may.head.is

    counted : head_station C V ≡ (l.station + 1) % C.ring
    counted =
        let i = g.kind.may.head in
        let n : ℕ = how_many is_retired (recent (U h)) in
        let among = recent_change P (U h) by p (Retire m) t i.is (live_is_recent P C h legal.0 p t i.is i.live) in
        let more : how_many is_retired (recent V) ≡ suc n = ap (how_many is_retired) among.after ∙ (one_more t gone among.zs (younger us p) i.live refl ∙
        ap (λ z. suc (how_many is_retired z)) (sym among.before)) in
        let here : l.station ≡ n % C.ring = sym i.fact.station_is ∙ head_at P C (U h) (unit_sound P C h legal.0) (is_ring C (recent (U h)) (stands P C (taken_of h) (allowed_steps P C h legal.0)))
        (old_are_gone P C h legal.0) (record { p = p; tenant = t; is = i.is; live = i.live; oldest = i.oldest }) in
        let one : n + 1 ≡ suc n = omega arith in
        ap (λ z. z % C.ring) (more ∙ sym one) ∙ (sym (mod-add-mod n C.ring 1) ∙ ap (λ z. (z + 1) % C.ring) (sym here))

    no_stop : (f : Fate) → t.fate ≡ f → ((c : Stop) → f ≢ Stopped c) → GoesOn V
    no_stop f e apart =
        let ok : IsNoRetiredStop gone = λ r c s. apart c (sym e ∙ s) in
        let all = all_grows IsNoRetiredStop t gone (older us p) (younger us p) (λ _. ok) (subst (AllByRecursion IsNoRetiredStop) (split_at us p t g.kind.may.head.is)
        (all_from IsNoRetiredStop us g.kind.may.head.goes_on)) in
        all_at IsNoRetiredStop V.tenants (subst (AllByRecursion IsNoRetiredStop) (sym all_now) all)

    ended : (x : Last) → EndsAs P x t → HasRetiredStop (is_stop x) V
    ended (WasDone n) e = no_stop (Done n) e (λ c z. cc z)
    ended (Stored a n) e = no_stop (Addr a) e.1 (λ c z. cc z)
    ended (WasStop c) e = record { p = p; stop = record { tenant = gone; is = at_p; fact = record { code = c; standing = refl; fate = e } } }

    pub head_next : IsAtHead C (U w.seen) ((l.station + 1) % C.ring) (is_stop l.last)
    head_next = subst (λ z. IsAtHead C (U z) ((l.station + 1) % C.ring) (is_stop l.last)) (sym seen) (record { head = sym counted; ended = ended l.last g.kind.may.head.fact.last_is.ends })

  -- an answer, told from an earlier moment on
  pub answers_on : (by : ℕ) (old mid new : List Entry) (r : Answer) → Adds P C by old mid [] → RetireAnswers P C by mid new r → RetireAnswers P C by old new r
  answers_on by old mid new (HasRetired s g i d x) a r = record { p = r.p; n = r.n; tenant = r.tenant; adds = adds_on P C by old mid new [] (Does (On r.p (Retire r.n)) ∷ []) a r.adds }
  answers_on by old mid new IsNotDoneYet a r = adds_on P C by old mid new [] _ a r
  answers_on by old mid new IsEmpty a r = adds_on P C by old mid new [] _ a r
  answers_on by old mid new IsOver a r = adds_on P C by old mid new [] _ a r

  -- no retirement, unless it says so
  abbrev pub IsNone : Answer → Type 0
  IsNone (HasRetired s g i d x) = ⊥
  IsNone _ = Unit {0}

  pub is_none : (r : Answer) → ((s g i : ℕ) (d : Half) (x : Last) → r ≢ HasRetired s g i d x) → IsNone r
  is_none (HasRetired s g i d x) apart = absurd (apart s g i d x refl)
  is_none IsNotDoneYet apart = tt
  is_none IsEmpty apart = tt
  is_none IsOver apart = tt

  pub none_retired : (by : ℕ) (old new : List Entry) (r : Answer) → IsNone r → RetireAnswers P C by old new r → (es : List Event) × (Adds P C by old new es × AllByRecursion (IsNoRetirement P C) es)
  none_retired by old new (HasRetired s g i d x) none r = absurd none
  none_retired by old new IsNotDoneYet none r = (Refuses NotDone ∷ [], (r, (tt, tt)))
  none_retired by old new IsEmpty none r = (Refuses Empty ∷ [], (r, (tt, tt)))
  none_retired by old new IsOver none r = (Refuses Over ∷ [], (r, (tt, tt)))
