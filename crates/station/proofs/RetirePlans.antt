-- The steps of a retirement may be taken.
use Rattle.std.proofs.Common.{◌≡◌, ◌≢◌, ℕ, ◌<◌, true, false, List, [], ◌++◌, refl, sym, ap, ◌∙◌, subst, arith}
use Rattle.instructions.specs.Instruction.{kind}
use Rattle.instructions.specs.Programs.{Program, instr_of}
use Rattle.instructions.specs.declared.op.Kind.TheVariants.{Stores}
use Rattle.inorder.specs.declared.history.Act.TheVariants.{Retire}
use Rattle.inorder.specs.declared.history.Entry.{Entry}
use Rattle.inorder.specs.declared.history.Event.TheVariants.{Does}
use Rattle.inorder.specs.declared.history.Refusal.TheVariants.{NotDone, Over}
use Rattle.inorder.specs.declared.history.Source.TheVariants.{Second}
use Rattle.inorder.specs.declared.history.Step.TheVariants.{On}
use Rattle.inorder.specs.Callers.{CanLeave}
use Rattle.inorder.specs.History.{back, own, unit_of}
use Rattle.inorder.specs.Steps.{CanRetire, IsNoRetiredStop}
use Rattle.inorder.specs.Tenants.{Addr, Fate, IsNotLive, Tenant, kind_of}
use Rattle.inorder.specs.Unit.{Sizes, UpdateUnit}
use Rattle.inorder.proofs.Heads.{HasAddr}
use Rattle.inorder.proofs.Histories.{legal_before}
use Rattle.inorder.proofs.Positions.{all_from, at_below, older_from}
use Rattle.ruu_words.specs.declared.place.Place.{Place}
use Rattle.ruu_words.specs.declared.place.Place.TheVariants.{Operand, Station}
use Rattle.ruu_words.specs.declared.rule.Role.TheVariants.{Back}
use Rattle.ruu_words.specs.declared.rule.View.{View}
use Rattle.ruu_words.specs.Content.{IsStation}
use Rattle.ruu_words.specs.Fields.{word_value}
use Rattle.ruu_words.specs.Kinds.{Heads, IsNamed, ReadsData, Tells, Writes}
use Rattle.ruu_words.specs.Views.{IsCaller}
use Rattle.ruu_words.proofs.Building.{plan_as, tells}
use Rattle.ruu_words.proofs.Ending.{data_plan, head_plan, over_plan}
use Rattle.ruu_words.specs.Plans.{Plans}
use Rattle.ruu_words.proofs.Leaving.{retire_plan}
use Rattle.station.specs.declared.steps.retire.Access.{Access}
use Rattle.station.specs.declared.steps.retire.Leaving.{Leaving}
use Rattle.station.specs.Retirement.{FindsData, HasAccess, IsAccess, Leaves, LooksAtHead, MayLeave}
use Rattle.station.specs.Retirement.{kept_value, left_word}
use Rattle.station.specs.Seats.{IsAtHead}
use Rattle.inorder.proofs.Recent.{live_is_recent}
use Rattle.station.proofs.EndStays.{access_on, can_last, fate_last, free_last, last_fate, leave_on, map_head}

module _ (P : Program) (C : Sizes) where
  abbrev U : List Entry → UpdateUnit
  U h = unit_of P C h

  pub tells_over : (id : ℕ) (v : View) (x : Place) (station : ℕ) → v.role ≡ Back → (id ≡ back → IsAtHead C (U v.seen) station true) → Plans P C id v x (λ n. n) (λ _. Tells P C Over)
  tells_over id v x station role knows between d legal same apart caller mine draft n small content =
      over_plan P C id v x role (knows (subst (λ r. IsCaller r id) role caller)).ended between d legal same apart caller mine draft n small content

  pub looks_plan : (id : ℕ) (v : View) (s : ℕ) → v.role ≡ Back → (id ≡ back → IsAtHead C (U v.seen) s false) → Plans P C id v (Station s) (λ n. n) (LooksAtHead P C id s)
  looks_plan id v s role knows between d legal same apart caller mine draft n small content =
      let h : List Entry = between ++ v.seen in
      let is_back : id ≡ back = subst (λ r. IsCaller r id) role caller in
      plan_as P C id h d (Station s) n (Heads P C s n) (LooksAtHead P C id s n) (λ e es k. record { by_is = is_back; heads = k })
      (head_plan P C id v s role (sym (knows is_back).head) (knows is_back).ended between d legal same apart caller mine draft n small content)

  pub waits_plan : (id : ℕ) (v : View) (x : Place) (a : Access) → v.role ≡ Back → HasAccess P C v.seen a → kind (instr_of P a.index).op ≢ Stores → Plans P C id v x (λ n. n) (λ _. Tells P C NotDone)
  waits_plan id v x a role access load between d legal same apart caller mine draft n small content =
      let h : List Entry = between ++ v.seen in
      let us : List Tenant = (U h).tenants in
      let is_back : id ≡ back = subst (λ r. IsCaller r id) role caller in
      let now = access_on P C a between v.seen legal same (subst (λ z. own z between ≡ []) is_back apart) access in
      let i = now.head in
      let t : Tenant = i.tenant in
      tells P C id h d legal draft x n NotDone (
        is_back,
        record {
          goes_on = all_from IsNoRetiredStop us i.goes_on;
          p = now.p;
          tenant = t;
          is = i.is;
          live = i.live;
          oldest = older_from IsNotLive us now.p (at_below us now.p t i.is) (λ q u lt e. i.oldest q u lt e);
          stays = λ c.
              let c' : CanRetire (kind_of P t) t.second.value (Addr a.address) = subst (CanRetire (kind_of P t) t.second.value) i.fact.fate c in
              load (sym (ap (λ k. kind (instr_of P k).op) i.fact.index_is) ∙ c'.0);
        },
      ) content (Tells P C NotDone) (record { added = refl })

  pub finds_plan : (id : ℕ) (v : View) (a : Access) → v.role ≡ Back → HasAccess P C v.seen a → Plans P C id v (Operand a.station Second) (λ n. n) (FindsData P C a)
  unfolding access_on
  finds_plan id v a role access between d legal same apart caller mine draft n small content =
      let h : List Entry = between ++ v.seen in
      let is_back : id ≡ back = subst (λ r. IsCaller r id) role caller in
      let now = access_on P C a between v.seen legal same (subst (λ z. own z between ≡ []) is_back apart) access in
      let head = map_head (U v.seen) access.p (IsAccess a) (HasAddr a.station a.tag a.index a.address)
      (λ t x. record { station_is = x.station_is; tag_is = x.tag_is; index_is = x.index_is; fate = x.fate }) access.head in
      plan_as P C id h d (Operand a.station Second) n (ReadsData P C access.p n) (FindsData P C a n) (λ e es k. record { access = now; data_is = k })
      (data_plan P C id v access.p a.station a.tag a.index a.address role head between d legal same apart caller mine draft n small content)

  pub leaves_plan : (id : ℕ) (v : View) (l : Leaving) (new : ℕ) → v.role ≡ Back → MayLeave P C v.seen l → IsStation (left_word l) new →
      Plans P C id v (Station l.station) (λ _. new) (λ _. Leaves P C l)
  unfolding leave_on
  leaves_plan id v l new role may word between d legal same apart caller mine draft n small content =
      let h : List Entry = between ++ v.seen in
      let is_back : id ≡ back = subst (λ r. IsCaller r id) role caller in
      let now = leave_on P C l between v.seen legal same (subst (λ z. own z between ≡ []) is_back apart) may in
      let i = may.head in
      let f : Fate = last_fate l.last in
      let m : ℕ = kept_value l.last in
      let value : word_value new ≡ m = word.value in
      let fits : m < 4294967296 = omega arith in
      let named : IsNamed (U v.seen) may.p l.station l.tag = record {
        tenant = i.tenant;
        is = i.is;
        new = live_is_recent P C v.seen (legal_before P C between v.seen legal) may.p i.tenant i.is i.live;
        station_is = i.fact.station_is;
        tag_is = i.fact.tag_is;
        fact = tt;
      } in
      let can : CanLeave P (U v.seen) may.p f = record {
        tenant = i.tenant;
        is = i.is;
        live = i.live;
        oldest = i.oldest;
        no_stop = λ q u lt e. i.goes_on q u e;
        fate = fate_last P l.last i.tenant i.fact.last_is.ends;
        can = can_last P l.last i.tenant i.fact.last_is.ends;
      } in
      plan_as P C id h d (Station l.station) new (Writes P C (Does (On may.p (Retire m))) may.p l.station n) (Leaves P C l) (λ e es k. record { may = now; added = k.added })
      (retire_plan P C id v l.station l.tag may.p m new f role fits named can (free_last l.tag l.last new word) between d legal same apart caller mine draft n small content)
