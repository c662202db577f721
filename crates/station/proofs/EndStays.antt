-- A tenant at its end stays there, but for what the back does.
use Rattle.std.proofs.Common.{◌≡◌, ℕ, suc, List, [], ◌++◌, Some, refl, sym, ap, ◌∙◌, subst, ⊎_elim}
use Rattle.instructions.specs.Instruction.{kind}
use Rattle.instructions.specs.Programs.{Program, instr_of}
use Rattle.inorder.specs.declared.history.Act.{Act}
use Rattle.inorder.specs.declared.history.Act.TheVariants.{Claim, Deliver, Finish, Link, Load, Mend, Retire, Speculate, Squash}
use Rattle.inorder.specs.declared.history.Entry.{Entry}
use Rattle.inorder.specs.declared.history.Source.TheVariants.{First, Second}
use Rattle.inorder.specs.declared.history.Step.{Step}
use Rattle.inorder.specs.Callers.{IsHead}
use Rattle.inorder.specs.History.{IsLegal, back, own, unit_of, renewals}
use Rattle.inorder.specs.Legal.{Allowed, May, applied, changed}
use Rattle.inorder.specs.StationWords.{IsFree, left_value}
use Rattle.inorder.specs.Steps.{CanRetire}
use Rattle.inorder.specs.Tenants.{Addr, Done, Fate, Stopped, Tenant, kind_of}
use Rattle.inorder.specs.Unit.{at, older, Sizes, UpdateUnit, younger}
use Rattle.inorder.proofs.Ends.{Acted, IsNotBacks, IsNotBacksAct, exact, oldest_live, still_oldest}
use Rattle.inorder.proofs.Heads.{goes_on_stays}
use Rattle.inorder.proofs.Moves.{Goes, goes}
use Rattle.inorder.proofs.Sound.{IsSound}
use Rattle.ruu_words.specs.declared.station.StationState.{StationState}
use Rattle.ruu_words.specs.declared.station.StationState.TheVariants.{Addr as AddrState, Busy as BusyState, Done as DoneState, Free as FreeState, Miss as MissState, Open as OpenState}
use Rattle.ruu_words.specs.declared.station.StationState.TheVariants.{Stop as StopState}
use Rattle.ruu_words.specs.declared.station.StationWord.{StationWord}
use Rattle.ruu_words.specs.Content.{IsStation}
use Rattle.ruu_words.proofs.Stays.{back_stays}
use Rattle.station.specs.declared.answers.Last.{Last}
use Rattle.station.specs.declared.answers.Last.TheVariants.{Done as WasDone, Stop as WasStop, Stored}
use Rattle.station.specs.declared.steps.retire.Access.{Access}
use Rattle.station.specs.declared.steps.retire.Leaving.{Leaving}
use Rattle.station.specs.Retirement.{EndsAs, HasAccess, HasEnd, IsAccess, IsAtEnd, IsEnd, IsLeaving, MayLeave}
use Rattle.station.specs.Retirement.{kept_value}

-- A fate at the end stays, but for the back

abbrev IsLateFate : Fate → Type 0
IsLateFate (Addr a) = Unit {0}
IsLateFate (Done v) = Unit {0}
IsLateFate (Stopped c) = Unit {0}
IsLateFate _ = ⊥

late_fate : (P : Program) (by : ℕ) (act : Act) (ys : List Tenant) (t : Tenant) (ts : List Tenant) → IsNotBacksAct act → May P by act ys t ts → IsLateFate t.fate → (changed P by act t ts).fate ≡ t.fate
late_fate P by (Link First) ys t ts b m e = refl
late_fate P by (Link Second) ys t ts b m e = refl
late_fate P by (Deliver First) ys t ts b m e = refl
late_fate P by (Deliver Second) ys t ts b m e = refl
late_fate P by Claim ys t ts b m e = absurd (subst IsLateFate m.fate e)
late_fate P by Finish ys t ts b m e = absurd (subst IsLateFate m.fate e)
late_fate P by Load ys t ts b m e = absurd b
late_fate P by (Retire n) ys t ts b m e = absurd b
late_fate P by Squash ys t ts b m e = refl
late_fate P by (Speculate s) ys t ts b m e = absurd b
late_fate P by Mend ys t ts b m e = absurd (subst IsLateFate m.fate e)

found : (t u : Tenant) → Some t ≡ Some u → t ≡ u
found t u e = cc e

-- what a step of another keeps of a tenant at its end
pub record Stays (Fact : Tenant → Type 0) : Type 0 where
  keeps : (by : ℕ) (s : Step) (t t' : Tenant) → Goes by s t t' → t'.fate ≡ t.fate → Fact t → Fact t'
  late : (t : Tenant) → Fact t → IsLateFate t.fate

ends_on : (P : Program) (l : Last) (t t' : Tenant) → t'.index ≡ t.index → t'.fate ≡ t.fate → ((v : ℕ) → t.second.value ≡ Some v → t'.second.value ≡ Some v) → EndsAs P l t → EndsAs P l t'
ends_on P (WasDone v) t t' i f g e = f ∙ e
ends_on P (Stored a w) t t' i f g e = (ap (λ k. kind (instr_of P k).op) i ∙ e.0, f ∙ e.1, g w e.2)
ends_on P (WasStop c) t t' i f g e = f ∙ e

ends_late : (P : Program) (l : Last) (t : Tenant) → EndsAs P l t → IsLateFate t.fate
ends_late P (WasDone v) t e = subst IsLateFate (sym e) tt
ends_late P (Stored a w) t e = subst IsLateFate (sym e.1) tt
ends_late P (WasStop c) t e = subst IsLateFate (sym e) tt

end_late : (st : StationState) (v : ℕ) (f : Fate) → IsEnd st v f → IsLateFate f
end_late AddrState v f e = subst IsLateFate (sym e) tt
end_late DoneState v f e = subst IsLateFate (sym e) tt
end_late StopState v f e = subst IsLateFate (sym e.2) tt
end_late FreeState v f e = absurd e
end_late OpenState v f e = absurd e
end_late BusyState v f e = absurd e
end_late MissState v f e = absurd e

pub access_stays : (a : Access) → Stays (IsAccess a)
access_stays a = record {
  keeps = λ by s t t' g e x. record { station_is = g.station ∙ x.station_is; tag_is = g.tag ∙ x.tag_is; index_is = g.index ∙ x.index_is; half_is = g.half ∙ x.half_is; fate = e ∙ x.fate };
  late = λ t x. subst IsLateFate (sym x.fate) tt;
}

pub leaving_stays : (P : Program) (l : Leaving) → Stays (IsLeaving P l)
leaving_stays P l = record {
  keeps = λ by s t t' g e x. record {
    station_is = g.station ∙ x.station_is;
    tag_is = g.tag ∙ x.tag_is;
    last_is = record { index_is = g.index ∙ x.last_is.index_is; half_is = g.half ∙ x.last_is.half_is; ends = ends_on P l.last t t' g.index e (g.value Second) x.last_is.ends };
  };
  late = λ t x. ends_late P l.last t x.last_is.ends;
}

end_stays : (s : ℕ) (w : StationWord) → Stays (IsAtEnd s w)
end_stays s w = record {
  keeps = λ by st t t' g e x. record { station_is = g.station ∙ x.station_is; tag_is = g.tag ∙ x.tag_is; end = subst (IsEnd w.state w.value) (sym e) x.end };
  late = λ t x. end_late w.state w.value t.fate x.end;
}

pub map_head : (U : UpdateUnit) (p : ℕ) (A B : Tenant → Type 0) → ((t : Tenant) → A t → B t) → IsHead U p A → IsHead U p B
map_head U p A B f i = record { tenant = i.tenant; is = i.is; live = i.live; oldest = i.oldest; goes_on = i.goes_on; fact = f i.tenant i.fact }

abbrev pub last_fate : Last → Fate
last_fate (WasDone v) = Done v
last_fate (Stored a w) = Addr a
last_fate (WasStop c) = Stopped c

pub fate_last : (P : Program) (l : Last) (t : Tenant) → EndsAs P l t → t.fate ≡ last_fate l
fate_last P (WasDone v) t e = e
fate_last P (Stored a w) t e = e.1
fate_last P (WasStop c) t e = e

pub can_last : (P : Program) (l : Last) (t : Tenant) → EndsAs P l t → CanRetire (kind_of P t) t.second.value (last_fate l)
can_last P (WasDone v) t e = tt
can_last P (Stored a w) t e = (e.0, (w, e.2))
can_last P (WasStop c) t e = tt

pub free_last : (g : ℕ) (l : Last) (n : ℕ) → IsStation (record { tag = suc g; state = IsFree; value = Some (kept_value l) }) n →
    IsStation (record { tag = suc g; state = IsFree; value = left_value (last_fate l) (Some (kept_value l)) }) n
free_last g (WasDone v) n w = w
free_last g (Stored a x) n w = record { tag = w.tag; state = w.state; value = tt }
free_last g (WasStop c) n w = w

module _ (P : Program) (C : Sizes) where
  abbrev pub U : List Entry → UpdateUnit
  U h = unit_of P C h

  head_step : (Fact : Tenant → Type 0) → Stays Fact → (p : ℕ) (V : UpdateUnit) (by : ℕ) (s : Step) → IsNotBacks s → Allowed P C V by s → IsSound P V.tenants → IsHead V p Fact →
      IsHead (applied P C V by s) p Fact
  head_step Fact stays p V by s b a ok i =
      let m = goes P C V by s a ok p i.tenant i.is in
      record {
        tenant = m.tenant;
        is = m.is;
        live = oldest_live P C V by s b a ok p i.tenant i.is i.live i.oldest m.tenant m.is;
        oldest = still_oldest P C V by s b a ok p i.tenant i.is i.live i.oldest;
        goes_on = goes_on_stays P C V by s b a ok i.goes_on;
        fact = stays.keeps by s i.tenant m.tenant m.goes (fate m.tenant m.is) i.fact;
      }
    where
      fate : (t : Tenant) → at (applied P C V by s).tenants p ≡ Some t → t.fate ≡ i.tenant.fate
      fate t is = ⊎_elim
          (λ e. ap (λ (z : Tenant). z.fate) (found t i.tenant (sym is ∙ e)))
          (λ (z : Acted P V by s (applied P C V by s).tenants p i.tenant). ap (λ (y : Tenant). y.fate) (found t (changed P by z.act i.tenant (older V.tenants p)) (sym is ∙ z.now)) ∙
          late_fate P by z.act (younger V.tenants p) i.tenant (older V.tenants p) (subst IsNotBacks z.step b) z.may (stays.late i.tenant i.fact))
          (exact P C V by s a p i.tenant i.is)

  pub head_on : (Fact : Tenant → Type 0) → Stays Fact → (p : ℕ) (more seen : List Entry) → IsLegal P C (more ++ seen) → renewals (more ++ seen) ≡ renewals seen → own back more ≡ [] →
      IsHead (U seen) p Fact → IsHead (U (more ++ seen)) p Fact
  head_on Fact stays p more seen legal same none i = back_stays P C (λ V. IsHead V p Fact) (λ V by s b a ok q. head_step Fact stays p V by s b a ok q) more seen legal same none i

  unfoldable pub access_on : (a : Access) (more seen : List Entry) → IsLegal P C (more ++ seen) → renewals (more ++ seen) ≡ renewals seen → own back more ≡ [] → HasAccess P C seen a →
      HasAccess P C (more ++ seen) a
  access_on a more seen legal same none x = record { p = x.p; head = head_on (IsAccess a) (access_stays a) x.p more seen legal same none x.head }

  unfoldable pub leave_on : (l : Leaving) (more seen : List Entry) → IsLegal P C (more ++ seen) → renewals (more ++ seen) ≡ renewals seen → own back more ≡ [] → MayLeave P C seen l →
      MayLeave P C (more ++ seen) l
  leave_on l more seen legal same none x = record { p = x.p; head = head_on (IsLeaving P l) (leaving_stays P l) x.p more seen legal same none x.head }

  pub end_on : (s : ℕ) (w : StationWord) (more seen : List Entry) → IsLegal P C (more ++ seen) → renewals (more ++ seen) ≡ renewals seen → own back more ≡ [] → HasEnd P C seen s w →
      HasEnd P C (more ++ seen) s w
  end_on s w more seen legal same none x = record { p = x.p; head = head_on (IsAtEnd s w) (end_stays s w) x.p more seen legal same none x.head }
