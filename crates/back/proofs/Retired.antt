-- What a retirement did, as its caller sees it after the call.
use Rattle.std.proofs.Common.{◌≡◌, ℕ, Option, ◌+◌, ◌%◌, true, List, [], ◌∷◌, ◌++◌, length, Some, None, refl, sym, ap, ◌∙◌, subst, ⊎_elim, append_assoc}
use Rattle.std.proofs.lemmas.Option.{same_Some}
use Rattle.instructions.specs.Instruction.{is_first_half, kind}
use Rattle.instructions.specs.Programs.{Program, instr_at, instr_of}
use Rattle.instructions.specs.declared.op.Half.{Half}
use Rattle.instructions.specs.declared.instr.Instr.{Instr}
use Rattle.instructions.specs.declared.stop.Stop.{Stop}
use Rattle.inorder.specs.declared.history.Act.TheVariants.{Retire}
use Rattle.inorder.specs.declared.history.Entry.{Entry}
use Rattle.inorder.specs.declared.history.Event.TheVariants.{Does}
use Rattle.inorder.specs.declared.history.Source.TheVariants.{Second}
use Rattle.inorder.specs.declared.history.Step.{Step}
use Rattle.inorder.specs.declared.history.Step.TheVariants.{On}
use Rattle.inorder.specs.Committed.{ahead_by, commits, commits_by}
use Rattle.inorder.specs.History.{IsLegal, back, entry, unit_of, renewals}
use Rattle.instructions.specs.Histories.{StartsWith}
use Rattle.inorder.specs.OneHistory.{Adds}
use Rattle.inorder.specs.Legal.{Allowed, applied, changed}
use Rattle.inorder.specs.Machine.{State}
use Rattle.inorder.specs.Replies.{Has}
use Rattle.inorder.specs.Steps.{CanRetire, retired}
use Rattle.inorder.specs.Tenants.{IsThere, Retired, Tenant, instr, is_first, kind_of}
use Rattle.inorder.specs.Unit.{Sizes, UpdateUnit, at, older, younger}
use Rattle.inorder.proofs.Ends.{Acted, exact}
use Rattle.inorder.proofs.Histories.{legal_before, unit_lasts, unit_sound, none_to, none_from}
use Rattle.inorder.proofs.Moves.{goes}
use Rattle.inorder.proofs.Sound.{FateIs, IsSound}
use Rattle.station.specs.declared.answers.Last.{Last}
use Rattle.station.specs.declared.answers.Last.TheVariants.{Done as WasDone, Stop as WasStop, Stored}
use Rattle.station.specs.Retirement.{EndsAs, IsRetired}
use Rattle.back.specs.Kept.{KeepsUnit}
use Rattle.back.specs.Retirement.{StoreIsInside, low_in, state_behind, stop_in}
use Rattle.back.proofs.Committing.{IsDone, first_done, inside_as}
use Rattle.back.proofs.OwnEntries.{IsSplit, added_own, split_own}
use Rattle.back.proofs.UnitKept.{all_quiet, gone_on, quiet_keeps}
use Rattle.back.proofs.Retiring.{gone_at, instr_is, level_stop, own_sound, pc_is, retires}
use Rattle.inorder.proofs.Recent.{old_are_gone}

-- What a retired tenant still shows later

pub record IsStill (t u : Tenant) : Type 0 where
  pub standing : u.standing ≡ Retired
  pub fate : u.fate ≡ t.fate
  pub half : u.half ≡ t.half
  pub index : u.index ≡ t.index
  pub pc : u.pc ≡ t.pc
  pub second : (v : ℕ) → t.second.value ≡ Some v → u.second.value ≡ Some v

pub still_stays : (P : Program) (C : Sizes) (t : Tenant) (p : ℕ) (U : UpdateUnit) (by : ℕ) (s : Step) →
    Allowed P C U by s → IsSound P U.tenants → Has U p (IsStill t) → Has (applied P C U by s) p (IsStill t)
still_stays P C t p U by s a ok h = ⊎_elim
    (λ e. record { tenant = h.tenant; is = e; fact = h.fact })
    (λ (z : Acted P U by s (applied P C U by s).tenants p h.tenant).
    let g = gone_on P by z.act (younger U.tenants p) h.tenant (older U.tenants p) z.may h.fact.standing in
    let m = goes P C U by s a ok p h.tenant h.is in
    let same = same_Some m.tenant (changed P by z.act h.tenant (older U.tenants p)) (sym m.is ∙ z.now) in
    record {
      tenant = m.tenant;
      is = m.is;
      fact = record {
        standing = ap (λ (x : Tenant). x.standing) same ∙ g.standing;
        fate = ap (λ (x : Tenant). x.fate) same ∙ (g.fate ∙ h.fact.fate);
        half = m.goes.half ∙ h.fact.half;
        index = m.goes.index ∙ h.fact.index;
        pc = m.goes.pc ∙ h.fact.pc;
        second = λ v e. m.goes.value Second v (h.fact.second v e);
      };
    })
    (exact P C U by s a p h.tenant h.is)

-- how it ended is seen later too
ended_then : (P : Program) (t u : Tenant) (last : Last) → IsStill t u → CanRetire (kind_of P t) t.second.value t.fate → EndsAs P last u → EndsAs P last t
ended_then P t u (WasDone v) s c e = sym s.fate ∙ e
ended_then P t u (Stored a d) s c e =
    let there : IsThere t.second.value = (subst (CanRetire (kind_of P t) t.second.value) (sym s.fate ∙ e.1) c).1 in
    let same : there.0 ≡ d = same_Some there.0 d (sym (s.second there.0 there.1) ∙ e.2) in
    (sym (ap (λ k. kind (instr_of P k).op) s.index) ∙ e.0, sym s.fate ∙ e.1, there.1 ∙ ap Some same)
ended_then P t u (WasStop code) s c e = sym s.fate ∙ e

-- no stop: it has committed
pub commits_still : (P : Program) (u : Tenant) (last : Last) → u.standing ≡ Retired → EndsAs P last u → stop_in last ≡ None → commits u ≡ true
commits_still P u (WasDone v) r e n = λ i. commits_by (r i) (e i)
commits_still P u (Stored a d) r e n = λ i. commits_by (r i) (e.1 i)
commits_still P u (WasStop c) r e n = absurd (cc n)

-- The call

-- What a retirement did, from the state and the instruction at its pc
pub record HasRetired (P : Program) (C : Sizes) (old new : List Entry) (i : Instr) (half : Half) (last : Last)
    (state : State) (low : Option ℕ) (head : ℕ) : Type 0 where
  pub p : ℕ
  pub made : ℕ
  pub adds : Adds P C back old new (Does (On p (Retire made)) ∷ [])
  pub tenant : Tenant
  pub is : at (unit_of P C new).tenants p ≡ Some tenant
  pub standing : tenant.standing ≡ Retired
  pub pc : tenant.pc ≡ state.pc
  pub ends : EndsAs P last tenant
  pub first : is_first P tenant ≡ is_first_half i.op half
  pub done : is_first_half i.op half ≡ true → IsDone last
  pub level : (code : Stop) → last ≡ WasStop code → ahead_by low state ≡ state
  pub unit : KeepsUnit P C (unit_of P C new) (state_behind i half last low state) (low_in i half last) ((head + 1) % C.ring) (stop_in last)
  pub inside : StoreIsInside (length P.bytes) i last

module _ (P : Program) (C : Sizes) (old new : List Entry) (station tag index : ℕ) (half : Half) (i : Instr) (last : Last) (state : State) (low : Option ℕ) (head : ℕ)
    (r : IsRetired P C back old new station tag index half last) (k : KeepsUnit P C (unit_of P C old) state low head None) (fetched : instr_at P state.pc ≡ Some i) where
  abbrev e : Entry
  e = entry back (Does (On r.p (Retire r.n)))

  s : IsSplit back r.adds.begins.more e []
  s = split_own back r.adds.begins.more e [] (added_own P C back old new (Does (On r.p (Retire r.n)) ∷ []) r.adds)

  abbrev before : List Entry
  before = s.earlier ++ old

  new_is : new ≡ s.later ++ e ∷ before
  new_is = r.adds.begins.is ∙ (ap (λ z. z ++ old) s.is ∙ append_assoc s.later (e ∷ s.earlier) old)

  until : StartsWith new before
  until = record { more = s.later ++ e ∷ []; is = new_is ∙ sym (append_assoc s.later (e ∷ []) before) }

  legal : IsLegal P C (s.later ++ e ∷ before)
  legal = subst (IsLegal P C) new_is r.adds.legal

  legal_here : IsLegal P C (e ∷ before)
  legal_here = legal_before P C s.later (e ∷ before) legal

  abbrev U : UpdateUnit
  U = unit_of P C before

  a : Allowed P C U back (On r.p (Retire r.n))
  a = legal_here.1.1

  ok : IsSound P U.tenants
  ok = unit_sound P C before legal_here.0

  kept_before : KeepsUnit P C U state low head None
  kept_before = quiet_keeps P C state low head None s.earlier old legal_here.0 (all_quiet P C s.earlier old [] legal_here.0
      (none_to new before old until (record { more = s.earlier; is = refl }) r.adds.one_table) s.rest_is tt) k

  here : Has (unit_of P C (e ∷ before)) r.p (IsStill a.tenant)
  here = record {
    tenant = retired a.tenant r.n;
    is = gone_at P C U back r.p r.n a ok;
    fact = record { standing = refl; fate = refl; half = refl; index = refl; pc = refl; second = λ v q. q };
  }

  there : Has (unit_of P C new) r.p (IsStill a.tenant)
  there = subst (λ h. Has (unit_of P C h) r.p (IsStill a.tenant)) (sym new_is)
      (unit_lasts P C (λ W. Has W r.p (IsStill a.tenant)) (λ W by step al so h. still_stays P C a.tenant r.p W by step al so h) s.later (e ∷ before) legal here)

  ends_there : EndsAs P last there.tenant
  ends_there = subst (EndsAs P last) (same_Some r.tenant.tenant there.tenant (sym r.tenant.is ∙ there.is)) r.tenant.fact.ends

  ends_here : EndsAs P last a.tenant
  ends_here = ended_then P a.tenant there.tenant last there.fact a.may.can ends_there

  half_is : half ≡ a.tenant.half
  half_is = sym r.tenant.fact.half_is ∙ (ap (λ (u : Tenant). u.half) (same_Some r.tenant.tenant there.tenant (sym r.tenant.is ∙ there.is)) ∙ there.fact.half)

  i_is : i ≡ instr P a.tenant
  i_is = instr_is P C U back r.p r.n a ok i (subst (λ (c : State). instr_at P c.pc ≡ Some i) kept_before.state_is fetched)

  abbrev Kept_at : List Entry → Instr → Half → Type 0
  Kept_at h i half = KeepsUnit P C (unit_of P C h) (state_behind i half last low state) (low_in i half last) ((head + 1) % C.ring) (stop_in last)

  kept_here : Kept_at (e ∷ before) i half
  kept_here = subst (λ (z : Instr × Half). Kept_at (e ∷ before) z.0 z.1) (λ j. (sym i_is j, sym half_is j))
      (retires P C U back r.p r.n a ok (old_are_gone P C before legal_here.0) last ends_here state low head kept_before)

  kept_new : Kept_at new i half
  kept_new = subst (λ h. Kept_at h i half) (sym new_is)
      (quiet_keeps P C (state_behind i half last low state) (low_in i half last) ((head + 1) % C.ring) (stop_in last) s.later (e ∷ before) legal
      (all_quiet P C s.later (e ∷ before) [] legal (sym (ap renewals new_is) ∙ none_from new (e ∷ before) old (record { more = s.later; is = new_is }) (record { more = e ∷ s.earlier; is = refl })
      r.adds.one_table) s.not_own tt) kept_here)

  own_fate : FateIs P a.tenant a.tenant.fate
  own_fate = (own_sound P C U back r.p r.n a ok).own.fate

  -- it is a first half where the instruction says so
  first_here : is_first_half i.op half ≡ is_first P a.tenant
  first_here = λ j. is_first_half (i_is j).op (half_is j)

  first_there : is_first P there.tenant ≡ is_first P a.tenant
  first_there = λ j. is_first_half (instr_of P (there.fact.index j)).op (there.fact.half j)

  level_here : (code : Stop) → last ≡ WasStop code → ahead_by low state ≡ state
  level_here code q = kept_before.low_is ∙ (level_stop P C U back r.p r.n a ok code (subst (λ l. EndsAs P l a.tenant) q ends_here) ∙ sym kept_before.state_is)

  pub has_retired : HasRetired P C old new i half last state low head
  has_retired = record {
    p = r.p;
    made = r.n;
    adds = r.adds;
    tenant = there.tenant;
    is = there.is;
    standing = there.fact.standing;
    pc = there.fact.pc ∙ (pc_is P C U back r.p r.n a ok ∙ ap (λ (c : State). c.pc) (sym kept_before.state_is));
    ends = ends_there;
    first = first_there ∙ sym first_here;
    done = λ f. first_done P a.tenant (sym first_here ∙ f) last ends_here own_fate;
    level = level_here;
    unit = kept_new;
    inside = subst (λ (j : Instr). StoreIsInside (length P.bytes) j last) (sym i_is) (inside_as P a.tenant last ends_here own_fate);
  }
