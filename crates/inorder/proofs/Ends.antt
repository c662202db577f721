-- What of the oldest and of the youngest live tenant the steps of others keep.
use Rattle.std.proofs.Common.{◌≡◌, ◌≢◌, ◌⊎◌, ℕ, ◌<◌, Bool, true, false, cond, eqb, eqb-true, List, [], ◌∷◌, length, Option, Some, refl, sym, ap, ◌∙◌, subst, inl, inr, ⊎_elim, arith}
use Rattle.std.proofs.lemmas.Option.{same_Some}
use Rattle.instructions.specs.Instruction.{kind}
use Rattle.instructions.specs.Programs.{Program, instr_of}
use Rattle.instructions.specs.declared.op.Kind.{Kind}
use Rattle.inorder.specs.declared.history.Act.{Act}
use Rattle.inorder.specs.declared.history.Act.TheVariants.{Claim, Deliver, Finish, Link, Load, Mend, Retire, Speculate, Squash}
use Rattle.inorder.specs.declared.history.Source.TheVariants.{First, Second}
use Rattle.inorder.specs.declared.history.Step.{Step}
use Rattle.inorder.specs.declared.history.Step.TheVariants.{Let, On, Renew}
use Rattle.inorder.specs.Callers.{CanLeave, CanMend, CanSquash, IsMissing, IsYoungestLive}
use Rattle.inorder.specs.Legal.{Allowed, May, applied, changed}
use Rattle.inorder.specs.Replies.{Has}
use Rattle.inorder.specs.Steps.{CanRetire, IsNoRetiredStop, MayMend, MayRetire, MaySquash, new_tenant}
use Rattle.inorder.specs.Tenants.{Addr, Busy, Done, Fate, Guessed, IsNotLive, Live, Miss, Open, Retired, Stopped, Tenant, computed, kind_of}
use Rattle.inorder.specs.Unit.{Sizes, UpdateUnit, at, older, younger}
use Rattle.inorder.proofs.Basics.{eqb_less}
use Rattle.inorder.proofs.Letting.{IsBesides, IsBesidesAct}
use Rattle.inorder.proofs.Moves.{IsActed, IsLeft, at_changed, came, goes}
use Rattle.inorder.proofs.Positions.{all_at, at_below, at_more, at_there, not_eqb, older_at, older_from, younger_from}
use Rattle.inorder.proofs.Sound.{IsSound}
use Rattle.inorder.proofs.Stations.{finished_station, mended_station}
use Rattle.inorder.specs.declared.history.Speculation.TheVariants.{Confirm, Flush, Guess}
use Rattle.inorder.specs.Speculation.{MayFlush}

-- the tenant at q stays as it is, or the step acts on it
pub record Acted (P : Program) (U : UpdateUnit) (by : ℕ) (s : Step) (vs : List Tenant) (q : ℕ) (t : Tenant) : Type 0 where
  pub p : ℕ
  pub act : Act
  pub step : s ≡ On p act
  pub may : May P by act (younger U.tenants q) t (older U.tenants q)
  pub now : at vs q ≡ Some (changed P by act t (older U.tenants q))

pub exact : (P : Program) (C : Sizes) (U : UpdateUnit) (by : ℕ) (s : Step) → Allowed P C U by s → (q : ℕ) (t : Tenant) → at U.tenants q ≡ Some t
    → (at (applied P C U by s).tenants q ≡ Some t) ⊎ Acted P U by s (applied P C U by s).tenants q t
exact P C U by (Let index predicted first second) a q t is = inl (at_more (new_tenant P C U index predicted first second) U.tenants q t is)
exact P C U by (On p act) a q t is =
    let ts = U.tenants in ⊎_elim
    (λ (z : IsActed P ts by p act a.tenant q t). inr (record {
      p = p;
      act = act;
      step = refl;
      may = subst (λ (x : ℕ × Tenant). May P by act (younger ts x.0) x.1 (older ts x.0)) (λ i. (sym z.position i, sym z.tenant i)) a.may;
      now = z.now ∙ (λ i. Some (changed P by act (sym z.tenant i) (older ts (sym z.position i))));
    }))
    (λ (z : IsLeft P ts by p act q t). inl z.now)
    (at_changed P ts by p act a.tenant a.is q t is)
exact P C U by Renew a q t is = inl is

-- a tenant stays where it stands, unless it retires, or is squashed or flushed
pub data Leaves (P : Program) (ys : List Tenant) (t : Tenant) (ts : List Tenant) : Type 0 where
  retires : (n : ℕ) → MayRetire P n ts t → Leaves P ys t ts
  is_squashed : MaySquash ys t ts → Leaves P ys t ts
  is_flushed : MayFlush ys t → Leaves P ys t ts

pub stands_on : (P : Program) (by : ℕ) (act : Act) (ys : List Tenant) (t : Tenant) (ts : List Tenant) → May P by act ys t ts → ((changed P by act t ts).standing ≡ t.standing) ⊎ Leaves P ys t ts
stands_on P by (Link First) ys t ts m = inl refl
stands_on P by (Link Second) ys t ts m = inl refl
stands_on P by (Deliver First) ys t ts m = inl refl
stands_on P by (Deliver Second) ys t ts m = inl refl
stands_on P by Claim ys t ts m = inl refl
stands_on P by Finish ys t ts m = inl (finished_station t (computed P t)).1
stands_on P by Load ys t ts m = inl refl
stands_on P by (Retire n) ys t ts m = inr (retires n m)
stands_on P by Squash ys t ts m = inr (is_squashed m)
stands_on P by (Speculate (Guess v)) ys t ts m = inl refl
stands_on P by (Speculate Confirm) ys t ts m = inl refl
stands_on P by (Speculate Flush) ys t ts m = inr (is_flushed m)
stands_on P by Mend ys t ts m = inl (mended_station t t.fate).1

-- others than the front squash none
besides_squash : (P : Program) (by : ℕ) (act : Act) (ys : List Tenant) (t : Tenant) (ts : List Tenant) →
    IsBesidesAct act → May P by act ys t ts →
    ((changed P by act t ts).standing ≡ t.standing) ⊎ ((n : ℕ) × MayRetire P n ts t)
besides_squash P by (Link k) ys t ts b m = absurd b
besides_squash P by (Deliver First) ys t ts b m = inl refl
besides_squash P by (Deliver Second) ys t ts b m = inl refl
besides_squash P by Claim ys t ts b m = inl refl
besides_squash P by Finish ys t ts b m = inl (finished_station t (computed P t)).1
besides_squash P by Load ys t ts b m = inl refl
besides_squash P by (Retire n) ys t ts b m = inr (n, m)
besides_squash P by Squash ys t ts b m = absurd b
besides_squash P by (Speculate s) ys t ts b m = absurd b
besides_squash P by Mend ys t ts b m = absurd b

-- a miss stays one, but for the front
miss_on : (P : Program) (by : ℕ) (act : Act) (ys : List Tenant) (t : Tenant) (ts : List Tenant) (x : ℕ) →
    IsBesidesAct act → May P by act ys t ts → t.fate ≡ Miss x → (changed P by act t ts).fate ≡ Miss x
miss_on P by (Link k) ys t ts x b m e = absurd b
miss_on P by (Deliver First) ys t ts x b m e = e
miss_on P by (Deliver Second) ys t ts x b m e = e
miss_on P by Claim ys t ts x b m e = let f = m.fate in absurd (cc)
miss_on P by Finish ys t ts x b m e = let f = m.fate in absurd (cc)
miss_on P by Load ys t ts x b m e = let f = m.fate in absurd (cc)
miss_on P by (Retire n) ys t ts x b m e = e
miss_on P by Squash ys t ts x b m e = absurd b
miss_on P by (Speculate s) ys t ts x b m e = absurd b
miss_on P by Mend ys t ts x b m e = absurd b

pub no_retire_miss : (P : Program) (t : Tenant) (ts : List Tenant) (x n : ℕ) → t.fate ≡ Miss x → MayRetire P n ts t → ⊥
no_retire_miss P t ts x n e m = subst (CanRetire (kind_of P t) t.second.value) e m.can

-- A live miss

pub miss_stays : (P : Program) (C : Sizes) (U : UpdateUnit) (by : ℕ) (s : Step) → IsBesides s → Allowed P C U by s → (p x : ℕ) → Has U p (IsMissing x) → Has (applied P C U by s) p (IsMissing x)
miss_stays P C U by s b a p x i = ⊎_elim
    (λ e. record { tenant = i.tenant; is = e; fact = i.fact })
    (λ (z : Acted P U by s (applied P C U by s).tenants p i.tenant). let b' : IsBesidesAct z.act = subst IsBesides z.step b in ⊎_elim
    (λ e. record {
      tenant = changed P by z.act i.tenant (older U.tenants p);
      is = z.now;
      fact = record {
        live = e ∙ i.fact.live;
        fate = miss_on P by z.act (younger U.tenants p) i.tenant (older U.tenants p) x b' z.may i.fact.fate;
      };
    })
    (λ m. absurd (no_retire_miss P i.tenant (older U.tenants p) x m.0 i.fact.fate m.1))
    (besides_squash P by z.act (younger U.tenants p) i.tenant (older U.tenants p) b' z.may))
    (exact P C U by s a p i.tenant i.is)

-- The youngest live tenant

pub youngest_stays : (P : Program) (C : Sizes) (U : UpdateUnit) (by : ℕ) (s : Step) → IsBesides s →
    Allowed P C U by s → IsSound P U.tenants → (p : ℕ) → IsYoungestLive U p →
    IsYoungestLive (applied P C U by s) p
youngest_stays P C U by (Let i x f n) b a ok p y = absurd b
youngest_stays P C U by (On r act) b a ok p y = λ q t lt is live. let was = came P C U by r act a ok q t is in y q was.tenant lt was.is (was.goes.live live)
youngest_stays P C U by Renew b a ok p y = y

-- it may be squashed: an older one is a live miss
pub squash_stays : (P : Program) (C : Sizes) (U : UpdateUnit) (by : ℕ) (s : Step) → IsBesides s → Allowed P C U by s → IsSound P U.tenants → (p : ℕ) → CanSquash U p → CanSquash (applied P C U by s) p
squash_stays P C U by s b a ok p c = ⊎_elim
    (λ e. go c.tenant.tenant e c.tenant.fact)
    (λ (z : Acted P U by s (applied P C U by s).tenants p c.tenant.tenant). let b' : IsBesidesAct z.act = subst IsBesides z.step b in ⊎_elim
    (λ e. go (changed P by z.act c.tenant.tenant (older U.tenants p)) z.now (e ∙ c.tenant.fact))
    (λ m. absurd (older_at IsNotLive U.tenants p (at_below U.tenants p c.tenant.tenant c.tenant.is) m.1.oldest c.q c.miss.tenant c.before c.miss.is c.miss.fact.live))
    (besides_squash P by z.act (younger U.tenants p) c.tenant.tenant (older U.tenants p) b' z.may))
    (exact P C U by s a p c.tenant.tenant c.tenant.is)
  where
    go : (t : Tenant) → at (applied P C U by s).tenants p ≡ Some t → t.standing ≡ Live → CanSquash (applied P C U by s) p
    go t is live = record {
      tenant = record { tenant = t; is = is; fact = live };
      youngest = youngest_stays P C U by s b a ok p c.youngest;
      q = c.q;
      x = c.x;
      before = c.before;
      miss = miss_stays P C U by s b a c.q c.x c.miss;
    }

pub mend_stays : (P : Program) (C : Sizes) (U : UpdateUnit) (by : ℕ) (s : Step) → IsBesides s → Allowed P C U by s → IsSound P U.tenants → (p x : ℕ) → CanMend U p x → CanMend (applied P C U by s) p x
mend_stays P C U by s b a ok p x c = record { miss = miss_stays P C U by s b a p x c.miss; youngest = youngest_stays P C U by s b a ok p c.youngest }

pub at_older : (us : List Tenant) (p q : ℕ) (t : Tenant) → p < length us → q < p → at us q ≡ Some t → at (older us p) q ≡ Some t
at_older [] p q t below lt e = absurd (cc)
at_older (u ∷ us) p q t below lt e = go (eqb p (length us)) refl (at_older us p q t)
  where
    at_rest : q < length us → at us q ≡ Some t
    at_rest small = ap (λ b. cond b (Some u) (at us q)) (sym (eqb_less q (length us) small)) ∙ e

    go : (b : Bool) → eqb p (length us) ≡ b → (p < length us → q < p → at us q ≡ Some t → at (older us p) q ≡ Some t) → at (cond b us (older us p)) q ≡ Some t
    go true f more = let same = eqb-true p (length us) f in at_rest (omega arith)
    go false f more = let ne = not_eqb p (length us) f in more (omega arith) lt (at_rest (omega arith))

pub may_squash : (U : UpdateUnit) (p : ℕ) (c : CanSquash U p) → MaySquash (younger U.tenants p) c.tenant.tenant (older U.tenants p)
may_squash U p c =
    let below = at_below U.tenants p c.tenant.tenant c.tenant.is in
    record {
      live = c.tenant.fact;
      youngest = younger_from IsNotLive U.tenants p below (λ q t lt e. c.youngest q t lt e);
      p = c.q;
      miss = c.miss.tenant;
      x = c.x;
      miss_at = at_older U.tenants p c.q c.miss.tenant below c.before c.miss.is;
      miss_live = c.miss.fact.live;
      miss_fate = c.miss.fact.fate;
    }

pub may_mend : (U : UpdateUnit) (p x : ℕ) (c : CanMend U p x) → MayMend (younger U.tenants p) c.miss.tenant
may_mend U p x c = record {
  live = c.miss.fact.live;
  youngest = younger_from IsNotLive U.tenants p (at_below U.tenants p c.miss.tenant c.miss.is) (λ q u lt e. c.youngest q u lt e);
  x = x;
  fate = c.miss.fact.fate;
}

-- The oldest live tenant, for the back

abbrev pub IsNotBacksAct : Act → Type 0
IsNotBacksAct Load = ⊥
IsNotBacksAct (Retire n) = ⊥
IsNotBacksAct (Speculate s) = ⊥
IsNotBacksAct _ = Unit {0}

-- any act but a retirement, and none of speculation
abbrev pub IsPlainAct : Act → Type 0
IsPlainAct (Retire n) = ⊥
IsPlainAct (Speculate s) = ⊥
IsPlainAct _ = Unit {0}

abbrev pub IsNotBacks : Step → Type 0
IsNotBacks (Let index predicted first second) = Unit {0}
IsNotBacks (On p act) = IsNotBacksAct act
IsNotBacks Renew = ⊥

pub may_retire : (P : Program) (U : UpdateUnit) (p n : ℕ) (f : Fate) (c : CanLeave P U p f) → n < 4294967296 → MayRetire P n (older U.tenants p) c.tenant
may_retire P U p n f c small =
    let below = at_below U.tenants p c.tenant c.is in
    record {
      small = small;
      live = c.live;
      oldest = older_from IsNotLive U.tenants p below (λ q u lt e. c.oldest q u lt e);
      no_stop = older_from IsNoRetiredStop U.tenants p below (λ q u lt e. c.no_stop q u lt e);
      can = subst (CanRetire (kind_of P c.tenant) c.tenant.second.value) (sym c.fate) c.can;
    }

-- a fate that can retire stays
ready_fate : (P : Program) (by : ℕ) (act : Act) (ys : List Tenant) (t : Tenant) (ts : List Tenant) (f : Fate) →
    IsNotBacksAct act → May P by act ys t ts → t.fate ≡ f → CanRetire (kind_of P t) t.second.value f →
    (changed P by act t ts).fate ≡ f
ready_fate P by (Link First) ys t ts f b m e c = e
ready_fate P by (Link Second) ys t ts f b m e c = e
ready_fate P by (Deliver First) ys t ts f b m e c = e
ready_fate P by (Deliver Second) ys t ts f b m e c = e
ready_fate P by Claim ys t ts f b m e c = absurd (subst (CanRetire (kind_of P t) t.second.value) (sym e ∙ m.fate) c)
ready_fate P by Finish ys t ts f b m e c = absurd (subst (CanRetire (kind_of P t) t.second.value) (sym e ∙ m.fate) c)
ready_fate P by Load ys t ts f b m e c = absurd b
ready_fate P by (Retire n) ys t ts f b m e c = absurd b
ready_fate P by Squash ys t ts f b m e c = e
ready_fate P by (Speculate s) ys t ts f b m e c = absurd b
ready_fate P by Mend ys t ts f b m e c = absurd (subst (CanRetire (kind_of P t) t.second.value) (sym e ∙ m.fate) c)

can_more : (k k' : Kind) (b b' : Option ℕ) (f : Fate) → k' ≡ k → ((v : ℕ) → b ≡ Some v → b' ≡ Some v) → CanRetire k b f → CanRetire k' b' f
can_more k k' b b' Open e g c = absurd c
can_more k k' b b' (Busy by) e g c = absurd c
can_more k k' b b' (Addr a) e g c = (e ∙ c.0, (c.1.0, g c.1.0 c.1.1))
can_more k k' b b' (Done v) e g c = tt
can_more k k' b b' (Guessed x) e g c = absurd c
can_more k k' b b' (Miss x) e g c = absurd c
can_more k k' b b' (Stopped x) e g c = tt

-- a retired tenant keeps its fate, and none retires here
pub retired_on : (P : Program) (by : ℕ) (act : Act) (ys : List Tenant) (t : Tenant) (ts : List Tenant) →
    IsNotBacksAct act → May P by act ys t ts → (changed P by act t ts).standing ≡ Retired →
    (t.standing ≡ Retired) × ((changed P by act t ts).fate ≡ t.fate)
retired_on P by (Link First) ys t ts b m e = (e, refl)
retired_on P by (Link Second) ys t ts b m e = (e, refl)
retired_on P by (Deliver First) ys t ts b m e = (e, refl)
retired_on P by (Deliver Second) ys t ts b m e = (e, refl)
retired_on P by Claim ys t ts b m e = let l = m.live in absurd (cc)
retired_on P by Finish ys t ts b m e = let l : t.standing ≡ Retired = sym (finished_station t (computed P t)).1 ∙ e in let k = m.live in absurd (cc)
retired_on P by Load ys t ts b m e = absurd b
retired_on P by (Retire n) ys t ts b m e = absurd b
retired_on P by Squash ys t ts b m e = absurd (cc)
retired_on P by (Speculate s) ys t ts b m e = absurd b
retired_on P by Mend ys t ts b m e = let l : t.standing ≡ Retired = sym (mended_station t t.fate).1 ∙ e in let k = m.live in absurd (cc)

no_stop_on : (t : Tenant) (t' : Tenant) → IsNoRetiredStop t → (t'.standing ≡ Retired → (t.standing ≡ Retired) × (t'.fate ≡ t.fate)) → IsNoRetiredStop t'
no_stop_on t t' n f e c g = let x = f e in n x.0 c (sym x.1 ∙ g)

module _ (P : Program) (C : Sizes) (U : UpdateUnit) (by : ℕ) (s : Step) (b : IsNotBacks s) (a : Allowed P C U by s) (ok : IsSound P U.tenants) where
  abbrev us : List Tenant
  us = U.tenants

  abbrev V : UpdateUnit
  V = applied P C U by s

  -- no older tenant becomes live, or a retired stop
  older_live : (p q : ℕ) (t : Tenant) → p < length us → q < p → at V.tenants q ≡ Some t → t.standing ≡ Live → (u : Tenant) × (at us q ≡ Some u) × (u.standing ≡ Live)
  older_live p q t below lt is live =
      let o = at_there us q (omega arith) in
      let g = goes P C U by s a ok q o.0 o.1 in
      (o.0, o.1, g.goes.live (ap (λ (x : Tenant). x.standing) (same_Some g.tenant t (sym g.is ∙ is)) ∙ live))

  pub still_no_stop : (p q : ℕ) (t : Tenant) → p < length us → q < p → ((u : Tenant) → at us q ≡ Some u → IsNoRetiredStop u) → at V.tenants q ≡ Some t → IsNoRetiredStop t
  still_no_stop p q t below lt quiet is =
      let o = at_there us q (omega arith) in ⊎_elim
      (λ (e : at V.tenants q ≡ Some o.0). subst IsNoRetiredStop (same_Some o.0 t (sym e ∙ is)) (quiet o.0 o.1))
      (λ (z : Acted P U by s V.tenants q o.0). let b' : IsNotBacksAct z.act = subst IsNotBacks z.step b in
      subst IsNoRetiredStop (same_Some (changed P by z.act o.0 (older us q)) t (sym z.now ∙ is)) (no_stop_on o.0 (changed P by z.act o.0 (older us q)) (quiet o.0 o.1)
      (retired_on P by z.act (younger us q) o.0 (older us q) b' z.may)))
      (exact P C U by s a q o.0 o.1)

  module _ (p : ℕ) (t : Tenant) (is : at us p ≡ Some t) (live : t.standing ≡ Live) (oldest : (q : ℕ) (u : Tenant) → q < p → at us q ≡ Some u → u.standing ≢ Live) where
    below : p < length us
    below = at_below us p t is

    -- the oldest live tenant is squashed by nobody, and only the back retires it; a flush could take it
    keeps : (act : Act) → IsNotBacksAct act → May P by act (younger us p) t (older us p) → (changed P by act t (older us p)).standing ≡ t.standing
    keeps (Link First) b m = refl
    keeps (Link Second) b m = refl
    keeps (Deliver First) b m = refl
    keeps (Deliver Second) b m = refl
    keeps Claim b m = refl
    keeps Finish b m = (finished_station t (computed P t)).1
    keeps Load b m = absurd b
    keeps (Retire n) b m = absurd b
    keeps Squash b m = absurd (all_at IsNotLive (older us p) (older_from IsNotLive us p below (λ q u lt e. oldest q u lt e)) m.p m.miss m.miss_at m.miss_live)
    keeps (Speculate s) b m = absurd b
    keeps Mend b m = (mended_station t t.fate).1

    pub oldest_live : (u : Tenant) → at V.tenants p ≡ Some u → u.standing ≡ Live
    oldest_live u at_p = ⊎_elim
        (λ e. ap (λ (x : Tenant). x.standing) (same_Some u t (sym at_p ∙ e)) ∙ live)
        (λ (z : Acted P U by s V.tenants p t). ap (λ (x : Tenant). x.standing) (same_Some u (changed P by z.act t (older us p)) (sym at_p ∙ z.now)) ∙
        (keeps z.act (subst IsNotBacks z.step b) z.may ∙ live))
        (exact P C U by s a p t is)

    pub still_oldest : (q : ℕ) (u : Tenant) → q < p → at V.tenants q ≡ Some u → u.standing ≢ Live
    still_oldest q u lt there l = let o = older_live p q u below lt there l in oldest q o.0 lt o.1 o.2

  pub leave_stays : (p : ℕ) (f : Fate) → CanLeave P U p f → CanLeave P V p f
  leave_stays p f c =
      let m = goes P C U by s a ok p c.tenant c.is in
      let same : kind_of P m.tenant ≡ kind_of P c.tenant = ap (λ k. kind (instr_of P k).op) m.goes.index in
      record {
        tenant = m.tenant;
        is = m.is;
        live = oldest_live p c.tenant c.is c.live c.oldest m.tenant m.is;
        oldest = still_oldest p c.tenant c.is c.live c.oldest;
        no_stop = λ q t lt is. still_no_stop p q t (at_below us p c.tenant c.is) lt (λ u e. c.no_stop q u lt e) is;
        fate = still_fate m.tenant m.is;
        can = can_more (kind_of P c.tenant) (kind_of P m.tenant) c.tenant.second.value m.tenant.second.value f same (m.goes.value Second) c.can;
      }
    where
      still_fate : (t : Tenant) → at V.tenants p ≡ Some t → t.fate ≡ f
      still_fate t is = ⊎_elim
          (λ e. ap (λ (x : Tenant). x.fate) (same_Some t c.tenant (sym is ∙ e)) ∙ c.fate)
          (λ (z : Acted P U by s V.tenants p c.tenant). ap (λ (x : Tenant). x.fate) (same_Some t (changed P by z.act c.tenant (older us p)) (sym is ∙ z.now)) ∙
          ready_fate P by z.act (younger us p) c.tenant (older us p) f (subst IsNotBacks z.step b) z.may c.fate c.can)
          (exact P C U by s a p c.tenant c.is)
