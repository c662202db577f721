-- Only retirements commit.
use Rattle.std.proofs.Common.{◌≡◌, ◌≢◌, ◌≤◌, arith, ℕ, suc, Bool, true, false, cond, not, ◌&&◌, List, [], ◌∷◌, ◌++◌, Some, refl, sym, ap, ◌∙◌, subst, unwrap_or}
use Rattle.instructions.specs.Programs.{Program}
use Rattle.instructions.specs.declared.stop.Outcome.{Outcome}
use Rattle.instructions.specs.declared.stop.Outcome.TheVariants.{Address, Next, Pair, Stop as Stops, Value}
use Rattle.inorder.specs.declared.history.Act.{Act}
use Rattle.inorder.specs.declared.history.Act.TheVariants.{Claim, Deliver, Finish, Link, Load, Mend, Retire, Speculate, Squash}
use Rattle.inorder.specs.declared.history.Source.TheVariants.{First, Second}
use Rattle.inorder.specs.declared.history.Step.{Step}
use Rattle.inorder.specs.declared.history.Step.TheVariants.{Let, On, Renew}
use Rattle.inorder.specs.Committed.{ahead, commits, commits_by, committed, completes, with_tenant}
use Rattle.inorder.specs.Laws.{HistoryGrows, IsNoRetire}
use Rattle.inorder.specs.Legal.{Allowed, AreAllowed, May, Taken, applied, changed, reached}
use Rattle.inorder.specs.Machine.{State}
use Rattle.inorder.specs.Runs.{after}
use Rattle.inorder.specs.Steps.{finished, mended_as, retired}
use Rattle.inorder.specs.Tenants.{Addr, Busy, Done, Fate, Guessed, Live, Miss, Open, Stopped, Tenant, computed, is_first, stands_on_path}
use Rattle.inorder.specs.Unit.{Sizes, UpdateUnit, at, older, younger}
use Rattle.inorder.proofs.Basics.{split_at}
use Rattle.inorder.proofs.Follows.{commits_retired, state_of}
use Rattle.inorder.proofs.Grows.{all_mid}
use Rattle.inorder.proofs.Kept.{kept, parts, sound}
use Rattle.inorder.proofs.SettledRegisters.{ahead_if, committed_if, same_rest}
use Rattle.inorder.proofs.Sound.{IsSettled, IsSound, IsSoundAt, SettledBy}
use Rattle.inorder.specs.declared.history.Speculation.TheVariants.{Confirm, Flush, Guess}

pub live_not : (t : Tenant) → t.standing ≡ Live → commits t ≡ false
live_not t e = ap (λ s. commits_by s t.fate) e

-- nobody after a live tenant has committed
later : (P : Program) (t u : Tenant) (ts ys : List Tenant) (y : Tenant) → t.standing ≡ Live →
    IsSoundAt P (ys ++ t ∷ ts) y → commits y ≡ false
later P t u ts ys y live s = go (commits y) refl
  where
    go : (b : Bool) → commits y ≡ b → commits y ≡ false
    go true e =
        let r = commits_retired y.standing y.fate e in
        absurd (subst (λ x. SettledBy x t.fate) live
        (all_mid IsSettled t ts ys ((s.placed (ap stands_on_path r)).settled r)))
    go false e = e

-- nor completed an instruction
pub not_complete : (P : Program) (y : Tenant) → commits y ≡ false → completes P y ≡ false
not_complete P y e = ap (λ b. b && not (is_first P y)) e

pub over : (P : Program) (t u : Tenant) (ts ys : List Tenant) → t.standing ≡ Live → IsSound P (ys ++ t ∷ ts) →
    committed P (ys ++ u ∷ ts) ≡ committed P (u ∷ ts)
over P t u ts [] live s = refl
over P t u ts (y ∷ ys) live s =
    committed_if P y (ys ++ u ∷ ts) false (not_complete P y (later P t u ts ys y live s.0)) ∙ over P t u ts ys live s.1

pub over_ahead : (P : Program) (t u : Tenant) (ts ys : List Tenant) → t.standing ≡ Live → IsSound P (ys ++ t ∷ ts) →
    ahead P (ys ++ u ∷ ts) ≡ ahead P (u ∷ ts)
over_ahead P t u ts [] live s = refl
over_ahead P t u ts (y ∷ ys) live s =
    ahead_if P y (ys ++ u ∷ ts) false (later P t u ts ys y live s.0) ∙ over_ahead P t u ts ys live s.1

-- what a retirement begins with: its tenant is live, all are sound, and those after it leave the state ahead
pub record IsRetiring (P : Program) (us : List Tenant) (p : ℕ) (t : Tenant) : Type 0 where
  pub live : t.standing ≡ Live
  pub sound : IsSound P (younger us p ++ t ∷ older us p)
  pub ahead_is : ahead P us ≡ ahead P (older us p)

pub is_retiring : (P : Program) (C : Sizes) (U : UpdateUnit) (by p n : ℕ) (t : Tenant) → IsSound P U.tenants →
    Allowed P C U by (On p (Retire n)) → at U.tenants p ≡ Some t → IsRetiring P U.tenants p t
is_retiring P C U by p n t sound a e = record {
  live = live;
  sound = s;
  ahead_is =
      ap (ahead P) (split_at us p t e) ∙ over_ahead P t t (older us p) (younger us p) live s
      ∙ ahead_if P t (older us p) false (live_not t live);
}
  where
    us : List Tenant
    us = U.tenants

    same : a.tenant ≡ t
    same = let f = a.is in cc (sym f ∙ e)

    live : t.standing ≡ Live
    live = ap (λ x. x.standing) (sym same) ∙ a.may.live

    s : IsSound P (younger us p ++ t ∷ older us p)
    s = subst (IsSound P) (split_at us p t e) sound

pub by_retire : (P : Program) (C : Sizes) (U : UpdateUnit) (by p n : ℕ) (t : Tenant) → IsSound P U.tenants →
    Allowed P C U by (On p (Retire n)) → at U.tenants p ≡ Some t →
    committed P (applied P C U by (On p (Retire n))).tenants ≡ cond (completes P (retired t n)) (with_tenant P
    (retired t n) (ahead P U.tenants)) (committed P U.tenants)
by_retire P C U by p n t sound a e =
    let us = U.tenants in
    let ts = older us p in
    let r = is_retiring P C U by p n t sound a e in
    let before : committed P us ≡ committed P ts =
    ap (committed P) (split_at us p t e) ∙ over P t t ts (younger us p) r.live r.sound
    ∙ committed_if P t ts false (not_complete P t (live_not t r.live)) in
    ap (committed P) (parts P us by p (Retire n) t e)
    ∙ over P t (retired t n) ts (younger us p) r.live r.sound
    ∙ ap (λ v. cond (completes P (retired t n)) (with_tenant P (retired t n) (ahead P ts)) v) (sym before)
    ∙ ap (λ v. cond (completes P (retired t n)) (with_tenant P (retired t n) v) (committed P us)) (sym r.ahead_is)

-- The other steps keep the count, and so the state

count_if : (P : Program) (t : Tenant) (ts : List Tenant) →
    (committed P (t ∷ ts)).count ≡ cond (completes P t) (suc (committed P ts).count) (committed P ts).count
count_if P t ts = go (completes P t)
  where
    go : (b : Bool) → (cond b (with_tenant P t (ahead P ts)) (committed P ts)).count ≡ cond b
        (suc (committed P ts).count) (committed P ts).count
    go true = ap suc (sym (same_rest P ts).2)
    go false = refl

count_same : (P : Program) (t t' : Tenant) (ts ys : List Tenant) → completes P t' ≡ completes P t →
    (committed P (ys ++ t' ∷ ts)).count ≡ (committed P (ys ++ t ∷ ts)).count
count_same P t t' ts [] e =
    count_if P t' ts ∙ ap (λ b. cond b (suc (committed P ts).count) (committed P ts).count) e ∙ sym (count_if P t ts)
count_same P t t' ts (y ∷ ys) e =
    count_if P y (ys ++ t' ∷ ts)
    ∙ ap (λ n. cond (completes P y) (suc n) n) (count_same P t t' ts ys e)
    ∙ sym (count_if P y (ys ++ t ∷ ts))

finish_stays : (t : Tenant) (o : Outcome) → t.standing ≡ Live → commits (finished t o) ≡ commits t
finish_stays t (Value v) e = ap (λ s. commits_by s (Done v)) e ∙ sym (live_not t e)
finish_stays t (Next v) e = ap (λ s. commits_by s (finished t (Next v)).fate) e ∙ sym (live_not t e)
finish_stays t (Address v) e = ap (λ s. commits_by s (Addr v)) e ∙ sym (live_not t e)
finish_stays t (Stops v) e = ap (λ s. commits_by s (Stopped v)) e ∙ sym (live_not t e)
finish_stays t (Pair l h) e = ap (λ s. commits_by s (Done l)) e ∙ sym (live_not t e)

mend_stays : (t : Tenant) (f : Fate) → t.standing ≡ Live → commits (mended_as t f) ≡ commits t
mend_stays t Open e = refl
mend_stays t (Busy v) e = refl
mend_stays t (Addr v) e = refl
mend_stays t (Done v) e = refl
mend_stays t (Miss v) e = ap (λ s. commits_by s (Done v)) e ∙ sym (live_not t e)
mend_stays t (Guessed v) e = refl
mend_stays t (Stopped v) e = refl

pub act_stays : (P : Program) (by : ℕ) (act : Act) (ys : List Tenant) (t : Tenant) (ts : List Tenant) →
    ((n : ℕ) → act ≢ Retire n) → May P by act ys t ts → commits (changed P by act t ts) ≡ commits t
act_stays P by (Link First) ys t ts other m = refl
act_stays P by (Link Second) ys t ts other m = refl
act_stays P by (Deliver First) ys t ts other m = refl
act_stays P by (Deliver Second) ys t ts other m = refl
act_stays P by Claim ys t ts other m = ap (λ s. commits_by s (Busy by)) m.live ∙ sym (live_not t m.live)
act_stays P by Finish ys t ts other m = finish_stays t (computed P t) m.live
act_stays P by Load ys t ts other m =
    ap (λ s. commits_by s (changed P by Load t ts).fate) m.live ∙ sym (live_not t m.live)
act_stays P by (Retire n) ys t ts other m = absurd (other n refl)
act_stays P by Squash ys t ts other m = sym (live_not t m.live)
act_stays P by (Speculate (Guess v)) ys t ts other m = ap (λ s. commits_by s (Guessed v)) m.live ∙ sym (live_not t m.live)
act_stays P by (Speculate Confirm) ys t ts other m = ap (λ s. commits_by s (Done (unwrap_or t.made 0))) m.live ∙ sym (live_not t m.live)
act_stays P by (Speculate Flush) ys t ts other m = sym (live_not t m.live)
act_stays P by Mend ys t ts other m = mend_stays t t.fate m.live

half_stays : (P : Program) (by : ℕ) (act : Act) (t : Tenant) (ts : List Tenant) →
    is_first P (changed P by act t ts) ≡ is_first P t
half_stays P by (Link First) t ts = refl
half_stays P by (Link Second) t ts = refl
half_stays P by (Deliver First) t ts = refl
half_stays P by (Deliver Second) t ts = refl
half_stays P by Claim t ts = refl
half_stays P by Finish t ts = go (computed P t)
  where
    go : (o : Outcome) → is_first P (finished t o) ≡ is_first P t
    go (Value v) = refl
    go (Next v) = refl
    go (Address v) = refl
    go (Stops v) = refl
    go (Pair l h) = refl
half_stays P by Load t ts = refl
half_stays P by (Retire n) t ts = refl
half_stays P by Squash t ts = refl
half_stays P by (Speculate (Guess v)) t ts = refl
half_stays P by (Speculate Confirm) t ts = refl
half_stays P by (Speculate Flush) t ts = refl
half_stays P by Mend t ts = go t.fate
  where
    go : (f : Fate) → is_first P (mended_as t f) ≡ is_first P t
    go Open = refl
    go (Busy v) = refl
    go (Addr v) = refl
    go (Done v) = refl
    go (Guessed v) = refl
    go (Miss v) = refl
    go (Stopped v) = refl

both_stay : (P : Program) (by : ℕ) (act : Act) (ys : List Tenant) (t : Tenant) (ts : List Tenant) →
    ((n : ℕ) → act ≢ Retire n) → May P by act ys t ts → completes P (changed P by act t ts) ≡ completes P t
both_stay P by act ys t ts other m =
    ap (λ b. b && not (is_first P (changed P by act t ts))) (act_stays P by act ys t ts other m)
    ∙ ap (λ b. commits t && not b) (half_stays P by act t ts)

pub is_other : (p : ℕ) (act : Act) → IsNoRetire (On p act) → (n : ℕ) → act ≢ Retire n
is_other p (Retire m) h n e = h
is_other p (Link k) h n e = cc
is_other p (Deliver k) h n e = cc
is_other p Claim h n e = cc
is_other p Finish h n e = cc
is_other p Load h n e = cc
is_other p Squash h n e = cc
is_other p (Speculate s) h n e = cc
is_other p Mend h n e = cc

count_kept : (P : Program) (C : Sizes) (U : UpdateUnit) (by : ℕ) (s : Step) → IsNoRetire s →
    Allowed P C U by s → (committed P (applied P C U by s).tenants).count ≡ (committed P U.tenants).count
count_kept P C U by (Let index predicted first second) other a = refl
count_kept P C U by (On p act) other a =
    let ts = U.tenants in
    let t = a.tenant in
    let t' = changed P by act t (older ts p) in
    ap (λ V. (committed P V).count) (parts P ts by p act t a.is)
    ∙ count_same P t t' (older ts p) (younger ts p) (both_stay P by act (younger ts p) t (older ts p)
    (is_other p act other) a.may)
    ∙ ap (λ V. (committed P V).count) (sym (split_at ts p t a.is))
count_kept P C U by Renew other a = refl

pub by_others : (P : Program) (C : Sizes) (U : UpdateUnit) (by : ℕ) (s : Step) → IsSound P U.tenants →
    IsNoRetire s → Allowed P C U by s → committed P (applied P C U by s).tenants ≡ committed P U.tenants
by_others P C U by s sound other a =
    let before = state_of P U.tenants sound in
    let now = state_of P (applied P C U by s).tenants (kept P C U by s a sound) in
    let same = count_kept P C U by s other a in
    let both : Some (committed P (applied P C U by s).tenants) ≡ Some (committed P U.tenants) = sym now
    ∙ ap (after P) same ∙ before in
    cc both

-- A longer history

one_more : (b : Bool) (P : Program) (t : Tenant) (a s : State) → s.count ≡ a.count → s.count ≤ (cond b (with_tenant P t a) s).count
one_more true P t a s e = omega (arith, e)
one_more false P t a s e = omega arith

-- one step more
step_count : (P : Program) (C : Sizes) (U : UpdateUnit) (by : ℕ) (s : Step) → IsSound P U.tenants →
    Allowed P C U by s → (committed P U.tenants).count ≤ (committed P (applied P C U by s).tenants).count
step_count P C U by (On p (Retire n)) s a =
    let e = ap (λ v. v.count) (by_retire P C U by p n a.tenant s a a.is) in
    let m = one_more (completes P (retired a.tenant n)) P (retired a.tenant n) (ahead P U.tenants) (committed P U.tenants) (same_rest P U.tenants).2 in
    omega (arith, e, m)
step_count P C U by (Let index predicted first second) s a =
    let e = count_kept P C U by (Let index predicted first second) tt a in omega (arith, e)
step_count P C U by (On p (Link k)) s a = let e = count_kept P C U by (On p (Link k)) tt a in omega (arith, e)
step_count P C U by (On p (Deliver k)) s a =
    let e = count_kept P C U by (On p (Deliver k)) tt a in omega (arith, e)
step_count P C U by (On p Claim) s a = let e = count_kept P C U by (On p Claim) tt a in omega (arith, e)
step_count P C U by (On p Finish) s a = let e = count_kept P C U by (On p Finish) tt a in omega (arith, e)
step_count P C U by (On p Load) s a = let e = count_kept P C U by (On p Load) tt a in omega (arith, e)
step_count P C U by (On p Squash) s a = let e = count_kept P C U by (On p Squash) tt a in omega (arith, e)
step_count P C U by (On p (Speculate q)) s a = let e = count_kept P C U by (On p (Speculate q)) tt a in omega (arith, e)
step_count P C U by (On p Mend) s a = let e = count_kept P C U by (On p Mend) tt a in omega (arith, e)
step_count P C U by Renew s a = omega arith

allowed_before : (P : Program) (C : Sizes) (more history : List Taken) → AreAllowed P C (more ++ history) →
    AreAllowed P C history
allowed_before P C [] history a = a
allowed_before P C (s ∷ more) history a = allowed_before P C more history a.0

count_before : (P : Program) (C : Sizes) (more history : List Taken) → AreAllowed P C (more ++ history) →
    (committed P (reached P C history).tenants).count ≤ (committed P
    (reached P C (more ++ history)).tenants).count
count_before P C [] history a = omega arith
count_before P C (s ∷ more) history a =
    let e = count_before P C more history a.0 in
    let f = step_count P C (reached P C (more ++ history)) s.by s.step (sound P C (more ++ history) a.0) a.1 in
    omega (arith, e, f)

pub grows : (P : Program) (C : Sizes) (more history : List Taken) → HistoryGrows P C more history
grows P C more history =
    record { allowed = allowed_before P C more history; count = count_before P C more history }
