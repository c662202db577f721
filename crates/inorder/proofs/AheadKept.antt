-- What a retirement adds to the state that a new tenant finds, and that no other step changes it.
use Rattle.std.proofs.Common.{◌≡◌, ◌≢◌, ℕ, Bool, true, false, cond, List, [], ◌∷◌, ◌++◌, Some, refl, sym, ap, ◌∙◌, subst, ⊎_elim}
use Rattle.instructions.specs.Programs.{Program}
use Rattle.instructions.specs.declared.op.Kind.{Kind}
use Rattle.instructions.specs.declared.op.Kind.TheVariants.{Computes, Jumps, Links, Loads, Stores}
use Rattle.inorder.specs.declared.history.Act.{Act}
use Rattle.inorder.specs.declared.history.Act.TheVariants.{Claim, Deliver, Finish, Link, Load, Mend, Retire, Speculate, Squash}
use Rattle.inorder.specs.declared.history.Source.{Source}
use Rattle.inorder.specs.declared.history.Source.TheVariants.{First, Second}
use Rattle.inorder.specs.declared.history.Step.{Step}
use Rattle.inorder.specs.declared.history.Step.TheVariants.{Let, On, Renew}
use Rattle.inorder.specs.Committed.{ahead, commits, with_retired}
use Rattle.inorder.specs.Laws.{IsNoRetire, OnlyRetirementsCommit}
use Rattle.inorder.specs.Legal.{Allowed, May, Taken, applied, changed, reached}
use Rattle.inorder.specs.Machine.{State}
use Rattle.inorder.specs.Steps.{MayDeliver, linked, retired}
use Rattle.inorder.specs.Tenants.{IsThere, Tenant, is_first, kind_of}
use Rattle.inorder.specs.Unit.{Sizes, UpdateUnit, at, older, younger}
use Rattle.inorder.proofs.Basics.{split_at}
use Rattle.inorder.proofs.Commits.{act_stays, by_others, by_retire, is_other, is_retiring, over_ahead}
use Rattle.inorder.proofs.Follows.{commits_retired}
use Rattle.inorder.proofs.Grows.{sound_mid}
use Rattle.inorder.proofs.InOrderStep.{needs_of}
use Rattle.inorder.proofs.Kept.{parts, sound}
use Rattle.inorder.proofs.SettledRegisters.{ahead_if, retired_leaves, retired_on}
use Rattle.inorder.proofs.Sound.{DoneIs, IsSound, IsSoundAt, Needs}
use Rattle.inorder.proofs.Speculating.{speculates_live}

-- a tenant that commits has its sources
full_by : (P : Program) (t : Tenant) (v : ℕ) (k : Kind) → Needs k t.first.value t.second.value → DoneIs P t v k →
    IsThere t.first.value × IsThere t.second.value
full_by P t v Computes n d = n
full_by P t v Jumps n d = n
full_by P t v Links n d = n
full_by P t v Loads n d = n
full_by P t v Stores n d = absurd d

full : (P : Program) (ts : List Tenant) (t : Tenant) → IsSoundAt P ts t → commits t ≡ true →
    IsThere t.first.value × IsThere t.second.value
full P ts t s c =
    let e = commits_retired t.standing t.fate c in
    let n = needs_of P t t.fate s.own.fate ((s.placed (retired_on t e)).can e) in
    ⊎_elim
    (λ d. full_by P t d.0 (kind_of P t) n d.2)
    (λ d. (subst (λ k. Needs k t.first.value t.second.value) d.3 n, d.4))
    (retired_leaves P t ts s e c)

nothing_due : (P : Program) (ts : List Tenant) (t : Tenant) (k : Source) → IsSoundAt P ts t → commits t ≡ true →
    MayDeliver ts t k → ⊥
nothing_due P ts t First s c m = let f = (full P ts t s c).0 in let e = m.waits in let x = f.1 in cc
nothing_due P ts t Second s c m = let f = (full P ts t s c).1 in let e = m.waits in let x = f.1 in cc

-- a link changes nothing of it
link_same : (P : Program) (ts : List Tenant) (t : Tenant) (k : Source) (s : State) (b : Bool) →
    with_retired b P (linked ts t k) s ≡ with_retired b P t s
link_same P ts t First s true = refl
link_same P ts t First s false = refl
link_same P ts t Second s true = refl
link_same P ts t Second s false = refl

link_first : (P : Program) (ts : List Tenant) (t : Tenant) (k : Source) → is_first P (linked ts t k) ≡ is_first P t
link_first P ts t First = refl
link_first P ts t Second = refl

link_leaves : (P : Program) (ts : List Tenant) (t : Tenant) (k : Source) (s : State) →
    with_retired (is_first P (linked ts t k)) P (linked ts t k) s ≡ with_retired (is_first P t) P t s
link_leaves P ts t k s =
    ap (λ b. with_retired b P (linked ts t k) s) (link_first P ts t k) ∙ link_same P ts t k s (is_first P t)

-- what it leaves stays
leaves_same : (P : Program) (by : ℕ) (act : Act) (ys : List Tenant) (t : Tenant) (ts : List Tenant) (s : State) →
    ((n : ℕ) → act ≢ Retire n) → May P by act ys t ts → IsSoundAt P ts t → commits t ≡ true →
    with_retired (is_first P (changed P by act t ts)) P (changed P by act t ts) s ≡ with_retired (is_first P t) P t s
leaves_same P by (Link k) ys t ts s other m so c = link_leaves P ts t k s
leaves_same P by (Deliver k) ys t ts s other m so c = absurd (nothing_due P ts t k so c m)
leaves_same P by Claim ys t ts s other m so c = let e = commits_retired t.standing t.fate c in let l = m.live in absurd (cc)
leaves_same P by Finish ys t ts s other m so c = let e = commits_retired t.standing t.fate c in let l = m.live in absurd (cc)
leaves_same P by Load ys t ts s other m so c = let e = commits_retired t.standing t.fate c in let l = m.live in absurd (cc)
leaves_same P by (Retire n) ys t ts s other m so c = absurd (other n refl)
leaves_same P by Squash ys t ts s other m so c = let e = commits_retired t.standing t.fate c in let l = m.live in absurd (cc)
leaves_same P by (Speculate q) ys t ts s other m so c = let e = commits_retired t.standing t.fate c in let l = speculates_live P q ys t ts m in absurd (cc)
leaves_same P by Mend ys t ts s other m so c = let e = commits_retired t.standing t.fate c in let l = m.live in absurd (cc)

ahead_lift : (P : Program) (us vs ys : List Tenant) → ahead P us ≡ ahead P vs → ahead P (ys ++ us) ≡ ahead P (ys ++ vs)
ahead_lift P us vs [] e = e
ahead_lift P us vs (y ∷ ys) e =
    ap (λ s. cond (commits y) (with_retired (is_first P y) P y s) s) (ahead_lift P us vs ys e)

one_same : (P : Program) (by : ℕ) (act : Act) (ys : List Tenant) (t : Tenant) (ts : List Tenant) →
    ((n : ℕ) → act ≢ Retire n) → May P by act ys t ts → IsSoundAt P ts t →
    ahead P (changed P by act t ts ∷ ts) ≡ ahead P (t ∷ ts)
one_same P by act ys t ts other m so = go (commits t) refl
  where
    same : commits (changed P by act t ts) ≡ commits t
    same = act_stays P by act ys t ts other m

    go : (b : Bool) → commits t ≡ b → ahead P (changed P by act t ts ∷ ts) ≡ ahead P (t ∷ ts)
    go true c =
        ahead_if P (changed P by act t ts) ts true (same ∙ c)
        ∙ leaves_same P by act ys t ts (ahead P ts) other m so c
        ∙ sym (ahead_if P t ts true c)
    go false c = ahead_if P (changed P by act t ts) ts false (same ∙ c) ∙ sym (ahead_if P t ts false c)

pub ahead_by_others : (P : Program) (C : Sizes) (U : UpdateUnit) (by : ℕ) (s : Step) → IsSound P U.tenants →
    IsNoRetire s → Allowed P C U by s → ahead P (applied P C U by s).tenants ≡ ahead P U.tenants
ahead_by_others P C U by (Let index predicted first second) sound other a = refl
ahead_by_others P C U by Renew sound other a = refl
ahead_by_others P C U by (On p act) sound other a =
    let ts = U.tenants in
    let t = a.tenant in
    let s = sound_mid P t (older ts p) (younger ts p) (subst (IsSound P) (split_at ts p t a.is) sound) in
    ap (ahead P) (parts P ts by p act t a.is)
    ∙ ahead_lift P (changed P by act t (older ts p) ∷ older ts p) (t ∷ older ts p) (younger ts p) (one_same P by act (younger ts p) t (older ts p) (is_other p act other) a.may s)
    ∙ ap (ahead P) (sym (split_at ts p t a.is))

pub ahead_by_retire : (P : Program) (C : Sizes) (U : UpdateUnit) (by p n : ℕ) (t : Tenant) → IsSound P U.tenants →
    Allowed P C U by (On p (Retire n)) → at U.tenants p ≡ Some t →
    ahead P (applied P C U by (On p (Retire n))).tenants ≡ cond (commits (retired t n)) (with_retired
    (is_first P (retired t n)) P (retired t n) (ahead P U.tenants)) (ahead P U.tenants)
ahead_by_retire P C U by p n t sound a e =
    let us = U.tenants in
    let r = is_retiring P C U by p n t sound a e in
    ap (ahead P) (parts P us by p (Retire n) t e)
    ∙ over_ahead P t (retired t n) (older us p) (younger us p) r.live r.sound
    ∙ ap (λ v. cond (commits (retired t n)) (with_retired (is_first P (retired t n)) P (retired t n) v) v) (sym r.ahead_is)

pub all_commits : (P : Program) (C : Sizes) (history : List Taken) (by : ℕ) →
    OnlyRetirementsCommit P C history by
all_commits P C history by a =
    let U = reached P C history in
    let s = sound P C history a in
    record {
      by_retire = λ p n t. by_retire P C U by p n t s;
      by_others = λ step. by_others P C U by step s;
      waits = λ p n t. ahead_by_retire P C U by p n t s;
      waits_on = λ step. ahead_by_others P C U by step s;
    }
