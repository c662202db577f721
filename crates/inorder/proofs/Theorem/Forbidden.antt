-- What no step may do, and what a recovery restores.
use Rattle.std.proofs.Common.{◌≡◌, ℕ, ◌<◌, ◌≤◌, Bool, true, false, cond, ◌&&◌, eqb, List, [], ◌∷◌, ◌++◌, length, Some, None, refl, sym, ap, ◌∙◌, subst, arith, ⊎_elim}
use Rattle.std.proofs.lemmas.Bool.{cases_lt}
use Rattle.std.specs.List.{AllByRecursion}
use Rattle.instructions.specs.Programs.{Program}
use Rattle.inorder.specs.declared.history.Act.TheVariants.{Mend, Squash}
use Rattle.inorder.specs.declared.history.Step.TheVariants.{On}
use Rattle.inorder.specs.Guards.{IsClaimedOnce, LoadWaits, MissStays, Restores, SquashedStays, StopEnds}
use Rattle.inorder.specs.Legal.{Allowed, AreAllowed, Taken, applied, reached}
use Rattle.inorder.specs.Steps.{CanRetire, HasAddress, IsNoRetiredStop, mended, mended_as, squashed}
use Rattle.inorder.specs.Tenants.{Busy, IsNotLive, Live, Miss, Retired, Squashed, Standing, Tenant, destination_of, kind_of, on_path, stands_on_path}
use Rattle.inorder.specs.Unit.{Sizes, at, can_be_written, creator, front_pc, last_writer, older, younger}
use Rattle.inorder.proofs.Basics.{split_at}
use Rattle.inorder.proofs.Grows.{all_mid, sound_mid}
use Rattle.inorder.proofs.Kept.{parts, sound}
use Rattle.inorder.proofs.QueuePlaces.{at_older, older_length}
use Rattle.inorder.proofs.SettledRegisters.{retired_on}
use Rattle.inorder.proofs.Sound.{IsSettled, IsSound, SettledBy}
use Rattle.inorder.proofs.StationsShown.{acts_live}

-- one tenant is at a position
pub same_tenant : (ts : List Tenant) (p : ℕ) (t u : Tenant) → at ts p ≡ Some t → at ts p ≡ Some u → t ≡ u
same_tenant ts p t u e f = let both : Some t ≡ Some u = sym e ∙ f in cc both

-- a fact of all tenants before a position
all_at : (Q : Tenant → Type 0) (ts : List Tenant) (q : ℕ) (u : Tenant) → AllByRecursion Q ts →
    at ts q ≡ Some u → Q u
all_at Q [] q u h e = absurd (cc)
all_at Q (t ∷ ts) q u h e = go (eqb q (length ts)) e (all_at Q ts q u h.1)
  where
    go : (b : Bool) → cond b (Some t) (at ts q) ≡ Some u → (at ts q ≡ Some u → Q u) → Q u
    go true f more = let same : t ≡ u = cc f in subst Q same h.0
    go false f more = more f

all_before : (Q : Tenant → Type 0) (ts : List Tenant) (p q : ℕ) (t u : Tenant) → at ts p ≡ Some t →
    at ts q ≡ Some u → q < p → AllByRecursion Q (older ts p) → Q u
all_before Q ts p q t u e f l h =
    let n = older_length ts p t e in
    let less : q < length (older ts p) = omega (arith, n) in
    all_at Q (older ts p) q u h (sym (at_older (older ts p) (younger ts p) t q less)
    ∙ sym (ap (λ us. at us q) (split_at ts p t e)) ∙ f)

pub miss_stays : (P : Program) (C : Sizes) (history : List Taken) → MissStays P C history
miss_stays P C history by p n x t e m a =
    let same = same_tenant (reached P C history).tenants p a.tenant t a.is e in
    let f : a.tenant.fate ≡ Miss x = ap (λ u. u.fate) same ∙ m in
    subst (CanRetire (kind_of P a.tenant) a.tenant.second.value) f a.may.can

pub squashed_stays : (P : Program) (C : Sizes) (history : List Taken) → SquashedStays P C history
squashed_stays P C history by p act t e s c a =
    let same = same_tenant (reached P C history).tenants p a.tenant t a.is e in
    let live = acts_live P by act (younger (reached P C history).tenants p) a.tenant (older
    (reached P C history).tenants p) c a.may in
    let both : Squashed ≡ Live = sym (ap (λ u. u.standing) same ∙ s) ∙ live in
    absurd (cc)

pub claimed_once : (P : Program) (C : Sizes) (history : List Taken) → IsClaimedOnce P C history
claimed_once P C history =
    record {
      claim =
          λ by p t e n a. n (ap (λ u. u.fate)
          (sym (same_tenant (reached P C history).tenants p a.tenant t a.is e)) ∙ a.may.fate);
      finish = λ by other p t e f n a.
          let both : Busy other ≡ Busy by = sym f
          ∙ ap (λ u. u.fate) (sym (same_tenant (reached P C history).tenants p a.tenant t a.is e))
          ∙ a.may.fate in
          n (cc both);
    }

pub stop_ends : (P : Program) (C : Sizes) (history : List Taken) → StopEnds P C history
stop_ends P C history allowed by p q n t c e er ef a = ⊎_elim after before (cases_lt q p)
  where
    ts : List Tenant
    ts = (reached P C history).tenants

    after : q < p → ⊥
    after l = all_before IsNoRetiredStop ts p q a.tenant t a.is e l a.may.no_stop er c ef

    before : p ≤ q → ⊥
    before l = ⊎_elim younger_stop same_one (cases_lt p q)
      where
        younger_stop : p < q → ⊥
        younger_stop m =
            let s = sound_mid P t (older ts q) (younger ts q) (subst (IsSound P) (split_at ts q t e)
            (sound P C history allowed)) in
            let settled_one = all_before IsSettled ts q p t a.tenant e a.is m
            ((s.placed (retired_on t er)).settled er) in
            subst (λ x. SettledBy x a.tenant.fate) a.may.live settled_one

        same_one : q ≤ p → ⊥
        same_one m =
            let eq : p ≡ q = omega (arith, l, m) in
            let same = same_tenant ts q a.tenant t (ap (at ts) (sym eq) ∙ a.is) e in
            let both : Retired ≡ Live = sym er ∙ ap (λ u. u.standing) (sym same) ∙ a.may.live in
            absurd (cc)

pub load_waits : (P : Program) (C : Sizes) (history : List Taken) → LoadWaits P C history
load_waits P C history by p q t a l e live k =
    all_before (HasAddress P) (reached P C history).tenants p q a.tenant t a.is e l a.may.addresses live k

-- Recovery

abbrev pub IsOff : Tenant → Type 0
IsOff t = on_path t ≡ false

-- nobody after the youngest live tenant is on the path
pub all_off : (P : Program) (t : Tenant) (ts ys : List Tenant) → t.standing ≡ Live → AllByRecursion IsNotLive ys →
    IsSound P (ys ++ t ∷ ts) → AllByRecursion IsOff ys
all_off P t ts [] live last s = tt
all_off P t ts (y ∷ ys) live last s = (go y.standing refl, all_off P t ts ys live last.1 s.1)
  where
    go : (st : Standing) → y.standing ≡ st → IsOff y
    go Live e = absurd (last.0 e)
    go Squashed e = ap stands_on_path e
    go Retired e =
        absurd (subst (λ x. SettledBy x t.fate) live
        (all_mid IsSettled t ts ys ((s.0.placed (ap stands_on_path e)).settled e)))

writer_skips : (P : Program) (ys zs : List Tenant) (r : ℕ) → AllByRecursion IsOff ys →
    last_writer P (ys ++ zs) r ≡ last_writer P zs r
writer_skips P [] zs r h = refl
writer_skips P (y ∷ ys) zs r h =
    ap (λ b. cond (b && eqb (destination_of P y) r) (Some (length (ys ++ zs)))
    (last_writer P (ys ++ zs) r)) h.0 ∙ writer_skips P ys zs r h.1

pub creator_skips : (P : Program) (ys zs : List Tenant) (r : ℕ) → AllByRecursion IsOff ys →
    creator P (ys ++ zs) r ≡ creator P zs r
creator_skips P ys zs r h = ap (λ o. cond (can_be_written r) o None) (writer_skips P ys zs r h)

pub front_skips : (ys zs : List Tenant) → AllByRecursion IsOff ys → front_pc (ys ++ zs) ≡ front_pc zs
front_skips [] zs h = refl
front_skips (y ∷ ys) zs h = ap (λ b. cond b y.next (front_pc (ys ++ zs))) h.0 ∙ front_skips ys zs h.1

pub restores : (P : Program) (C : Sizes) (history : List Taken) → Restores P C history
restores P C history = record { creators = creators; goes_on = goes_on; mended = mended_front }
  where
    ts : List Tenant
    ts = (reached P C history).tenants

    off : (p : ℕ) (t : Tenant) → AreAllowed P C history → at ts p ≡ Some t → t.standing ≡ Live →
        AllByRecursion IsNotLive (younger ts p) → AllByRecursion IsOff (younger ts p)
    off p t allowed e live last =
        all_off P t (older ts p) (younger ts p) live last (subst (IsSound P) (split_at ts p t e)
        (sound P C history allowed))

    creators : (by p r : ℕ) → AreAllowed P C history → Allowed P C (reached P C history) by (On p Squash) →
        creator P (applied P C (reached P C history) by (On p Squash)).tenants r ≡ creator P (older ts p) r
    creators by p r allowed a =
        ap (λ us. creator P us r) (parts P ts by p Squash a.tenant a.is)
        ∙ creator_skips P (younger ts p) (squashed a.tenant ∷ older ts p) r
        (off p a.tenant allowed a.is a.may.live a.may.youngest)

    goes_on : (by p : ℕ) → AreAllowed P C history → Allowed P C (reached P C history) by (On p Squash) →
        front_pc (applied P C (reached P C history) by (On p Squash)).tenants ≡ front_pc (older ts p)
    goes_on by p allowed a =
        ap front_pc (parts P ts by p Squash a.tenant a.is)
        ∙ front_skips (younger ts p) (squashed a.tenant ∷ older ts p)
        (off p a.tenant allowed a.is a.may.live a.may.youngest)

    mended_front : (by p x : ℕ) (t : Tenant) → AreAllowed P C history →
        Allowed P C (reached P C history) by (On p Mend) → at ts p ≡ Some t → t.fate ≡ Miss x →
        front_pc (applied P C (reached P C history) by (On p Mend)).tenants ≡ x
    mended_front by p x t allowed a e m =
        let same = same_tenant ts p a.tenant t a.is e in
        let f : a.tenant.fate ≡ Miss x = ap (λ u. u.fate) same ∙ m in
        ap front_pc (parts P ts by p Mend a.tenant a.is)
        ∙ front_skips (younger ts p) (mended a.tenant ∷ older ts p)
        (off p a.tenant allowed a.is a.may.live a.may.youngest)
        ∙ ap (λ g. front_pc (mended_as a.tenant g ∷ older ts p)) f
        ∙ ap (λ s. cond (stands_on_path s) x (front_pc (older ts p))) a.may.live
