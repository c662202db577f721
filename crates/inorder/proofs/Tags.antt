-- The tags of a unit, and that a station and a tag name one tenant.
use Rattle.std.proofs.Common.{◌≤◌, ◌≡◌, ◌⊎◌, inl, inr, ⊎_elim, ℕ, zero, suc, ◌+◌, ◌<◌, Bool, true, false, cond, eqb, List, [], ◌∷◌, ◌++◌, length, Some, refl, sym, ap, ◌∙◌, subst, arith, eqb-true}
use Rattle.std.specs.List.{AllByRecursion}
use Rattle.instructions.specs.Programs.{Program}
use Rattle.instructions.specs.declared.stop.Outcome.{Outcome}
use Rattle.instructions.specs.declared.stop.Outcome.TheVariants.{Address, Next, Pair, Stop as Stops, Value}
use Rattle.inorder.specs.declared.history.Act.{Act}
use Rattle.inorder.specs.declared.history.Act.TheVariants.{Claim, Deliver, Finish, Link, Load, Mend, Retire, Speculate, Squash}
use Rattle.inorder.specs.declared.history.Source.TheVariants.{First, Second}
use Rattle.inorder.specs.declared.history.Step.{Step}
use Rattle.inorder.specs.declared.history.Step.TheVariants.{Let, On, Renew}
use Rattle.inorder.specs.Legal.{Allowed, AreAllowed, Taken, applied, changed, reached}
use Rattle.inorder.specs.Steps.{finished, mended_as}
use Rattle.inorder.specs.Tenants.{Addr, Busy, Done, Fate, Guessed, IsNotLive, Live, Miss, Open, Stopped, Tenant, computed}
use Rattle.inorder.specs.Unit.{Sizes, UpdateUnit, at, how_many, newest_of, older, recent, tag_after, younger}
use Rattle.inorder.proofs.Basics.{eqb_self, split_at}
use Rattle.inorder.proofs.Grows.{all_mid}
use Rattle.inorder.proofs.Kept.{parts}
use Rattle.inorder.specs.declared.history.Speculation.TheVariants.{Confirm, Flush, Guess}

abbrev pub AreTagged : Sizes → List Tenant → Type 0
AreTagged C [] = Unit {0}
AreTagged C (t ∷ ts) = (t.tag ≡ tag_after C ts t.station) × AreTagged C ts

pub count_same : (t t' : Tenant) (ts ys : List Tenant) (s : ℕ) → t'.station ≡ t.station →
    how_many (λ u. eqb u.station s) (ys ++ t' ∷ ts) ≡ how_many (λ u. eqb u.station s) (ys ++ t ∷ ts)
count_same t t' ts [] s e =
    ap (λ q. cond (eqb q s) (suc (how_many (λ u. eqb u.station s) ts)) (how_many (λ u. eqb u.station s) ts)) e
count_same t t' ts (y ∷ ys) s e = ap (λ n. cond (eqb y.station s) (suc n) n) (count_same t t' ts ys s e)

tagged_same : (C : Sizes) (t t' : Tenant) (ts ys : List Tenant) → t'.station ≡ t.station → t'.tag ≡ t.tag →
    AreTagged C (ys ++ t ∷ ts) → AreTagged C (ys ++ t' ∷ ts)
tagged_same C t t' ts [] e f h = (f ∙ h.0 ∙ ap (tag_after C ts) (sym e), h.1)
tagged_same C t t' ts (y ∷ ys) e f h = (
  h.0 ∙ ap (λ n. C.first_tag + n) (sym (count_same t t' ts ys y.station e)),
  tagged_same C t t' ts ys e f h.1,
)

-- A place in the list of all tenants is after the last renewal or not

-- the tenants let before the last renewal
abbrev pub passed : ℕ → List Tenant → List Tenant
passed zero ts = ts
passed (suc n) [] = []
passed (suc n) (t ∷ ts) = passed n ts

pub record IsOldPlace (n : ℕ) (ys ts : List Tenant) : Type 0 where
  pub few : n ≤ length ys
  pub same : (t t' : Tenant) → newest_of n (ys ++ t ∷ ts) ≡ newest_of n (ys ++ t' ∷ ts)
  pub gone : (t : Tenant) → AllByRecursion IsNotLive (passed n (ys ++ t ∷ ts)) → IsNotLive t
  pub other : (t t' : Tenant) → IsNotLive t' → AllByRecursion IsNotLive (passed n (ys ++ t ∷ ts)) →
      AllByRecursion IsNotLive (passed n (ys ++ t' ∷ ts))

pub record IsNewPlace (n : ℕ) (ys ts : List Tenant) : Type 0 where
  pub many : length ys < n
  pub zs : List Tenant
  pub is : (t : Tenant) → newest_of n (ys ++ t ∷ ts) ≡ ys ++ t ∷ zs
  pub same : (t t' : Tenant) → passed n (ys ++ t ∷ ts) ≡ passed n (ys ++ t' ∷ ts)

swap_all : (ys ts : List Tenant) (t t' : Tenant) → IsNotLive t' → AllByRecursion IsNotLive (ys ++ t ∷ ts) →
    AllByRecursion IsNotLive (ys ++ t' ∷ ts)
swap_all [] ts t t' e h = (e, h.1)
swap_all (y ∷ ys) ts t t' e h = (h.0, swap_all ys ts t t' e h.1)

pub cut : (n : ℕ) (ys ts : List Tenant) → IsOldPlace n ys ts ⊎ IsNewPlace n ys ts
cut zero ys ts = inl (record {
  few = omega arith;
  same = λ t t'. refl;
  gone = λ t h. all_mid IsNotLive t ts ys h;
  other = λ t t' e h. swap_all ys ts t t' e h;
})
cut (suc n) [] ts = inr (record { many = omega arith; zs = newest_of n ts; is = λ t. refl; same = λ t t'. refl })
cut (suc n) (y ∷ ys) ts = ⊎_elim
    (λ (old : IsOldPlace n ys ts). inl (record { few = let f = old.few in omega arith; same = λ t t'. ap (λ z. y ∷ z) (old.same t t'); gone = old.gone; other = old.other }))
    (λ (new : IsNewPlace n ys ts). inr (record { many = let f = new.many in omega arith; zs = new.zs; is = λ t. ap (λ z. y ∷ z) (new.is t); same = new.same }))
    (cut n ys ts)

-- the place of a live tenant
pub live_new : (n : ℕ) (ys ts : List Tenant) (t : Tenant) → AllByRecursion IsNotLive (passed n (ys ++ t ∷ ts)) →
    t.standing ≡ Live → IsNewPlace n ys ts
live_new n ys ts t gone live = ⊎_elim (λ (old : IsOldPlace n ys ts). absurd (old.gone t gone live)) (λ new. new) (cut n ys ts)

-- an act leaves station and tag
pub same_place : (P : Program) (by : ℕ) (act : Act) (t : Tenant) (ts : List Tenant) →
    ((changed P by act t ts).station ≡ t.station) × ((changed P by act t ts).tag ≡ t.tag)
same_place P by (Link First) t ts = (refl, refl)
same_place P by (Link Second) t ts = (refl, refl)
same_place P by (Deliver First) t ts = (refl, refl)
same_place P by (Deliver Second) t ts = (refl, refl)
same_place P by Claim t ts = (refl, refl)
same_place P by Finish t ts = go (computed P t)
  where
    go : (o : Outcome) → ((finished t o).station ≡ t.station) × ((finished t o).tag ≡ t.tag)
    go (Value v) = (refl, refl)
    go (Next v) = (refl, refl)
    go (Address v) = (refl, refl)
    go (Stops v) = (refl, refl)
    go (Pair l h) = (refl, refl)
same_place P by Load t ts = (refl, refl)
same_place P by (Retire n) t ts = (refl, refl)
same_place P by Squash t ts = (refl, refl)
same_place P by (Speculate (Guess v)) t ts = (refl, refl)
same_place P by (Speculate Confirm) t ts = (refl, refl)
same_place P by (Speculate Flush) t ts = (refl, refl)
same_place P by Mend t ts = go t.fate
  where
    go : (f : Fate) → ((mended_as t f).station ≡ t.station) × ((mended_as t f).tag ≡ t.tag)
    go Open = (refl, refl)
    go (Busy v) = (refl, refl)
    go (Addr v) = (refl, refl)
    go (Done v) = (refl, refl)
    go (Guessed v) = (refl, refl)
    go (Miss v) = (refl, refl)
    go (Stopped v) = (refl, refl)

tagged_kept : (P : Program) (C : Sizes) (U : UpdateUnit) (by : ℕ) (s : Step) → Allowed P C U by s →
    AreTagged C (recent U) → AreTagged C (recent (applied P C U by s))
tagged_kept P C U by (Let index predicted first second) a h = (refl, h)
tagged_kept P C U by (On p act) a h =
    let ts = U.tenants in
    let t = a.tenant in
    let t' = changed P by act t (older ts p) in
    let q = same_place P by act t (older ts p) in
    let was = subst (λ z. AreTagged C (newest_of U.fresh z)) (split_at ts p t a.is) h in
    subst (λ z. AreTagged C (newest_of U.fresh z)) (sym (parts P ts by p act t a.is))
    (⊎_elim
    (λ (old : IsOldPlace U.fresh (younger ts p) (older ts p)). subst (AreTagged C) (old.same t t') was)
    (λ (new : IsNewPlace U.fresh (younger ts p) (older ts p)). subst (AreTagged C) (sym (new.is t'))
    (tagged_same C t t' new.zs (younger ts p) q.0 q.1 (subst (AreTagged C) (new.is t) was)))
    (cut U.fresh (younger ts p) (older ts p)))
tagged_kept P C U by Renew a h = tt

pub tagged : (P : Program) (C : Sizes) (ss : List Taken) → AreAllowed P C ss →
    AreTagged C (recent (reached P C ss))
tagged P C [] a = tt
tagged P C (s ∷ ss) a = tagged_kept P C (reached P C ss) s.by s.step a.1 (tagged P C ss a.0)

-- a younger tenant of a station has a higher tag
pub higher : (C : Sizes) (t u : Tenant) (ts : List Tenant) (q : ℕ) → AreTagged C (t ∷ ts) → at ts q ≡ Some u →
    t.station ≡ u.station → u.tag < t.tag
higher C t u ts q h e same = omega (arith, h.0, below ts q h.1 e)
  where
    Goal : List Tenant → Type 0
    Goal vs = u.tag < tag_after C vs t.station

    more : (b : Bool) (n : ℕ) → u.tag < C.first_tag + n → u.tag < C.first_tag + cond b (suc n) n
    more true n g = omega arith
    more false n g = g

    below : (vs : List Tenant) (q : ℕ) → AreTagged C vs → at vs q ≡ Some u → Goal vs
    below [] q g f = absurd (cc)
    below (v ∷ vs) q g f = go (eqb q (length vs)) refl (below vs q g.1)
      where
        go : (b : Bool) → eqb q (length vs) ≡ b → (at vs q ≡ Some u → Goal vs) → Goal (v ∷ vs)
        go true r rest =
            let is : v ≡ u = cc (ap (λ x. cond x (Some v) (at vs q)) (sym r) ∙ f) in
            let station : v.station ≡ t.station = ap (λ x. x.station) is ∙ sym same in
            let c = ap (λ x. C.first_tag + cond x (suc (how_many (λ w. eqb w.station t.station) vs))
            (how_many (λ w. eqb w.station t.station) vs)) (ap (λ x. eqb x t.station) station
            ∙ eqb_self t.station) in
            let tag : u.tag ≡ tag_after C vs t.station = ap (λ x. x.tag) (sym is) ∙ g.0
            ∙ ap (tag_after C vs) station in
            omega arith
        go false r rest =
            more (eqb v.station t.station) (how_many (λ w. eqb w.station t.station) vs) (rest
            (ap (λ x. cond x (Some v) (at vs q)) (sym r) ∙ f))

pub names_one : (C : Sizes) (U : List Tenant) (p q : ℕ) (t u : Tenant) → AreTagged C U → at U p ≡ Some t →
    at U q ≡ Some u → t.station ≡ u.station → t.tag ≡ u.tag → p ≡ q
names_one C [] p q t u h e f same tag = absurd (cc)
names_one C (v ∷ vs) p q t u h e f same tag =
    go (eqb p (length vs)) refl (eqb q (length vs)) refl (names_one C vs p q t u h.1)
  where
    head : (r : ℕ) (w : Tenant) (b : Bool) → eqb r (length vs) ≡ b → at (v ∷ vs) r ≡ Some w →
        cond b (Some v) (at vs r) ≡ Some w
    head r w b g i = ap (λ x. cond x (Some v) (at vs r)) (sym g) ∙ i

    go : (b : Bool) → eqb p (length vs) ≡ b → (b' : Bool) → eqb q (length vs) ≡ b' →
        (at vs p ≡ Some t → at vs q ≡ Some u → t.station ≡ u.station → t.tag ≡ u.tag → p ≡ q) → p ≡ q
    go true x true y rest = eqb-true p (length vs) x ∙ sym (eqb-true q (length vs) y)
    go true x false y rest =
        let is : v ≡ t = cc (head p t true x e) in
        let low = higher C v u vs q h (head q u false y f) (ap (λ z. z.station) is ∙ same) in
        let tag' : v.tag ≡ u.tag = ap (λ z. z.tag) is ∙ tag in
        absurd (omega arith)
    go false x true y rest =
        let is : v ≡ u = cc (head q u true y f) in
        let low = higher C v t vs p h (head p t false x e) (ap (λ z. z.station) is ∙ sym same) in
        let tag' : v.tag ≡ t.tag = ap (λ z. z.tag) is ∙ sym tag in
        absurd (omega arith)
    go false x false y rest = rest (head p t false x e) (head q u false y f) same tag
