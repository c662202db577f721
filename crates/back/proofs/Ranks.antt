-- Where the live tenants of a ring stand: one after the other, from the oldest one on.
use Rattle.std.proofs.Common.{◌≡◌, ℕ, zero, suc, ◌+◌, ◌%◌, ◌<◌, ◌≤◌, Bool, true, false, cond, eq-eqb, ◌-◌, List, [], ◌∷◌, length, Some, refl, sym, ap, ◌∙◌, subst, inl, inr, ⊎_elim, arith}
use Rattle.std.proofs.lemmas.Bool.{cases_lt}
use Rattle.std.proofs.Math.Nat.{add-mod_right, mod-add-mod, mod-eq_of_lt}
use Rattle.instructions.specs.Programs.{Program}
use Rattle.inorder.specs.Callers.{head_station, is_retired, stands_retired}
use Rattle.inorder.specs.Laws.{FitsRing}
use Rattle.inorder.specs.Tenants.{IsNotLive, Live, Retired, Squashed, Standing, Tenant, is_live, on_path, stands_live, stands_on_path}
use Rattle.inorder.specs.Unit.{at, how_many, newest_of, older, recent, Sizes, UpdateUnit, younger}
use Rattle.inorder.proofs.Basics.{eqb_less, split_at}
use Rattle.inorder.proofs.Creators.{at_cases}
use Rattle.inorder.proofs.Positions.{at_below, at_more, at_new}
use Rattle.inorder.proofs.Sound.{IsSound}
use Rattle.inorder.proofs.Tags.{passed}
use Rattle.std.specs.List.{AllByRecursion}
use Rattle.inorder.proofs.Recent.{live_recent, old_are_gone, recent_at, wide}
use Rattle.inorder.specs.declared.history.Entry.{Entry}
use Rattle.inorder.specs.History.{IsLegal, taken_of, unit_of}
use Rattle.inorder.proofs.Stations.{AreSettling, OldGone, is_ring, settling, settling_newest, stands}
use Rattle.inorder.proofs.Histories.{allowed_steps}
use Rattle.inorder.proofs.Heads.{none_behind}

-- how many live tenants are before a position
abbrev pub rank : List Tenant → ℕ → ℕ
rank us p = how_many is_live (older us p)

live_counts : (t : Tenant) (ts : List Tenant) → t.standing ≡ Live → how_many is_live (t ∷ ts) ≡ suc (how_many is_live ts)
live_counts t ts e = ap (λ s. cond (stands_live s) (suc (how_many is_live ts)) (how_many is_live ts)) e

more_live : (t : Tenant) (ts : List Tenant) → how_many is_live ts ≤ how_many is_live (t ∷ ts)
more_live t ts = go (is_live t)
  where
    go : (b : Bool) → how_many is_live ts ≤ cond b (suc (how_many is_live ts)) (how_many is_live ts)
    go true = omega arith
    go false = omega arith

older_there : (t : Tenant) (ts : List Tenant) (q : ℕ) → q < length ts → older (t ∷ ts) q ≡ older ts q
older_there t ts q l = ap (λ b. cond b ts (older ts q)) (eqb_less q (length ts) l)

older_here : (t : Tenant) (ts : List Tenant) (q : ℕ) → q ≡ length ts → older (t ∷ ts) q ≡ ts
older_here t ts q e = ap (λ b. cond b ts (older ts q)) (eq-eqb q (length ts) e)

-- a live tenant has fewer live ones before it than there are
pub rank_less : (us : List Tenant) (q : ℕ) (u : Tenant) → at us q ≡ Some u → u.standing ≡ Live → rank us q < how_many is_live us
rank_less [] q u is live = absurd (cc)
rank_less (t ∷ ts) q u is live = ⊎_elim
    (λ (old : at ts q ≡ Some u).
    let less = rank_less ts q u old live in
    let same = ap (how_many is_live) (older_there t ts q (at_below ts q u old)) in
    let more = more_live t ts in omega (arith, less, same, more))
    (λ (new : (q ≡ length ts) × (t ≡ u)).
    let same = ap (how_many is_live) (older_here t ts q new.0) in
    let one = live_counts t ts (ap (λ (x : Tenant). x.standing) new.1 ∙ live) in omega (arith, same, one))
    (at_cases t ts q u is)

-- of two live tenants the younger one has more before it
pub rank_grows : (us : List Tenant) (q p : ℕ) (u t : Tenant) → at us q ≡ Some u → u.standing ≡ Live → at us p ≡ Some t → q < p → rank us q < rank us p
rank_grows [] q p u t is live is' lt = absurd (cc)
rank_grows (x ∷ xs) q p u t is live is' lt = ⊎_elim
    (λ (old : at xs p ≡ Some t).
    let below = at_below xs p t old in
    let was : at xs q ≡ Some u = ap (λ b. cond b (Some x) (at xs q)) (sym (eqb_less q (length xs) (omega (arith, lt, below)))) ∙ is in
    let less = rank_grows xs q p u t was live old lt in
    let same_q = ap (how_many is_live) (older_there x xs q (omega (arith, lt, below))) in
    let same_p = ap (how_many is_live) (older_there x xs p below) in omega (arith, less, same_q, same_p))
    (λ (new : (p ≡ length xs) × (x ≡ t)).
    let small : q < length xs = omega (arith, lt, new.0) in
    let was : at xs q ≡ Some u = ap (λ b. cond b (Some x) (at xs q)) (sym (eqb_less q (length xs) small)) ∙ is in
    let less = rank_less xs q u was live in
    let same_q = ap (how_many is_live) (older_there x xs q small) in
    let same_p = ap (how_many is_live) (older_here x xs p new.0) in omega (arith, less, same_q, same_p))
    (at_cases x xs p t is')

-- each smaller number of live ones is that before some live tenant
pub record HasRank (us : List Tenant) (j : ℕ) : Type 0 where
  pub q : ℕ
  pub tenant : Tenant
  pub is : at us q ≡ Some tenant
  pub live : tenant.standing ≡ Live
  pub rank_is : rank us q ≡ j

pub at_rank : (us : List Tenant) (j : ℕ) → j < how_many is_live us → HasRank us j
at_rank [] j l = absurd (omega arith)
at_rank (t ∷ ts) j l = go t.standing refl (at_rank ts j)
  where
    deeper : HasRank ts j → HasRank (t ∷ ts) j
    deeper h = record {
      q = h.q;
      tenant = h.tenant;
      is = at_more t ts h.q h.tenant h.is;
      live = h.live;
      rank_is = ap (how_many is_live) (older_there t ts h.q (at_below ts h.q h.tenant h.is)) ∙ h.rank_is;
    }

    not_counted : (s : Standing) → t.standing ≡ s → stands_live s ≡ false → j < how_many is_live ts
    not_counted s e f = let same = ap (λ b. cond b (suc (how_many is_live ts)) (how_many is_live ts)) (ap stands_live e ∙ f) in omega (arith, l, same)

    go : (s : Standing) → t.standing ≡ s → (j < how_many is_live ts → HasRank ts j) → HasRank (t ∷ ts) j
    go Retired e more = deeper (more (not_counted Retired e refl))
    go Squashed e more = deeper (more (not_counted Squashed e refl))
    go Live e more = elim (cases_lt j (how_many is_live ts)) [
      | inl small ↦ deeper (more small)
      | inr large ↦ (let one = live_counts t ts e in record {
        q = length ts;
        tenant = t;
        is = at_new t ts;
        live = e;
        rank_is = ap (how_many is_live) (older_here t ts (length ts) refl) ∙ omega (arith, l, large, one);
      })
    ]

-- on the path, one is retired or live
path_parts : (ts : List Tenant) → how_many on_path ts ≡ how_many is_retired ts + how_many is_live ts
path_parts [] = refl
path_parts (t ∷ ts) = go t.standing (path_parts ts)
  where
    go : (s : Standing) → how_many on_path ts ≡ how_many is_retired ts + how_many is_live ts
        → cond (stands_on_path s) (suc (how_many on_path ts)) (how_many on_path ts) ≡ cond (stands_retired s) (suc (how_many is_retired ts)) (how_many is_retired ts) + cond (stands_live s)
        (suc (how_many is_live ts)) (how_many is_live ts)
    go Live e = omega (arith, e)
    go Retired e = omega (arith, e)
    go Squashed e = e

-- All live tenants were let since the last renewal

none_live : (ts : List Tenant) → AllByRecursion IsNotLive ts → how_many is_live ts ≡ 0
none_live [] gone = refl
none_live (t ∷ ts) gone = go t.standing refl (none_live ts gone.1)
  where
    go : (st : Standing) → t.standing ≡ st → how_many is_live ts ≡ 0 → how_many is_live (t ∷ ts) ≡ 0
    go Live e none = absurd (gone.0 e)
    go Retired e none = ap (λ z. cond (stands_live z) (suc (how_many is_live ts)) (how_many is_live ts)) e ∙ none
    go Squashed e none = ap (λ z. cond (stands_live z) (suc (how_many is_live ts)) (how_many is_live ts)) e ∙ none

live_newest : (n : ℕ) (ts : List Tenant) → AllByRecursion IsNotLive (passed n ts) → how_many is_live (newest_of n ts) ≡ how_many is_live ts
live_newest zero ts gone = sym (none_live ts gone)
live_newest (suc n) [] gone = refl
live_newest (suc n) (t ∷ ts) gone = ap (λ m. cond (is_live t) (suc m) m) (live_newest n ts gone)

-- so as many are before one of them
rank_newest : (n : ℕ) (ts : List Tenant) (r : ℕ) (t : Tenant) → AllByRecursion IsNotLive (passed n ts) → at (newest_of n ts) r ≡ Some t → rank (newest_of n ts) r ≡ rank ts (r + length (passed n ts))
rank_newest zero ts r t gone e = absurd (cc e)
rank_newest (suc n) [] r t gone e = absurd (cc e)
rank_newest (suc n) (u ∷ ts) r t gone e = ⊎_elim
    (λ (old : at us r ≡ Some t).
    let below = at_below us r t old in
    ap (how_many is_live) (older_there u us r below)
    ∙ (rank_newest n ts r t gone old
    ∙ sym (ap (how_many is_live) (older_there u ts (r + length (passed n ts)) (omega (arith, below, all))))))
    (λ (new : (r ≡ length us) × (u ≡ t)).
    let here = new.0 in
    ap (how_many is_live) (older_here u us r here)
    ∙ (live_newest n ts gone
    ∙ sym (ap (how_many is_live) (older_here u ts (r + length (passed n ts)) (omega (arith, here, all))))))
    (at_cases u us r t e)
  where
    us : List Tenant
    us = newest_of n ts

    all : length ts ≡ length (newest_of n ts) + length (passed n ts)
    all = wide n ts

-- The tenants let since the last renewal stand in the ring, and all others have left
pub record InRing (C : Sizes) (U : UpdateUnit) : Type 0 where
  pub ring : FitsRing C (recent U)
  pub gone : OldGone U

pub in_ring : (P : Program) (C : Sizes) (h : List Entry) → IsLegal P C h → InRing C (unit_of P C h)
in_ring P C h legal = record {
  ring = is_ring C (recent (unit_of P C h)) (stands P C (taken_of h) (allowed_steps P C h legal));
  gone = old_are_gone P C h legal;
}

-- a live tenant stands as far from the head as live ones are before it
pub stands_at : (P : Program) (C : Sizes) (U : UpdateUnit) → IsSound P U.tenants → InRing C U → (p : ℕ) (t : Tenant) → at U.tenants p ≡ Some t → t.standing ≡ Live
    → t.station ≡ (head_station C U + rank U.tenants p) % C.ring
stands_at P C U ok ring p t is live =
    let us = recent U in
    let x = recent_at U p t is (live_recent U ring.gone p t is live) in
    let split = split_at us x.r t x.is in
    let settled = settling_newest U.fresh U.tenants (settling P U.tenants ok) in
    let counted : how_many is_retired us ≡ how_many is_retired (older us x.r) = ap (how_many is_retired) split ∙ none_behind t (older us x.r) (younger us x.r) live (subst AreSettling split settled) in
    let same : rank us x.r ≡ rank U.tenants p = rank_newest U.fresh U.tenants x.r t ring.gone x.is ∙ ap (rank U.tenants) (sym x.position) in
    ring.ring.place x.r t x.is (ap stands_on_path live)
    ∙ (ap (λ n. n % C.ring) (path_parts (older us x.r) ∙ ap (λ n. n + rank us x.r) (sym counted))
    ∙ (sym (mod-add-mod (how_many is_retired us) C.ring (rank us x.r))
    ∙ ap (λ n. (how_many is_retired us % C.ring + n) % C.ring) same))

pub rank_small : (C : Sizes) (U : UpdateUnit) → InRing C U → (p : ℕ) (t : Tenant) → at U.tenants p ≡ Some t → t.standing ≡ Live → rank U.tenants p < C.ring
rank_small C U ring p t is live =
    let less = rank_less U.tenants p t is live in
    let room = ring.ring.room in
    let same = live_newest U.fresh U.tenants ring.gone in
    omega (arith, less, room, same)

-- stations of different ranks differ
mod_low : (a n : ℕ) → a < n → a % n ≡ a
mod_low a n l = mod-eq_of_lt l

mod_high : (a n : ℕ) → n ≤ a → a < n + n → a % n + n ≡ a
mod_high a n l h =
    let b = a - n in
    let is : a ≡ b + n = omega (arith, l) in
    let low : b % n ≡ b = mod_low b n (omega (arith, l, h)) in
    ap (λ x. x % n + n) is ∙ (ap (λ x. x + n) (add-mod_right b n ∙ low) ∙ sym is)

pub same_rank : (h i k n : ℕ) → h < n → i < n → k < n → (h + i) % n ≡ (h + k) % n → i ≡ k
same_rank h i k n lh li lk e = elim (cases_lt (h + i) n) [
  | inl small ↦ elim (cases_lt (h + k) n) [
    | inl small' ↦ (let a = mod_low (h + i) n small in let b = mod_low (h + k) n small' in omega (arith, a, b, e))
    | inr large' ↦ (let a = mod_low (h + i) n small in let b = mod_high (h + k) n large' (omega (arith, lh, lk)) in omega (arith, a, b, e, lk, lh, li))
  ]
  | inr large ↦ elim (cases_lt (h + k) n) [
    | inl small' ↦ (let a = mod_high (h + i) n large (omega (arith, lh, li)) in let b = mod_low (h + k) n small' in omega (arith, a, b, e, li, lh, lk))
    | inr large' ↦ (let a = mod_high (h + i) n large (omega (arith, lh, li)) in let b = mod_high (h + k) n large' (omega (arith, lh, lk)) in omega (arith, a, b, e))
  ]
]
