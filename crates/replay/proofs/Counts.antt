-- How many tenants pass a test, and how many each station has had.
use Rattle.std.proofs.Common.{◌≡◌, ◌≢◌, ℕ, zero, suc, ◌+◌, ◌<◌, ◌≤◌, Bool, true, false, cond, eqb, eqb-true, List, [], ◌∷◌, ◌++◌, length, replicate, get_or, Option, Some, None, refl, sym, ap, ◌∙◌, arith}
use Rattle.std.specs.Prelude.{slice_get, slice_index, slice_set}
use Rattle.std.proofs.lemmas.List.{get_or-set_other, get_or-set_same}
use Rattle.inorder.specs.Tenants.{Tenant}
use Rattle.inorder.specs.Unit.{at, how_many, replaced}
use Rattle.inorder.proofs.Positions.{at_more, at_new}
use Rattle.replay.specs.declared.tenant.Tenant.{Tenant as Held}
use Rattle.replay.specs.Settlement.{AreUses}
use Rattle.replay.specs.Shown.{shown, tenant_of}
use Rattle.replay.proofs.Laid.{get_below, laid_length, shown_at, shown_set}
use Rattle.replay.proofs.Lets.{shown_append}

-- at most all
pub how_many_le : (f : Tenant → Bool) (ts : List Tenant) → how_many f ts ≤ length ts
how_many_le f [] = omega arith
how_many_le f (t ∷ ts) = go (f t) (how_many_le f ts)
  where
    go : (b : Bool) → how_many f ts ≤ length ts → cond b (suc (how_many f ts)) (how_many f ts) ≤ suc (length ts)
    go true h = omega arith
    go false h = omega arith

-- none
pub none_pass : (f : Tenant → Bool) (ts : List Tenant) → ((q : ℕ) (t : Tenant) → at ts q ≡ Some t → f t ≡ false) → how_many f ts ≡ 0
none_pass f [] h = refl
none_pass f (t ∷ ts) h =
    ap (λ b. cond b (suc (how_many f ts)) (how_many f ts)) (h (length ts) t (at_new t ts))
    ∙ none_pass f ts (λ q u e. h q u (at_more t ts q u e))

-- another tenant that passes as well
pub replaced_count : (f : Tenant → Bool) (ts : List Tenant) (p : ℕ) (t u : Tenant) → at ts p ≡ Some t → f t ≡ f u →
    how_many f (replaced ts p u) ≡ how_many f ts
replaced_count f [] p t u e same = refl
replaced_count f (v ∷ ts) p t u e same = go (eqb p (length ts)) e (λ g. replaced_count f ts p t u g same)
  where
    go : (b : Bool) → cond b (Some v) (at ts p) ≡ Some t → (at ts p ≡ Some t → how_many f (replaced ts p u) ≡ how_many f ts) →
        how_many f (cond b (u ∷ ts) (v ∷ replaced ts p u)) ≡ how_many f (v ∷ ts)
    go true g more =
        let is : v ≡ t = cc in
        ap (λ b. cond b (suc (how_many f ts)) (how_many f ts)) (sym same ∙ ap f (sym is))
    go false g more = ap (λ n. cond (f v) (suc n) n) (more g)

-- Stations

pub at_there : (xs : List ℕ) (i x : ℕ) → slice_get xs i ≡ Some x → x ≡ slice_index xs i
at_there [] i x e = absurd (cc)
at_there (y ∷ xs) zero x e = cc
at_there (y ∷ xs) (suc i) x e = at_there xs i x e

pub at_none : (xs : List ℕ) (i : ℕ) → slice_get xs i ≡ None → slice_index xs i ≡ 0
at_none [] i e = refl
at_none (y ∷ xs) zero e = absurd (cc)
at_none (y ∷ xs) (suc i) e = at_none xs i e

pub uses_few : (hs : List Held) (uses : List ℕ) (s : ℕ) → AreUses hs uses → slice_index uses s ≤ length hs
uses_few hs uses s are =
    let is = are s in
    let few = how_many_le (λ (t : Tenant). eqb t.station s) (shown hs) in
    let long = laid_length hs [] in
    omega arith

pub uses_set : (hs : List Held) (uses : List ℕ) (who : ℕ) (h : Held) → AreUses hs uses → who < length hs →
    ((t : Held) → slice_get hs who ≡ Some t → h.station ≡ t.station) → AreUses (slice_set hs who h) uses
uses_set hs uses who h are below same s = go (slice_get hs who) refl
  where
    go : (o : Option Held) → slice_get hs who ≡ o →
        slice_index uses s ≡ how_many (λ (t : Tenant). eqb t.station s) (shown (slice_set hs who h))
    go None e = let far = Rattle.replay.proofs.Laid.get_none hs who e in absurd (omega arith)
    go (Some t) e =
        are s
        ∙ sym (replaced_count (λ (u : Tenant). eqb u.station s) (shown hs) who (tenant_of t) (tenant_of h) (shown_at hs who t e)
        (ap (λ n. eqb n s) (sym (same t e))))
        ∙ sym (ap (how_many (λ (u : Tenant). eqb u.station s)) (shown_set hs who h below))

zeros : (n i : ℕ) → ◌≡◌ {A = ℕ} (get_or (replicate n 0) i 0) 0
zeros zero i = refl
zeros (suc n) zero = refl
zeros (suc n) (suc i) = zeros n i

grown : (xs : List ℕ) (k i : ℕ) → get_or (xs ++ replicate k 0) i 0 ≡ get_or xs i 0
grown [] k i = zeros k i
grown (x ∷ xs) k zero = refl
grown (x ∷ xs) k (suc i) = grown xs k i

pub uses_grown : (hs : List Held) (uses : List ℕ) → AreUses hs uses → AreUses hs (uses ++ 0 ∷ [])
uses_grown hs uses are s = grown uses 1 s ∙ are s

pub uses_add : (hs : List Held) (uses : List ℕ) (h : Held) (n : ℕ) → AreUses hs uses → h.station < length uses →
    n ≡ slice_index uses h.station + 1 → AreUses (hs ++ h ∷ []) (slice_set uses h.station n)
uses_add hs uses h n are known is s = go (eqb h.station s) refl ∙ sym (ap (how_many (λ (t : Tenant). eqb t.station s)) (shown_append hs h))
  where
    count : ℕ
    count = how_many (λ (t : Tenant). eqb t.station s) (shown hs)

    go : (b : Bool) → eqb h.station s ≡ b →
        slice_index (slice_set uses h.station n) s ≡ cond (eqb h.station s) (suc count) count
    go true e =
        let here = eqb-true h.station s e in
        let more : n ≡ suc count = let old = are s in let at : slice_index uses h.station ≡ slice_index uses s = ap (slice_index uses) here in omega arith in
        ap (slice_index (slice_set uses h.station n)) (sym here)
        ∙ get_or-set_same uses h.station n 0 known
        ∙ more
        ∙ sym (ap (λ b. cond b (suc count) count) e)
    go false e =
        let other : s ≢ h.station = λ f. Rattle.inorder.proofs.Positions.not_eqb h.station s e (sym f) in
        get_or-set_other uses h.station s n 0 other ∙ are s ∙ sym (ap (λ b. cond b (suc count) count) e)
