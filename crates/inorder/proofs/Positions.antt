-- Tenants at their positions, where one of them changes.
use Rattle.std.proofs.Common.{◌≡◌, ◌≢◌, ℕ, suc, ◌<◌, Bool, true, false, cond, eqb, List, [], ◌∷◌, length, Some, refl, sym, ap, ◌∙◌, subst, arith, eqb-true, ne_eqb}
use Rattle.std.specs.List.{AllByRecursion}
use Rattle.inorder.specs.Tenants.{Tenant}
use Rattle.inorder.specs.Unit.{at, older, replaced, younger}
use Rattle.inorder.proofs.Basics.{eqb_self, eqb_less}

pub length_replaced : (U : List Tenant) (p : ℕ) (u : Tenant) → length (replaced U p u) ≡ length U
length_replaced [] p u = refl
length_replaced (t ∷ ts) p u = go (eqb p (length ts)) (length_replaced ts p u)
  where
    go : (b : Bool) → length (replaced ts p u) ≡ length ts → length (cond b (u ∷ ts) (t ∷ replaced ts p u)) ≡ suc (length ts)
    go true e = refl
    go false e = ap suc e

pub at_below : (U : List Tenant) (p : ℕ) (t : Tenant) → at U p ≡ Some t → p < length U
at_below [] p t h = absurd (cc)
at_below (u ∷ us) p t h = go (eqb p (length us)) refl (at_below us p t)
  where
    go : (b : Bool) → eqb p (length us) ≡ b → (at us p ≡ Some t → p < length us) → p < suc (length us)
    go true e more = let same = eqb-true p (length us) e in omega arith
    go false e more = let below = more (ap (λ x. cond x (Some u) (at us p)) (sym e) ∙ h) in omega arith

pub at_there : (U : List Tenant) (p : ℕ) → p < length U → (t : Tenant) × (at U p ≡ Some t)
at_there [] p h = absurd (omega arith)
at_there (u ∷ us) p h = go (eqb p (length us)) refl (at_there us p)
  where
    go : (b : Bool) → eqb p (length us) ≡ b → (p < length us → (t : Tenant) × (at us p ≡ Some t)) → (t : Tenant) × (cond (eqb p (length us)) (Some u) (at us p) ≡ Some t)
    go true e more = (u, ap (λ x. cond x (Some u) (at us p)) e)
    go false e more =
        let ne : p ≢ length us = λ same. let yes = ap (λ z. eqb p z) (sym same) in apart p (length us) same e in
        let found = more (omega arith) in
        (found.0, ap (λ x. cond x (Some u) (at us p)) e ∙ found.1)
      where
        apart : (p n : ℕ) → p ≡ n → eqb p n ≡ false → ⊥
        apart p n same e = let self = eqb_self p in let other : eqb p p ≡ false = ap (eqb p) same ∙ e in Rattle.std.proofs.Common.true≢false (sym self ∙ other)

pub at_replaced_here : (U : List Tenant) (p : ℕ) (t u : Tenant) → at U p ≡ Some t → at (replaced U p u) p ≡ Some u
at_replaced_here [] p t u h = absurd (cc)
at_replaced_here (x ∷ us) p t u h = go (eqb p (length us)) refl (at_replaced_here us p t u)
  where
    go : (b : Bool) → eqb p (length us) ≡ b → (at us p ≡ Some t → at (replaced us p u) p ≡ Some u) → at (cond (eqb p (length us)) (u ∷ us) (x ∷ replaced us p u)) p ≡ Some u
    go true e more = ap (λ b. at (cond b (u ∷ us) (x ∷ replaced us p u)) p) e ∙ ap (λ b. cond b (Some u) (at us p)) e
    go false e more =
        let wide = length_replaced us p u in
        ap (λ b. at (cond b (u ∷ us) (x ∷ replaced us p u)) p) e
        ∙ ap (λ n. cond (eqb p n) (Some x) (at (replaced us p u) p)) wide
        ∙ ap (λ b. cond b (Some x) (at (replaced us p u) p)) e
        ∙ more (ap (λ b. cond b (Some x) (at us p)) (sym e) ∙ h)

pub at_replaced_else : (U : List Tenant) (p q : ℕ) (u : Tenant) → q ≢ p → at (replaced U p u) q ≡ at U q
at_replaced_else [] p q u ne = refl
at_replaced_else (x ∷ us) p q u ne = go (eqb p (length us)) refl (at_replaced_else us p q u ne)
  where
    go : (b : Bool) → eqb p (length us) ≡ b → at (replaced us p u) q ≡ at us q → at (cond b (u ∷ us) (x ∷ replaced us p u)) q ≡ cond (eqb q (length us)) (Some x) (at us q)
    go true e more =
        let same = eqb-true p (length us) e in
        let other : q ≢ length us = λ z. ne (z ∙ sym same) in
        let off = ne_eqb q (length us) other in
        ap (λ b. cond b (Some u) (at us q)) off ∙ sym (ap (λ b. cond b (Some x) (at us q)) off)
    go false e more = ap (λ n. cond (eqb q n) (Some x) (at (replaced us p u) q)) (length_replaced us p u) ∙ ap (cond (eqb q (length us)) (Some x)) more

-- a tenant before a new one
pub at_more : (t : Tenant) (U : List Tenant) (p : ℕ) (u : Tenant) → at U p ≡ Some u → at (t ∷ U) p ≡ Some u
at_more t U p u h = ap (λ b. cond b (Some t) (at U p)) (eqb_less p (length U) (at_below U p u h)) ∙ h

pub at_new : (t : Tenant) (U : List Tenant) → at (t ∷ U) (length U) ≡ Some t
at_new t U = ap (λ b. cond b (Some t) (at U (length U))) (eqb_self (length U))

-- All tenants before or after a position, one by one

pub not_eqb : (p n : ℕ) → eqb p n ≡ false → p ≢ n
not_eqb p n e same = let self = eqb_self p in let other : eqb p p ≡ false = ap (eqb p) same ∙ e in Rattle.std.proofs.Common.true≢false (sym self ∙ other)

pub all_at : (Q : Tenant → Type 0) (U : List Tenant) → AllByRecursion Q U → (q : ℕ) (t : Tenant) → at U q ≡ Some t → Q t
all_at Q [] h q t e = absurd (cc)
all_at Q (u ∷ us) h q t e = go (eqb q (length us)) refl (all_at Q us h.1 q t)
  where
    go : (b : Bool) → eqb q (length us) ≡ b → (at us q ≡ Some t → Q t) → Q t
    go true f more = let is : Some u ≡ Some t = ap (λ b. cond b (Some u) (at us q)) (sym f) ∙ e in let same : u ≡ t = cc is in subst Q same h.0
    go false f more = more (ap (λ b. cond b (Some u) (at us q)) (sym f) ∙ e)

pub all_from : (Q : Tenant → Type 0) (U : List Tenant) → ((q : ℕ) (t : Tenant) → at U q ≡ Some t → Q t) → AllByRecursion Q U
all_from Q [] h = tt
all_from Q (u ∷ us) h = (h (length us) u (at_new u us), all_from Q us (λ q t e. h q t (at_more u us q t e)))

pub older_at : (Q : Tenant → Type 0) (U : List Tenant) (p : ℕ) → p < length U → AllByRecursion Q (older U p) → (q : ℕ) (t : Tenant) → q < p → at U q ≡ Some t → Q t
older_at Q [] p below h q t lt e = absurd (cc)
older_at Q (u ∷ us) p below h q t lt e = go (eqb p (length us)) refl (older_at Q us p) h
  where
    at_rest : q < length us → at us q ≡ Some t
    at_rest small = ap (λ b. cond b (Some u) (at us q)) (sym (eqb_less q (length us) small)) ∙ e

    go : (b : Bool) → eqb p (length us) ≡ b → (p < length us → AllByRecursion Q (older us p) → (q : ℕ) (t : Tenant) → q < p → at us q ≡ Some t → Q t) → AllByRecursion Q (cond b us (older us p)) → Q t
    go true f more a = let same = eqb-true p (length us) f in all_at Q us a q t (at_rest (omega arith))
    go false f more a = let ne = not_eqb p (length us) f in more (omega arith) a q t lt (at_rest (omega arith))

pub older_from : (Q : Tenant → Type 0) (U : List Tenant) (p : ℕ) → p < length U → ((q : ℕ) (t : Tenant) → q < p → at U q ≡ Some t → Q t) → AllByRecursion Q (older U p)
older_from Q [] p below h = tt
older_from Q (u ∷ us) p below h = go (eqb p (length us)) refl (older_from Q us p)
  where
    go : (b : Bool) → eqb p (length us) ≡ b → (p < length us → ((q : ℕ) (t : Tenant) → q < p → at us q ≡ Some t → Q t) → AllByRecursion Q (older us p)) → AllByRecursion Q (cond b us (older us p))
    go true f more = let same = eqb-true p (length us) f in all_from Q us (λ q t e. let small = at_below us q t e in h q t (omega arith) (at_more u us q t e))
    go false f more = let ne = not_eqb p (length us) f in more (omega arith) (λ q t lt e. h q t lt (at_more u us q t e))

pub younger_at : (Q : Tenant → Type 0) (U : List Tenant) (p : ℕ) → AllByRecursion Q (younger U p) → (q : ℕ) (t : Tenant) → p < q → at U q ≡ Some t → Q t
younger_at Q [] p h q t lt e = absurd (cc)
younger_at Q (u ∷ us) p h q t lt e = go (eqb p (length us)) refl (younger_at Q us p) h
  where
    go : (b : Bool) → eqb p (length us) ≡ b → (AllByRecursion Q (younger us p) → (q : ℕ) (t : Tenant) → p < q → at us q ≡ Some t → Q t) → AllByRecursion Q (cond b [] (u ∷ younger us p)) → Q t
    go true f more a = let same = eqb-true p (length us) f in let small = at_below (u ∷ us) q t e in absurd (omega arith)
    go false f more a = last (eqb q (length us)) refl
      where
        last : (b : Bool) → eqb q (length us) ≡ b → Q t
        last true g = let is : Some u ≡ Some t = ap (λ b. cond b (Some u) (at us q)) (sym g) ∙ e in let same : u ≡ t = cc is in subst Q same a.0
        last false g = more a.1 q t lt (ap (λ b. cond b (Some u) (at us q)) (sym g) ∙ e)

pub younger_from : (Q : Tenant → Type 0) (U : List Tenant) (p : ℕ) → p < length U → ((q : ℕ) (t : Tenant) → p < q → at U q ≡ Some t → Q t) → AllByRecursion Q (younger U p)
younger_from Q [] p below h = tt
younger_from Q (u ∷ us) p below h = go (eqb p (length us)) refl (younger_from Q us p)
  where
    go : (b : Bool) → eqb p (length us) ≡ b → (p < length us → ((q : ℕ) (t : Tenant) → p < q → at us q ≡ Some t → Q t) → AllByRecursion Q (younger us p)) →
        AllByRecursion Q (cond b [] (u ∷ younger us p))
    go true f more = tt
    go false f more = let ne = not_eqb p (length us) f in (h (length us) u (omega arith) (at_new u us), more (omega arith) (λ q t lt e. h q t lt (at_more u us q t e)))
