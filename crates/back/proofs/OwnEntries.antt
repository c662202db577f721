-- Where a caller's own entries stand in what it has seen.
use Rattle.std.proofs.Common.{◌≡◌, ℕ, List, [], ◌∷◌, ◌++◌, map, refl, sym, ap, ◌∙◌, subst}
use Rattle.std.proofs.lemmas.List.{append_cancel_right}
use mathlib.Core.Logic.{dite}
use native.Mathlib.Decide.{ℕ_discrete}
use Rattle.instructions.specs.Programs.{Program}
use Rattle.inorder.specs.declared.history.Entry.{Entry}
use Rattle.inorder.specs.declared.history.Event.{Event}
use Rattle.inorder.specs.History.{IsLegal, entry, own}
use Rattle.inorder.specs.OneHistory.{Adds}
use Rattle.inorder.specs.Unit.{Sizes}
use Rattle.inorder.proofs.Histories.{own-append, own_else, own_here}

-- the first of a caller's entries, with what others added after it and what stands before it
pub record IsSplit (by : ℕ) (es : List Entry) (e : Entry) (rest : List Entry) : Type 0 where
  pub later : List Entry
  pub earlier : List Entry
  pub is : es ≡ later ++ e ∷ earlier
  pub not_own : own by later ≡ []
  pub rest_is : own by earlier ≡ rest

pub heads : (x y : Entry) (xs ys : List Entry) → x ∷ xs ≡ y ∷ ys → (x ≡ y) × (xs ≡ ys)
heads x y xs ys e = (cc e, cc e)

pub split_own : (by : ℕ) (es : List Entry) (e : Entry) (rest : List Entry) → own by es ≡ e ∷ rest → IsSplit by es e rest
split_own by [] e rest h = absurd (cc h)
split_own by (x ∷ xs) e rest h = dite (ℕ_discrete x.by by)
    (λ same. let z = heads x e (own by xs) rest (sym (own_here by x xs same) ∙ h) in
    record { later = []; earlier = xs; is = ap (λ y. y ∷ xs) z.0; not_own = refl; rest_is = z.1 })
    (λ other. let s = split_own by xs e rest (sym (own_else by x xs other) ∙ h) in
    record { later = x ∷ s.later; earlier = s.earlier; is = ap (λ ys. x ∷ ys) s.is; not_own = own_else by x s.later other ∙ s.not_own; rest_is = s.rest_is })

module _ (P : Program) (C : Sizes) (by : ℕ) (old new : List Entry) (events : List Event) (a : Adds P C by old new events) where
  -- the entries that were added, of which these are its own
  pub added_own : own by a.begins.more ≡ map (entry by) events
  added_own = append_cancel_right (own by a.begins.more) (map (entry by) events) (own by old) (sym (own-append by a.begins.more old) ∙ (sym (ap (own by) a.begins.is) ∙ a.mine))

  pub added_legal : IsLegal P C (a.begins.more ++ old)
  added_legal = subst (IsLegal P C) a.begins.is a.legal

-- the last of a caller's entries in a list
pub record EndsWith (by : ℕ) (es : List Entry) (e : Entry) : Type 0 where
  pub later : List Entry
  pub earlier : List Entry
  pub is : es ≡ later ++ e ∷ earlier
  pub not_own : own by earlier ≡ []

pub split_last : (by : ℕ) (es xs : List Entry) (e : Entry) → own by es ≡ xs ++ e ∷ [] → EndsWith by es e
split_last by [] [] e h = absurd (cc h)
split_last by [] (x ∷ xs) e h = absurd (cc h)
split_last by (y ∷ ys) [] e h = dite (ℕ_discrete y.by by)
    (λ same. let z = heads y e (own by ys) [] (sym (own_here by y ys same) ∙ h) in
    record { later = []; earlier = ys; is = ap (λ q. q ∷ ys) z.0; not_own = z.1 })
    (λ other. let s = split_last by ys [] e (sym (own_else by y ys other) ∙ h) in
    record { later = y ∷ s.later; earlier = s.earlier; is = ap (λ q. y ∷ q) s.is; not_own = s.not_own })
split_last by (y ∷ ys) (x ∷ xs) e h = dite (ℕ_discrete y.by by)
    (λ same. let z = heads y x (own by ys) (xs ++ e ∷ []) (sym (own_here by y ys same) ∙ h) in
    let s = split_last by ys xs e z.1 in
    record { later = y ∷ s.later; earlier = s.earlier; is = ap (λ q. y ∷ q) s.is; not_own = s.not_own })
    (λ other. let s = split_last by ys (x ∷ xs) e (sym (own_else by y ys other) ∙ h) in
    record { later = y ∷ s.later; earlier = s.earlier; is = ap (λ q. y ∷ q) s.is; not_own = s.not_own })
