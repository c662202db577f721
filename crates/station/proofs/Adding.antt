-- What the steps of one call add to what its caller has seen.
use Rattle.std.proofs.Common.{◌≡◌, ℕ, cond, List, [], ◌∷◌, ◌++◌, map, refl, sym, ap, ◌∙◌, subst, append_assoc, eq-eqb}
use Rattle.instructions.specs.Programs.{Program}
use Rattle.inorder.specs.declared.history.Entry.{Entry}
use Rattle.inorder.specs.declared.history.Event.{Event}
use Rattle.inorder.specs.History.{entry, own}
use Rattle.inorder.specs.OneHistory.{Adds}
use Rattle.inorder.specs.Unit.{Sizes}
use Rattle.inorder.proofs.Histories.{own-append}
use Rattle.ruu_words.specs.declared.rule.Draft.{Draft}
use Rattle.ruu_words.specs.declared.rule.View.{View}
use Rattle.ruu_words.specs.Telling.{Grows}

-- a caller's own entries are all its own
own_all : (by : ℕ) (es : List Event) → own by (map (entry by) es) ≡ map (entry by) es
own_all by [] = refl
own_all by (e ∷ es) = ap (λ b. cond b (entry by e ∷ own by (map (entry by) es)) (own by (map (entry by) es))) (eq-eqb by by refl) ∙ ap (λ z. entry by e ∷ z) (own_all by es)

module _ (P : Program) (C : Sizes) where
  -- one step
  pub adds_step : (by : ℕ) (v w : View) (Kind : List Entry → Draft → List Event → Type 0) → (g : Grows P C by v w Kind) → Adds P C by v.seen w.seen g.events
  adds_step by v w Kind g =
      let mine : List Entry = map (entry by) g.events in
      record {
        begins = record { more = mine ++ g.between; is = g.is ∙ sym (append_assoc mine g.between v.seen) };
        legal = g.legal;
        one_table = g.same;
        mine =
            ap (own by) g.is ∙ (own-append by mine (g.between ++ v.seen)
            ∙ ((λ i. own_all by g.events i ++ own-append by g.between v.seen i)
            ∙ ap (λ z. mine ++ (z ++ own by v.seen)) g.not_own));
      }

  pub adds_these : (by : ℕ) (v w : View) (Kind : List Entry → Draft → List Event → Type 0) (es : List Event) → (g : Grows P C by v w Kind) → g.events ≡ es → Adds P C by v.seen w.seen es
  adds_these by v w Kind es g e = subst (λ z. Adds P C by v.seen w.seen z) e (adds_step by v w Kind g)
