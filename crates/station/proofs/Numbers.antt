-- The numbers of seats and of those that are cut from them.
use Rattle.std.proofs.Common.{◌≡◌, ◌⊎◌, ℕ, zero, suc, ◌-◌, ◌+◌, ◌*◌, ◌<◌, ◌≤◌, List, sym, refl, ap, ◌∙◌, subst, inl, inr, ⊎_elim, arith}
use mathlib.Core.Logic.{dite}
use native.Mathlib.Decide.{ℕ_discrete}
use Rattle.inorder.specs.declared.history.Entry.{Entry}
use Rattle.inorder.specs.History.{own}
use Rattle.ruu_words.specs.declared.rule.Draft.TheVariants.{Nothing}
use Rattle.ruu_words.specs.declared.rule.SpareNumbers.{SpareNumbers}
use Rattle.ruu_words.specs.declared.rule.Role.{Role}
use Rattle.ruu_words.specs.declared.rule.Role.TheVariants.{Back, Front, Spent, Start, Worker}
use Rattle.ruu_words.specs.declared.rule.View.{View}
use Rattle.ruu_words.specs.Views.{IsCaller, IsSpare, Unborn, half, other_half, view}
use Rattle.ruu_words.proofs.SpareNumbers.{half_of, other_half_of}
use Rattle.station.specs.Quiet.{SplitsShareNumbers, UnitsAreNumbered}
use Rattle.station.specs.Seats.{HasSpare, IsGiver, IsNumbered}

-- After a step, or after a call of the front or of the back

giver_on : (opening : List Entry) (v w : View) → w.by ≡ v.by → w.spare ≡ v.spare → Unborn opening w → IsGiver opening v → IsGiver opening w
giver_on opening v w by spare unborn g = record {
  some = subst (λ (z : SpareNumbers). 1 ≤ z.every) (sym spare) g.some;
  above = subst (λ (z : ℕ × SpareNumbers). z.0 < z.1.first) (λ i. (sym by i, sym spare i)) g.above;
  unborn = unborn;
}

pub numbered_on : (opening : List Entry) (role : Role) (v w : View) → w.by ≡ v.by → w.spare ≡ v.spare → Unborn opening w → IsNumbered opening role v → IsNumbered opening role w
numbered_on opening role v w by spare unborn n = record { caller = subst (IsCaller role) (sym by) n.caller; spare = go role n.spare }
  where
    go : (r : Role) → HasSpare opening r v → HasSpare opening r w
    go Start h = absurd h
    go Front h = spare ∙ h
    go Back h = spare ∙ h
    go Worker h = giver_on opening v w by spare unborn h
    go Spent h = absurd h

-- Cuts

first_of : (spare : SpareNumbers) → 1 ≤ spare.every → IsSpare spare spare.first
first_of spare some = record { some = some; k = 0; is = sym (none spare.first spare.every) }
  where
    none : (f e : ℕ) → f + 0 * e ≡ f
    none f e = omega arith

module _ (opening : List Entry) (v w : View) where
  -- a seat that has given away a number, and every second of the rest
  pub left_numbered : w ≡ view v.role v.by (half v.spare) v.seen v.draft → IsNumbered opening Worker v → IsNumbered opening Worker w
  left_numbered e n =
      let g = n.spare in
      let above = g.above in
      let some = g.some in
      subst (IsNumbered opening Worker) (sym e) (record {
        caller = n.caller;
        spare = record { some = omega arith; above = omega arith; unborn = λ m i. g.unborn m (half_of v.spare m i) };
      })

  -- and the seat that has got them
  pub right_numbered : w ≡ view Worker v.spare.first (other_half v.spare) v.seen Nothing → IsNumbered opening Worker v → IsNumbered opening Worker w
  right_numbered e n =
      let g = n.spare in
      let above = g.above in
      let some = g.some in
      let unit : 2 ≤ v.by = n.caller in
      subst (IsNumbered opening Worker) (sym e) (record {
        caller = omega arith;
        spare = record { some = omega arith; above = omega arith; unborn = λ m i. g.unborn m (other_half_of v.spare m i) };
      })

-- its caller has done nothing
pub born_now : (opening : List Entry) (v : View) → IsNumbered opening Worker v → own v.spare.first v.seen ≡ own v.spare.first opening
born_now opening v n = n.spare.unborn v.spare.first (first_of v.spare n.spare.some)

-- All units, and the numbers at a split

pub units_are_numbered : UnitsAreNumbered
units_are_numbered n unit = dite (ℕ_discrete n 2) (λ e. inl e) (λ ne. inr (record { some = omega arith; k = n - 3; is = omega arith }))

steps : (k : ℕ) → (k ≡ 0) ⊎ (((j : ℕ) × (k ≡ 2 * j + 1)) ⊎ ((j : ℕ) × (k ≡ 2 * j + 2)))
steps zero = inl refl
steps (suc k) = ⊎_elim
    (λ (e : k ≡ 0). inr (inl (0, omega arith)))
    (λ x. ⊎_elim
    (λ (o : (j : ℕ) × (k ≡ 2 * j + 1)). let is = o.1 in inr (inr (o.0, omega arith)))
    (λ (o : (j : ℕ) × (k ≡ 2 * j + 2)). let is = o.1 in inr (inl (o.0 + 1, omega arith)))
    x)
    (steps k)

odd_steps : (f e j : ℕ) → f + (2 * j + 1) * e ≡ f + e + j * (2 * e)
odd_steps f e j = grind arith

even_steps : (f e j : ℕ) → f + (2 * j + 2) * e ≡ f + 2 * e + j * (2 * e)
even_steps f e j = grind arith

pub splits_share : SplitsShareNumbers
splits_share spare n i =
    let f : ℕ = spare.first in
    let e : ℕ = spare.every in
    let some = i.some in
    let is : n ≡ f + i.k * e = i.is in
    ⊎_elim
    (λ (z : i.k ≡ 0). inl (is ∙ (ap (λ k. f + k * e) z ∙ none f e)))
    (λ x. inr (⊎_elim
    (λ (o : (j : ℕ) × (i.k ≡ 2 * j + 1)). inl (record { some = omega arith; k = o.0; is = is ∙ (ap (λ k. f + k * e) o.1 ∙ odd_steps f e o.0) }))
    (λ (o : (j : ℕ) × (i.k ≡ 2 * j + 2)). inr (record { some = omega arith; k = o.0; is = is ∙ (ap (λ k. f + k * e) o.1 ∙ even_steps f e o.0) }))
    x))
    (steps i.k)
  where
    none : (f e : ℕ) → f + 0 * e ≡ f
    none f e = omega arith
