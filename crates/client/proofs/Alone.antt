-- Where all seats of a core are in one hand, nobody else steps between their meetings.
use Rattle.std.proofs.Common.{◌≡◌, ◌≢◌, ℕ, List, length, refl, sym, ap, ◌∙◌, subst, ⊎_elim, arith}
use mathlib.Core.Logic.{dite}
use native.Mathlib.Decide.{ℕ_discrete}
use Rattle.inorder.specs.declared.history.Entry.{Entry}
use Rattle.inorder.specs.History.{IsUnit, back, front, own}
use Rattle.instructions.specs.Histories.{StartsWith}
use Rattle.ruu_words.specs.Views.{IsSpare}
use Rattle.station.specs.Finishing.{OnlyUnits}
use Rattle.station.specs.Quiet.{IsQuiet}
use Rattle.station.specs.Seats.{Caller, TheCore}
use Rattle.client.specs.declared.seats.Seats.{Seats}
use Rattle.client.specs.ByHand.{AreAll, HaveHeard, HasHeardMore}
use Rattle.client.proofs.Histories.{at_least, same_between}
use Rattle.instructions.proofs.Histories.{starts_on}

-- All but the first unit have only looked and met from s to z
pub record Stand (s z : Seats) : Type 0 where
  pub front_by : z.front.by ≡ s.front.by
  pub back_by : z.back.by ≡ s.back.by
  pub other_by : z.other.by ≡ s.other.by
  pub one_spare : z.one.spare ≡ s.one.spare
  pub other_spare : z.other.spare ≡ s.other.spare
  pub fronts : own s.front.by z.front.seen ≡ own s.front.by s.front.seen
  pub backs : own s.back.by z.back.seen ≡ own s.back.by s.back.seen
  pub others : own s.other.by z.other.seen ≡ own s.other.by s.other.seen

pub stand_still : (s : Seats) → Stand s s
stand_still s = record { front_by = refl; back_by = refl; other_by = refl; one_spare = refl; other_spare = refl; fronts = refl; backs = refl; others = refl }

own_later : (core : TheCore) (u v w : Caller) → v.by ≡ u.by → own u.by v.seen ≡ own u.by u.seen → HasHeardMore core v w → own u.by w.seen ≡ own u.by u.seen
own_later core u v w by e l = subst (λ n. own n w.seen ≡ own n v.seen) by l.adds.mine ∙ e

pub stand_on : (core : TheCore) (s t u : Seats) (o : Caller) → o.spare ≡ t.one.spare → Stand s t → HaveHeard core (record t { one = o }) u → Stand s u
stand_on core s t u o spare a m = record {
  front_by = m.front.by_is ∙ a.front_by;
  back_by = m.back.by_is ∙ a.back_by;
  other_by = m.other.by_is ∙ a.other_by;
  one_spare = m.one.spare_is ∙ (spare ∙ a.one_spare);
  other_spare = m.other.spare_is ∙ a.other_spare;
  fronts = own_later core s.front t.front u.front a.front_by a.fronts m.front;
  backs = own_later core s.back t.back u.back a.back_by a.backs m.back;
  others = own_later core s.other t.other u.other a.other_by a.others m.other;
}

-- The seats s and z, which are gathered, and what the first unit had seen before the last gathering
module _ (core : TheCore) (r s t z : Seats) (o : Caller) (all : AreAll core s) (a : HaveHeard core r s) (stand : Stand s z) (b : HaveHeard core (record t { one = o }) z) where
  module _ (x y : List Entry) (from : StartsWith x s.one.seen) (on : StartsWith y x) (to : StartsWith o.seen y) where
    -- who has no more entries at the end than at the beginning
    held : (n : ℕ) (u v : List Entry) → StartsWith s.one.seen u → StartsWith v o.seen → own n v ≡ own n u → own n y ≡ own n x
    held n u v below above e =
        let few = at_least n u x (starts_on u s.one.seen x below from) in
        let same = ap (λ l. length l) e in
        same_between n x y v on (starts_on y o.seen v to above) (omega arith)

    none : (n : ℕ) (v : List Entry) → StartsWith v o.seen → own n v ≡ own n core.opening → own n y ≡ own n x
    none n v above e =
        let few = at_least n core.opening x (starts_on core.opening s.one.seen x all.one_opened from) in
        let same = ap (λ l. length l) e in
        same_between n x y v on (starts_on y o.seen v to above) (omega arith)

    by_front : own front y ≡ own front x
    by_front = held front s.front.seen z.front.seen a.of_front b.to_front (subst (λ n. own n z.front.seen ≡ own n s.front.seen) all.front_by stand.fronts)

    by_back : own back y ≡ own back x
    by_back = held back s.back.seen z.back.seen a.of_back b.to_back (subst (λ n. own n z.back.seen ≡ own n s.back.seen) all.back_by stand.backs)

    by_unit : (n : ℕ) → IsUnit n → n ≢ s.one.by → own n y ≡ own n x
    by_unit n unit ne = ⊎_elim
        (λ e. absurd (ne e))
        (λ rest. ⊎_elim
        (λ e. subst (λ i. own i y ≡ own i x) (sym e) (held s.other.by s.other.seen z.other.seen a.of_other b.to_other stand.others))
        (λ spare. ⊎_elim
        (λ h. none n z.one.seen b.one.adds.begins (b.no_more_of_one n (subst (λ i. IsSpare i n) (sym stand.one_spare) h)))
        (λ h. none n z.other.seen b.to_other (b.no_more_of_other n (subst (λ i. IsSpare i n) (sym stand.other_spare) h)))
        spare)
        rest)
        (all.no_third n unit)

    pub nobody_else : (n : ℕ) → n ≢ s.one.by → own n y ≡ own n x
    nobody_else n ne = dite (ℕ_discrete n front)
        (λ e. subst (λ i. own i y ≡ own i x) (sym e) by_front)
        (λ not_front. dite (ℕ_discrete n back)
        (λ e. subst (λ i. own i y ≡ own i x) (sym e) by_back)
        (λ not_back. by_unit n (two not_front not_back) ne))
      where
        two : n ≢ front → n ≢ back → IsUnit n
        two f g = omega arith

    pub quiet : IsQuiet s.one.by x y
    quiet n ne not_back = nobody_else n ne

    pub only_units : OnlyUnits x y
    only_units = record { fronts = by_front; backs = by_back }
