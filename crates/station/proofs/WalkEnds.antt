-- A walk from station to station, up to its end.
use Rattle.std.proofs.Common.{◌≡◌, ℕ, suc, ◌≤◌, List, [], ◌∷◌, ◌++◌, map, refl, sym, ap, subst, arith}
use mathlib.Core.Logic.{dite}
use native.Mathlib.Decide.{ℕ_discrete}
use Rattle.instructions.specs.Programs.{Program}
use Rattle.inorder.specs.declared.history.Entry.{Entry}
use Rattle.inorder.specs.declared.history.Event.{Event}
use Rattle.inorder.specs.declared.history.Event.TheVariants.{Marks}
use Rattle.inorder.specs.declared.history.Mark.TheVariants.{Walked}
use Rattle.inorder.specs.declared.history.Source.{Source}
use Rattle.inorder.specs.declared.history.Source.TheVariants.{First, Second}
use Rattle.inorder.specs.Callers.{HasMade, IsServed}
use Rattle.inorder.specs.History.{IsLegal, IsUnitOrBack, entry, unit_of}
use Rattle.inorder.specs.OneHistory.{Adds}
use Rattle.inorder.specs.Unit.{Sizes}
use Rattle.inorder.proofs.Histories.{adds_on, legal_before}
use Rattle.inorder.proofs.Serving.{served_stays}
use Rattle.ruu_words.specs.declared.place.Place.{Place}
use Rattle.ruu_words.specs.declared.rule.Role.{Role}
use Rattle.ruu_words.specs.declared.rule.Role.TheVariants.{Back, Front, Spent, Start, Worker}
use Rattle.ruu_words.specs.declared.rule.View.{View}
use Rattle.ruu_words.specs.Kinds.{IsNamed}
use Rattle.ruu_words.specs.Views.{IsCaller}
use Rattle.ruu_words.specs.Telling.{Grows}
use Rattle.ruu_words.proofs.Building.{marks}
use Rattle.ruu_words.specs.Plans.{Plans}
use Rattle.ruu_words.proofs.Stays.{named_of, named_on, named_stays, one_named, same_before}
use Rattle.ruu_words.proofs.Walking.{is_walked}
use Rattle.station.specs.Carrying.{EndsWalk, HasValueOf, HasWalked, IsCarrying, IsServedAll, IsServing, IsWriter, OfTenant}
use Rattle.station.specs.Writeback.{IsDeliveryOf}
use Rattle.station.proofs.Adding.{adds_these}
use Rattle.station.proofs.WalkStays.{all_append, deliveries_on, made_of, made_on, makes_on, makes_stays, served_on, value_on}

-- units and the back
writes : (r : Role) (id : ℕ) → IsWriter r → IsCaller r id → IsUnitOrBack id
writes Start id w c = absurd w
writes Front id w c = absurd w
writes Back id w c = omega arith
writes Worker id w c = omega arith
writes Spent id w c = absurd w

module _ (P : Program) (C : Sizes) where
  -- both sources of one more station
  pub carries_on : (by q v n : ℕ) (old a b new : List Entry) → HasMade (unit_of P C old) q v → IsCarrying P C by q n old a → IsServing P C by q n First a b → IsServing P C by q n Second b new →
      IsCarrying P C by q (suc n) old new
  carries_on by q v n old a b new made0 x s s' =
      let made1 = made_on P C by q v x.events old a x.adds made0 in
      let made2 = made_on P C by q v s.events a b s.adds made1 in
      let both : List Event = s'.events ++ s.events in
      let adds2 : Adds P C by a new both = adds_on P C by a b new s.events s'.events s.adds s'.adds in
      record {
        events = both ++ x.events;
        each = all_append (IsDeliveryOf P C new q) both x.events
            (all_append (IsDeliveryOf P C new q) s'.events s.events s'.each (deliveries_on P C by q s.events s'.events b new s'.adds s.each))
            (deliveries_on P C by q x.events both a new adds2 x.each);
        adds = adds_on P C by old a new x.events both x.adds adds2;
        served = λ c k below. dite (ℕ_discrete c n)
            (λ (e : c ≡ n). subst (λ z. IsServed (unit_of P C new) q z k) (sym e) (last k))
            (λ ne. served_on P C by q v c k both a new adds2 made1 (x.served c k (omega arith)));
      }
    where
      last : (k : Source) → IsServed (unit_of P C new) q n k
      last First = served_on P C by q v n First s'.events b new s'.adds (made_on P C by q v s.events a b s.adds (made_on P C by q v x.events old a x.adds made0)) s.served
      last Second = s'.served

  -- The same of the tenant that is named, by the number that the seat has at each step

  pub legal_behind : (by s g val n : ℕ) (k : Source) (old new : List Entry) → HasValueOf P C old s g val → OfTenant P C old s g (λ q. IsServing P C by q n k old new) → IsLegal P C new
  legal_behind by s g val n k old new made all = (all made.p (named_of made.named)).adds.legal

  pub value_behind : (by s g val n : ℕ) (k : Source) (old new : List Entry) → (made : HasValueOf P C old s g val) → OfTenant P C old s g (λ q. IsServing P C by q n k old new) →
      HasValueOf P C new s g val
  value_behind by s g val n k old new made all = let x = all made.p (named_of made.named) in value_on P C by s g val x.events old new x.adds made

  pub carries_both : (by s g val n m id id' : ℕ) (old a b new : List Entry) → m ≡ suc n → id ≡ by → id' ≡ by → IsLegal P C old → HasValueOf P C old s g val
      → OfTenant P C old s g (λ q. IsCarrying P C by q n old a) → OfTenant P C a s g (λ q. IsServing P C id q n First a b) → OfTenant P C b s g (λ q. IsServing P C id' q n Second b new)
      → OfTenant P C old s g (λ q. IsCarrying P C by q m old new)
  carries_both by s g val n m id id' old a b new next is is' legal made carry one other q i =
      let x = carry q i in
      let ia = named_on P C by q s g x.events old a x.adds i in
      let y : IsServing P C by q n First a b = subst (λ z. IsServing P C z q n First a b) is (one q ia) in
      let ib = named_on P C by q s g y.events a b y.adds ia in
      let z : IsServing P C by q n Second b new = subst (λ z. IsServing P C z q n Second b new) is' (other q ib) in
      subst (λ w. IsCarrying P C by q w old new) (sym next) (carries_on by q val n old a b new (made_of P C old legal q s g val made i) x y z)

  pub all_served : (by s g val n : ℕ) (old new : List Entry) → C.ring ≤ n → HasValueOf P C old s g val → OfTenant P C old s g (λ q. IsCarrying P C by q n old new) → IsServedAll P C new s g val
  all_served by s g val n old new end made carry =
      let x = carry made.p (named_of made.named) in
      record { q = made.p; named = makes_on P C by made.p s g val x.events old new x.adds made.named; served = λ c k below. x.served c k (omega arith) }

  -- the last load
  pub end_plan : (id : ℕ) (v : View) (x : Place) (s g val : ℕ) → IsWriter v.role → IsServedAll P C v.seen s g val → Plans P C id v x (λ n. n) (λ _. EndsWalk P C s g)
  end_plan id v x s g val writer all between d legal same apart caller mine draft n small content =
      let h : List Entry = between ++ v.seen in
      let q : ℕ = all.q in
      let made : HasMade (unit_of P C v.seen) q val = record { tenant = all.named.tenant; is = all.named.is; made = all.named.fact } in
      let now = is_walked P C h legal q (λ c k below. served_stays P C q val c k between v.seen legal made (all.served c k below)) in
      let named = makes_stays P C q s g val between v.seen legal same all.named in
      marks P C id h d legal draft x n (Walked q) (writes v.role id writer caller, now) content (EndsWalk P C s g)
      (λ p i. record { added = ap (λ z. Marks (Walked z) ∷ []) (one_named P C h legal q p s g (named_of named) i) })

  walks_out : (by q s g n : ℕ) (old : List Entry) (v w : View) → IsCarrying P C by q n old v.seen → IsNamed (unit_of P C old) q s g → (e : Grows P C by v w (EndsWalk P C s g)) →
      HasWalked P C by q old w.seen
  walks_out by q s g n old v w c i e =
      let h : List Entry = e.between ++ v.seen in
      let named = named_stays P C q s g e.between v.seen (legal_behind e) (same_before P C by v w (EndsWalk P C s g) e) (named_on P C by q s g c.events old v.seen c.adds i) in
      let added : e.events ≡ Marks (Walked q) ∷ [] = (e.kind q named).added in
      let adds : Adds P C by v.seen w.seen (Marks (Walked q) ∷ []) = adds_these P C by v w (EndsWalk P C s g) (Marks (Walked q) ∷ []) e added in
      record {
        events = Marks (Walked q) ∷ c.events;
        walk = record { deliveries = c.events; each = deliveries_on P C by q c.events (Marks (Walked q) ∷ []) v.seen w.seen adds c.each; is = refl };
        adds = adds_on P C by old v.seen w.seen c.events (Marks (Walked q) ∷ []) c.adds adds;
      }
    where
      legal_behind : (e : Grows P C by v w (EndsWalk P C s g)) → IsLegal P C (e.between ++ v.seen)
      legal_behind e = legal_before P C (map (entry by) e.events) (e.between ++ v.seen) (subst (IsLegal P C) e.is e.legal)

  pub walks_away : (by s g n id : ℕ) (old : List Entry) (v w : View) → id ≡ by → OfTenant P C old s g (λ q. IsCarrying P C by q n old v.seen) → Grows P C id v w (EndsWalk P C s g) →
      OfTenant P C old s g (λ q. HasWalked P C by q old w.seen)
  walks_away by s g n id old v w is carry e q i = walks_out by q s g n old v w (carry q i) i (subst (λ z. Grows P C z v w (EndsWalk P C s g)) is e)
