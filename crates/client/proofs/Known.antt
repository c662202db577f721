-- Who has all seats of a core in one hand knows what was done, to the letter.
use Rattle.std.proofs.Common.{◌≡◌, ◌≢◌, ℕ, List, [], ◌∷◌, ◌++◌, map, length, refl, sym, ap, ◌∙◌, subst, ⊎_elim, arith, length-append}
use Rattle.std.proofs.lemmas.List.{append_cancel_right}
use mathlib.Core.Logic.{dite}
use native.Mathlib.Decide.{ℕ_discrete}
use Rattle.inorder.specs.declared.history.Entry.{Entry}
use Rattle.inorder.specs.declared.history.Event.{Event}
use Rattle.inorder.specs.History.{IsLegal, IsUnit, back, entry, front, own, renewals}
use Rattle.instructions.specs.Histories.{StartsWith}
use Rattle.inorder.specs.OneHistory.{Adds}
use Rattle.ruu_words.specs.Views.{IsSpare}
use Rattle.station.specs.Seats.{Caller, TheCore}
use Rattle.client.specs.declared.seats.Seats.{Seats}
use Rattle.client.specs.Done.{GoesOnAlone, HaveDone}
use Rattle.client.specs.ByHand.{AreAll, HaveMetTwice, HasHeardMore}
use Rattle.client.proofs.Histories.{at_least, own-append, same_between}
use Rattle.instructions.proofs.Histories.{starts_on, starts_same}
use Rattle.inorder.proofs.Histories.{none_from, own_else, own_here}

-- Histories

-- where nobody else has done anything, all entries are the caller's own
all_own : (by : ℕ) (more : List Entry) → ((n : ℕ) → n ≢ by → own n more ≡ []) → own by more ≡ more
all_own by [] none = refl
all_own by (e ∷ more) none = dite (ℕ_discrete e.by by)
    (λ here. own_here by e more here ∙ ap (λ z. e ∷ z) (all_own by more (λ n ne. sym (own_else n e more (λ q. ne (sym q ∙ here))) ∙ none n ne)))
    (λ there. let two : e ∷ own e.by more ≡ [] = sym (own_here e.by e more refl) ∙ none e.by there in absurd (cc two))

longer : (xs ys : List Entry) → length (xs ++ ys) ≡ length ys → xs ≡ []
longer [] ys e = refl
longer (x ∷ xs) ys e = let l = length-append xs ys in absurd (omega arith)

-- so a history that goes on from another has these entries after it, and no others
pub exactly : (by : ℕ) (old new : List Entry) (events : List Event) → StartsWith new old → ((n : ℕ) → n ≢ by → own n new ≡ own n old) → own by new ≡ map (entry by) events ++ own by old
    → new ≡ map (entry by) events ++ old
exactly by old new events s alone mine =
    let none : (n : ℕ) → n ≢ by → own n s.more ≡ [] = λ n ne. longer (own n s.more) (own n old) (ap (λ l. length l) (sym (own-append n s.more old) ∙ (sym (ap (own n) s.is) ∙ alone n ne))) in
    let its : own by s.more ≡ map (entry by) events = append_cancel_right (own by s.more) (map (entry by) events) (own by old) (sym (own-append by s.more old) ∙ (sym (ap (own by) s.is) ∙ mine)) in
    s.is ∙ ap (λ z. z ++ old) (sym (all_own by s.more none) ∙ its)

legal_before : (P : Rattle.instructions.specs.Programs.Program) (C : Rattle.inorder.specs.Unit.Sizes) (more h : List Entry) → IsLegal P C (more ++ h) → IsLegal P C h
legal_before P C [] h l = l
legal_before P C (e ∷ more) h l = legal_before P C more h l.0

-- One caller's call, and two meetings of all after it

-- this caller has come to see a history, and the others stand still
pub record Moves (by : ℕ) (seen : List Entry) (v w : Caller) : Type 0 where
  pub by_is : w.by ≡ v.by
  pub its : v.by ≡ by → w.seen ≡ seen
  pub others : v.by ≢ by → w.seen ≡ v.seen

pub stands : (by : ℕ) (seen : List Entry) (v : Caller) → v.by ≢ by → Moves by seen v v
stands by seen v ne = record { by_is = refl; its = λ e. absurd (ne e); others = λ n. refl }

pub record AllMove (by : ℕ) (seen : List Entry) (s t : Seats) : Type 0 where
  pub front : Moves by seen s.front t.front
  pub back : Moves by seen s.back t.back
  pub one : Moves by seen s.one t.one
  pub other : Moves by seen s.other t.other
  pub one_spare : t.one.spare ≡ s.one.spare
  pub other_spare : t.other.spare ≡ s.other.spare

module _ (core : TheCore) (s t u : Seats) (all : AreAll core s) (met : HaveMetTwice core t u) (by : ℕ) (seen : List Entry) (move : AllMove by seen s t)
    (known : StartsWith met.once.one.seen seen) (old : List Entry) (on : StartsWith seen old) (done : HaveDone core s old) where
  abbrev m : Seats
  m = met.once

  -- a caller has only looked and met in the meetings
  met_own : (v w x : Caller) → HasHeardMore core v w → HasHeardMore core w x → own v.by x.seen ≡ own v.by v.seen
  met_own v w x a b = subst (λ n. own n x.seen ≡ own n w.seen) a.by_is b.adds.mine ∙ a.adds.mine

  -- what another caller had done is still all that it has done
  still : (v w x y : Caller) → Moves by seen v w → HasHeardMore core w x → HasHeardMore core x y → Adds core.program core.sizes v.by old v.seen [] → v.by ≢ by → own v.by y.seen ≡ own v.by old
  still v w x y mv a b d ne =
      subst (λ n. own n y.seen ≡ own n w.seen) mv.by_is (met_own w x y a b) ∙ (ap (own v.by) (mv.others ne) ∙ d.mine)

  -- and so it has done nothing up to there
  quiet : (v w x y : Caller) → Moves by seen v w → HasHeardMore core w x → HasHeardMore core x y → Adds core.program core.sizes v.by old v.seen [] → StartsWith y.seen m.one.seen → v.by ≢ by
      → own v.by seen ≡ own v.by old
  quiet v w x y mv a b d told ne =
      let e = ap (λ l. length l) (still v w x y mv a b d ne) in
      same_between v.by old seen y.seen on (starts_on seen m.one.seen y.seen known told) (omega arith)

  nobody : (n : ℕ) (v : List Entry) → StartsWith v m.one.seen → own n v ≡ own n core.opening → own n seen ≡ own n old
  nobody n v told none =
      let few = at_least n core.opening old done.opened in
      let e = ap (λ l. length l) none in
      same_between n old seen v on (starts_on seen m.one.seen v known told) (omega arith)

  by_front : s.front.by ≢ by → own s.front.by seen ≡ own s.front.by old
  by_front = quiet s.front t.front m.front u.front move.front met.first.front met.second.front done.front met.second.to_front

  by_back : s.back.by ≢ by → own s.back.by seen ≡ own s.back.by old
  by_back = quiet s.back t.back m.back u.back move.back met.first.back met.second.back done.back met.second.to_back

  by_one : s.one.by ≢ by → own s.one.by seen ≡ own s.one.by old
  by_one = quiet s.one t.one m.one u.one move.one met.first.one met.second.one done.one met.second.one.adds.begins

  by_other : s.other.by ≢ by → own s.other.by seen ≡ own s.other.by old
  by_other = quiet s.other t.other m.other u.other move.other met.first.other met.second.other done.other met.second.to_other

  -- of a number that is a seat's
  of_seat : (v : ℕ) → (v ≢ by → own v seen ≡ own v old) → (n : ℕ) → n ≡ v → n ≢ by → own n seen ≡ own n old
  of_seat v at n e ne = subst (λ i. own i seen ≡ own i old) (sym e) (at (λ q. ne (e ∙ q)))

  by_unit : (n : ℕ) → IsUnit n → n ≢ by → own n seen ≡ own n old
  by_unit n unit ne = ⊎_elim
      (λ e. of_seat s.one.by by_one n e ne)
      (λ rest. ⊎_elim
      (λ e. of_seat s.other.by by_other n e ne)
      (λ spare. ⊎_elim
      (λ h. nobody n u.one.seen met.second.one.adds.begins (met.second.no_more_of_one n (subst (λ i. IsSpare i n) (sym (met.second.one.spare_is ∙ (met.first.one.spare_is ∙ move.one_spare))) h)))
      (λ h. nobody n u.other.seen met.second.to_other (met.second.no_more_of_other n (subst (λ i. IsSpare i n) (sym (met.second.other.spare_is ∙ (met.first.other.spare_is ∙ move.other_spare))) h)))
      spare)
      rest)
      (all.no_third n unit)

  pub alone : (n : ℕ) → n ≢ by → own n seen ≡ own n old
  alone n ne = dite (ℕ_discrete n front)
      (λ e. of_seat s.front.by by_front n (e ∙ sym all.front_by) ne)
      (λ not_front. dite (ℕ_discrete n back)
      (λ e. of_seat s.back.by by_back n (e ∙ sym all.back_by) ne)
      (λ not_back. by_unit n (two n not_front not_back) ne))
    where
      two : (n : ℕ) → n ≢ front → n ≢ back → IsUnit n
      two n f g = omega arith

  legal : IsLegal core.program core.sizes seen
  legal = legal_before core.program core.sizes known.more seen (subst (IsLegal core.program core.sizes) known.is met.first.one.adds.legal)

  -- each caller has seen all of it, and has done nothing since
  since : (v w x y : Caller) → Moves by seen v w → HasHeardMore core w x → HasHeardMore core x y → Adds core.program core.sizes v.by old v.seen [] → StartsWith y.seen m.one.seen
      → Adds core.program core.sizes y.by seen y.seen []
  since v w x y mv a b d told = record {
    begins = starts_on seen m.one.seen y.seen known told;
    legal = b.adds.legal;
    one_table = calm;
    mine = subst (λ n. own n y.seen ≡ own n seen) (sym (b.by_is ∙ (a.by_is ∙ mv.by_is))) same;
  }
    where
      to_y : renewals y.seen ≡ renewals w.seen
      to_y = b.adds.one_table ∙ a.adds.one_table

      calm : renewals y.seen ≡ renewals seen
      calm = dite (ℕ_discrete v.by by)
          (λ e. to_y ∙ ap renewals (mv.its e))
          (λ ne. none_from y.seen seen old (starts_on seen m.one.seen y.seen known told) on (to_y ∙ (ap renewals (mv.others ne) ∙ d.one_table)))

      same : own v.by y.seen ≡ own v.by seen
      same = dite (ℕ_discrete v.by by)
          (λ e. subst (λ n. own n y.seen ≡ own n w.seen) mv.by_is (met_own w x y a b) ∙ ap (own v.by) (mv.its e))
          (λ ne. still v w x y mv a b d ne ∙ sym (quiet v w x y mv a b d told ne))

  pub done_then : HaveDone core u seen
  done_then = record {
    opened = starts_on core.opening old seen done.opened on;
    front = since s.front t.front m.front u.front move.front met.first.front met.second.front done.front met.second.to_front;
    back = since s.back t.back m.back u.back move.back met.first.back met.second.back done.back met.second.to_back;
    one = since s.one t.one m.one u.one move.one met.first.one met.second.one done.one met.second.one.adds.begins;
    other = since s.other t.other m.other u.other move.other met.first.other met.second.other done.other met.second.to_other;
  }

  -- and what the caller had seen before its call was all that had been done
  pub before : (mid : List Entry) → StartsWith mid old → StartsWith seen mid → own by mid ≡ own by old → mid ≡ old
  before mid up to mine = exactly by old mid [] up (λ n ne. let e = ap (λ l. length l) (alone n ne) in same_between n old mid seen up to (omega arith)) mine

  pub goes_on : (mid : List Entry) → StartsWith mid old → StartsWith seen mid → own by mid ≡ own by old → (Reply : List Entry → List Entry → Type 0) → Reply mid seen → GoesOnAlone core u by old Reply
  goes_on mid up to mine Reply reply = record { all = seen; done = done_then; alone = alone; reply = subst (λ h. Reply h seen) (before mid up to mine) reply }

-- A call of the front, and one of the first unit

pub front_goes_on : (core : TheCore) (s u : Seats) → AreAll core s → (f : Caller) → f.by ≡ s.front.by → StartsWith f.seen s.front.seen → HaveMetTwice core (record s { front = f }) u
    → (Reply : List Entry → List Entry → Type 0) → Reply s.front.seen f.seen → (old : List Entry) → HaveDone core s old → GoesOnAlone core u front old Reply
front_goes_on core s u all f by_is begins met Reply reply old done =
    let d = done.front in
    goes_on core s (record s { front = f }) u all met front f.seen
    (record {
      front = record { by_is = by_is; its = λ e. refl; others = λ ne. absurd (ne all.front_by) };
      back = stands front f.seen s.back (λ e. one_two (sym e ∙ all.back_by));
      one = stands front f.seen s.one (λ e. zero_unit (subst IsUnit e all.one_by));
      other = stands front f.seen s.other (λ e. zero_unit (subst IsUnit e all.other_by));
      one_spare = refl;
      other_spare = refl;
    })
    (starts_on f.seen met.once.front.seen met.once.one.seen met.first.front.adds.begins met.first.of_front)
    old (starts_on old s.front.seen f.seen d.begins begins) done
    s.front.seen d.begins begins (subst (λ n. own n s.front.seen ≡ own n old) all.front_by d.mine) Reply reply
  where
    one_two : front ≢ back
    one_two e = omega arith

    zero_unit : ¬ IsUnit front
    zero_unit e = omega arith

pub unit_goes_on : (core : TheCore) (s u : Seats) → AreAll core s → (o : Caller) → o.by ≡ s.one.by → o.spare ≡ s.one.spare → StartsWith o.seen s.one.seen → HaveMetTwice core (record s { one = o }) u
    → (Reply : List Entry → List Entry → Type 0) → Reply s.one.seen o.seen → (old : List Entry) → HaveDone core s old → GoesOnAlone core u s.one.by old Reply
unit_goes_on core s u all o by_is spare begins met Reply reply old done =
    let d = done.one in
    goes_on core s (record s { one = o }) u all met s.one.by o.seen
    (record {
      front = stands s.one.by o.seen s.front (λ e. few (all.front_by) e all.one_by);
      back = stands s.one.by o.seen s.back (λ e. few' (all.back_by) e all.one_by);
      one = record { by_is = by_is; its = λ e. refl; others = λ ne. absurd (ne refl) };
      other = stands s.one.by o.seen s.other all.two;
      one_spare = spare;
      other_spare = refl;
    })
    (starts_on o.seen met.once.one.seen met.once.one.seen met.first.one.adds.begins (starts_same met.once.one.seen))
    old (starts_on old s.one.seen o.seen d.begins begins) done
    s.one.seen d.begins begins d.mine Reply reply
  where
    few : {a b : ℕ} → a ≡ front → a ≡ b → ¬ IsUnit b
    few p q unit = omega arith

    few' : {a b : ℕ} → a ≡ back → a ≡ b → ¬ IsUnit b
    few' p q unit = omega arith
