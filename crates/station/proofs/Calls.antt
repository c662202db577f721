-- A step of a call is one of its table.
use Rattle.std.proofs.Common.{◌≡◌, ℕ, ◌<◌, Bool, List, [], ◌++◌, map, sym, ap, refl, ◌∙◌, subst}
use Rattle.atomic_table.specs.Seated.{TableId}
use Rattle.atomic_table.specs.Table.{Allows, Me, Step}
use Rattle.instructions.specs.Programs.{Program}
use Rattle.inorder.specs.declared.history.Entry.{Entry}
use Rattle.inorder.specs.declared.history.Event.{Event}
use Rattle.inorder.specs.History.{IsLegal, entry, front, own, unit_of}
use Rattle.inorder.specs.Unit.{Sizes, next_station, recent}
use Rattle.ruu_words.specs.declared.place.Place.{Place}
use Rattle.ruu_words.specs.declared.rule.Draft.{Draft}
use Rattle.ruu_words.specs.declared.rule.Draft.TheVariants.{Nothing}
use Rattle.ruu_words.specs.declared.rule.SpareNumbers.{SpareNumbers}
use Rattle.ruu_words.specs.declared.rule.Role.{Role}
use Rattle.ruu_words.specs.declared.rule.Role.TheVariants.{Back, Front, Spent, Start, Worker}
use Rattle.ruu_words.specs.declared.rule.Setup.{Setup}
use Rattle.ruu_words.specs.declared.rule.View.{View}
use Rattle.ruu_words.specs.Places.{IsPlace, index}
use Rattle.ruu_words.specs.Plans.{Plans}
use Rattle.ruu_words.specs.Openings.{opening_of, sizes_of}
use Rattle.ruu_words.specs.Views.{IsAlive, IsCaller, Unborn}
use Rattle.ruu_words.specs.Rule.{Kept}
use Rattle.ruu_words.specs.Telling.{Grows, Tells}
use Rattle.ruu_words.proofs.General.{allowed_at}
use Rattle.station.specs.Calls.{IsCall, IsSameCall, IsLegalCall, MayStepAt, StepKind, TakesStep, TheCall, call_of, let_place}
use Rattle.station.specs.Seats.{Caller, HasSpare, IsAtHead, IsNumbered, IsSeated, TheCore, core_of}
use Rattle.station.specs.declared.steps.retire.Access.{Access}
use Rattle.station.specs.declared.steps.retire.Leaving.{Leaving}
use Rattle.ruu_words.specs.declared.station.StationWord.{StationWord}
use Rattle.station.specs.Retirement.{HasAccess, HasEnd, MayLeave}
use Rattle.station.proofs.Numbers.{numbered_on}
use Rattle.station.specs.Steps.{Sees}
use Rattle.station.proofs.Seated.{seated_on}
use Rattle.station.proofs.SameUnit.{Unit_of, of_seat, unit_at, unit_in}

-- a seat with a number is not spent
pub alive_role : (opening : List Entry) (role : Role) (v : View) → IsNumbered opening role v → IsAlive role
alive_role opening role v n = go role n.spare
  where
    go : (r : Role) → HasSpare opening r v → IsAlive r
    go Start h = absurd h
    go Front h = tt
    go Back h = tt
    go Worker h = tt
    go Spent h = absurd h

module _ (table : TableId) (key : Setup) (core : TheCore) (here : core_of table key ≡ core) (me : Me ℕ View) (lent : ℕ) (v : TheCall) (is : call_of core me.0 lent ≡ v) where
  abbrev its : StepKind → List Entry → Draft → List Event → Type 0
  its K = K key.program (sizes_of key)

  same : call_of (core_of table key) me.0 lent ≡ v
  same = ap (λ c. call_of c me.0 lent) here ∙ is

  -- at a place of the table, with a plan
  allowed : (role : Role) (at : TableId) (x : Place) (f : ℕ → ℕ) (K : ℕ → StepKind) → IsCall core role at me → MayStepAt role v x f K →
      IsPlace key.ring x × Plans key.program (sizes_of key) me.0.by me.0 x f (λ n. its (K n))
  allowed role at x f K was m = subst (λ z. MayStepAt role z x f K) (sym same) m was.role_is was.numbered.caller
      (subst (λ (c : TheCore). IsLegal c.program c.sizes me.0.seen) (sym here) was.legal)

  pub at_place : (role : Role) (at : TableId) (x : Place) (f : ℕ → ℕ) (K : ℕ → StepKind) (ring : ℕ) → key.ring ≡ ring → IsCall core role at me → MayStepAt role v x f K → IsPlace ring x
  at_place role at x f K ring ring_is was m = subst (λ r. IsPlace r x) ring_is (allowed role at x f K was m).0

  pub may : (role : Role) (at : TableId) (slots id : ℕ) (x : Place) (i : ℕ) (f tell : ℕ → ℕ) (K : ℕ → StepKind) (z : Step ℕ) (ring : ℕ) → key.ring ≡ ring → i ≡ index ring x → IsCall core
      role at me
      → MayStepAt role v x f (λ n. K (tell n)) → Allows (Kept key) slots id me i f
      (λ n found. Tells key.program (sizes_of key) (opening_of key) me.0.by (λ n. its (K n)) z me (tell n) found)
  may role at slots id x i f tell K z ring ring_is index_is was m =
      let can = allowed role at x f (λ n. K (tell n)) was m in
      allowed_at key.program (sizes_of key) (opening_of key) slots id me x i f tell (λ n. its (K n)) z (ap (λ r. index r x) ring_is ∙ sym index_is) can.0
      (subst IsAlive (sym was.role_is) (alive_role core.opening role me.0 was.numbered)) can.1

  pub goes_on : (role : Role) (old_table new_table : TableId) (w : Me ℕ View) (K : StepKind) → IsCall core role old_table me → new_table ≡ old_table →
      Grows key.program (sizes_of key) me.0.by me.0 w.0 (its K)
      → Unborn (opening_of key) w.0 → w.1 ≡ me.1 → IsCall core role new_table w
  goes_on role old_table new_table w K was at g unborn slots = record {
    at = at ∙ was.at;
    role_is = g.role ∙ was.role_is;
    slots = slots ∙ was.slots;
    legal = subst (λ (c : TheCore). IsLegal c.program c.sizes w.0.seen) here g.legal;
    numbered = numbered_on core.opening role me.0 w.0 g.by_is g.spare_is (subst (λ (c : TheCore). Unborn c.opening w.0) here unborn) was.numbered;
  }

  pub takes : (w : View) (K : StepKind) → Grows key.program (sizes_of key) me.0.by me.0 w (its K) → TakesStep v (call_of core w lent) K
  takes w K g = subst (λ z. TakesStep z (call_of core w lent) K) same (record { same = record { core = sym here; role = g.role; by = g.by_is; spare = g.spare_is; lent = refl }; grows = g })

-- the steps of one call are of one core and one caller
pub joined : {u v w : TheCall} → IsSameCall u v → IsSameCall v w → IsSameCall u w
joined a b = record { core = b.core ∙ a.core; role = b.role ∙ a.role; by = b.by ∙ a.by; spare = b.spare ∙ a.spare; lent = b.lent ∙ a.lent }

-- what is said of its core and caller
abbrev pub Of : Type 0
Of = TheCore × ℕ

abbrev pub of : TheCall → Of
of v = (v.core, v.view.by)

pub of_one : (v w : TheCall) → IsSameCall v w → of w ≡ of v
of_one v w g = λ i. (g.core i, g.by i)

-- it holds of the same call before a step and after it
pub before : (F : Of → Type 0) {v w : TheCall} → IsSameCall v w → F (of w) → F (of v)
before F {v} {w} g = subst F (of_one v w g)

pub after : (F : Of → Type 0) {v w : TheCall} → IsSameCall v w → F (of v) → F (of w)
after F {v} {w} g = subst F (sym (of_one v w g))

-- a later step, of the core and the caller as they were named at first
pub taken : {v w x : TheCall} {K : StepKind} → IsSameCall v w → TakesStep w x K → Grows v.core.program v.core.sizes v.view.by w.view x.view (K v.core.program v.core.sizes)
taken {v} {w} {x} {K} g t = before (λ z. Grows z.0.program z.0.sizes z.1 w.view x.view (K z.0.program z.0.sizes)) g t.grows

-- the next tenant's station, of the core as it was named at first
pub next_kept : {v w : TheCall} → IsSameCall v w → next_station v.core.sizes (recent (unit_of v.core.program v.core.sizes w.view.seen)) ≡ let_place v → let_place w ≡ let_place v
next_kept {v} {w} g e = after (λ z. next_station z.0.sizes (recent (unit_of z.0.program z.0.sizes w.view.seen)) ≡ let_place v) g e

-- what is known of a call that has used one of its fields
pub legal_at : {core : TheCore} {me : Me ℕ View} {lent : ℕ} {v : TheCall} {role : Role} {table : TableId} → IsCall core role table me → call_of core me.0 lent ≡ v → IsLegalCall v
legal_at t is = subst IsLegalCall is t.legal

pub role_at : {core : TheCore} {me : Me ℕ View} {lent : ℕ} {v : TheCall} {role : Role} {table : TableId} → IsCall core role table me → call_of core me.0 lent ≡ v → v.view.role ≡ role
role_at t is = sym (ap (λ (z : TheCall). z.view.role) is) ∙ t.role_is

pub caller_at : {core : TheCore} {me : Me ℕ View} {lent : ℕ} {v : TheCall} {role : Role} {table : TableId} → IsCall core role table me → call_of core me.0 lent ≡ v → IsCaller role v.view.by
caller_at {core} {me} {lent} {v} {role} t is = subst (λ (z : TheCall). IsCaller role z.view.by) is t.numbered.caller

pub ring_at : (key : Setup) {table : TableId} {core : TheCore} {view : View} {lent ring : ℕ} {v : TheCall} → key.ring ≡ ring → core_of table key ≡ core → call_of core view lent ≡ v →
    ring ≡ v.core.sizes.ring
ring_at key e here is = sym e ∙ (ap (λ (k : TheCore). k.sizes.ring) here ∙ ap (λ (z : TheCall). z.core.sizes.ring) is)

pub program_at : (key : Setup) {table : TableId} {core : TheCore} {view : View} {lent : ℕ} {v : TheCall} {P : Program} → key.program ≡ P → core_of table key ≡ core → call_of core view lent ≡ v →
    P ≡ v.core.program
program_at key e here is = sym e ∙ (ap (λ (k : TheCore). k.program) here ∙ ap (λ (z : TheCall). z.core.program) is)

-- what the oldest live tenant can do, of the core as it is named later
pub access_after : {v w : TheCall} {a : Access} → IsSameCall v w → HasAccess v.core.program v.core.sizes w.view.seen a → HasAccess w.core.program w.core.sizes w.view.seen a
access_after {v} {w} {a} g = after (λ z. HasAccess z.0.program z.0.sizes w.view.seen a) g

pub leave_after : {v w : TheCall} {l : Leaving} → IsSameCall v w → MayLeave v.core.program v.core.sizes w.view.seen l → MayLeave w.core.program w.core.sizes w.view.seen l
leave_after {v} {w} {l} g = after (λ z. MayLeave z.0.program z.0.sizes w.view.seen l) g

pub end_after : {v w : TheCall} {s : ℕ} {word : StationWord} → IsSameCall v w → HasEnd v.core.program v.core.sizes w.view.seen s word → HasEnd w.core.program w.core.sizes w.view.seen s word
end_after {v} {w} {s} {word} g = after (λ z. HasEnd z.0.program z.0.sizes w.view.seen s word) g

-- a look, of the seat before the call and after it
pub saw_at : (core : TheCore) {old new : View} {core' : TheCore} {lent lent' : ℕ} {v w : TheCall} → v ≡ call_of core old lent → call_of core' new lent' ≡ w → (x : Place) (n : ℕ) →
    TakesStep v w (λ P C. Sees P C v.view.by v.view x n)
    → Grows core.program core.sizes old.by old new (Sees core.program core.sizes old.by old x n)
saw_at core begins is x n took = subst (λ (z : TheCall × TheCall). Grows z.0.core.program z.0.core.sizes z.0.view.by z.0.view z.1.view (Sees z.0.core.program z.0.core.sizes z.0.view.by
    z.0.view x n))
    (λ i. (begins i, sym is i)) took.grows

-- after a look the front has done nothing yet
pub record HasOnlyLooked (P : Program) (C : Sizes) (between old new : List Entry) : Type 0 where
  pub is : new ≡ between ++ old
  pub legal : IsLegal P C (between ++ old)
  pub none : own front between ≡ []

pub only_looked : {v w : TheCall} {x : Place} {n : ℕ} → v.view.by ≡ front → (took : TakesStep v w (λ P C. Sees P C v.view.by v.view x n)) →
    HasOnlyLooked v.core.program v.core.sizes took.grows.between v.view.seen w.view.seen
only_looked {v} {w} by_is took =
    let g = took.grows in
    let h : List Entry = g.between ++ v.view.seen in
    let is : w.view.seen ≡ h = g.is ∙ ap (λ es. map (entry v.view.by) es ++ h) g.kind.none in
    record { is = is; legal = subst (IsLegal v.core.program v.core.sizes) is g.legal; none = subst (λ i. own i g.between ≡ []) by_is g.not_own }

-- A seat when a call begins with it, and when the call gives it back
module _ {woken : ℕ} (id : TableId) (value : Setup) (by : ℕ) (spare : SpareNumbers) (seen : List Entry) (seat : Caller) (core : TheCore)
    (seen_as : record { core = core_of id value; by = by; spare = spare; seen = seen; woken = woken } ≡ seat) (here : seat.core ≡ core) where
  same_unit : unit_at value ≡ unit_in core
  same_unit = of_seat id value by spare seen seat core seen_as here

  same_opening : opening_of value ≡ core.opening
  same_opening = ap (λ (z : Caller). z.core.opening) seen_as ∙ ap (λ (z : TheCore). z.opening) here

  pub seated_in : (role : Role) (n station : ℕ) (over : Bool) (me : Me ℕ View) → IsSeated value.program (sizes_of value) role n station over me →
      IsSeated core.program core.sizes role n station over me
  seated_in role n station over me s = subst (λ (z : Unit_of). IsSeated z.0 z.1 role n station over me) same_unit s

  -- v is the call as it began, w as it ends
  pub given_back : (role : Role) (old : View) (lent : ℕ) (v : TheCall) → v ≡ call_of core old lent → (w : TheCall) → IsSameCall v w
      → (core' : TheCore) (t : Me ℕ View) (lent' : ℕ) → call_of core' t.0 lent' ≡ w → (table : TableId) → IsCall core' role table t → (me : Me ℕ View) → me ≡ t
      → (station : ℕ) (over : Bool) → IsSeated core.program core.sizes role old.by station over t → IsSeated value.program (sizes_of value) role me.0.by station over me ×
      IsNumbered (opening_of value) role me.0
  given_back role old lent v begins w on core' t lent' is table inv me me_is station over s =
      let core_is : core' ≡ core = ap (λ (z : TheCall). z.core) is ∙ (on.core ∙ ap (λ (z : TheCall). z.core) begins) in
      let by_is : t.0.by ≡ old.by = ap (λ (z : TheCall). z.view.by) is ∙ (on.by ∙ ap (λ (z : TheCall). z.view.by) begins) in
      let seated : IsSeated core.program core.sizes role t.0.by station over t = subst (λ n. IsSeated core.program core.sizes role n station over t) (sym by_is) s in
      let numbered : IsNumbered (opening_of value) role t.0 = subst (λ o. IsNumbered o role t.0) (ap (λ (z : TheCore). z.opening) core_is ∙ sym same_opening) inv.numbered in
      subst (λ (z : Me ℕ View). IsSeated value.program (sizes_of value) role z.0.by station over z × IsNumbered (opening_of value) role z.0) (sym me_is)
      (subst (λ (z : Unit_of). IsSeated z.0 z.1 role t.0.by station over t) (sym same_unit) seated, numbered)

  -- a front's seat: nothing is being let, and the next tenant goes where it says
  pub front_back : {old : View} {lent : ℕ} {v w : TheCall} → v ≡ call_of core old lent → IsSameCall v w → {core' : TheCore} {t : Me ℕ View} {lent' : ℕ} {table : TableId} → IsCall core'
      Front table t →
      call_of core' t.0 lent' ≡ w
      → {me : Me ℕ View} → me ≡ t → (station : ℕ) (over : Bool) → station < v.core.sizes.ring → w.view.draft ≡ Nothing → station ≡ let_place w
      → IsSeated value.program (sizes_of value) Front me.0.by station over me × IsNumbered (opening_of value) Front me.0
  front_back {old} {lent} {v} {w} begins on {core'} {t} {lent'} {table} inv is {me} me_is station over inside draft next =
      let core_is : core' ≡ core = ap (λ (z : TheCall). z.core) is ∙ (on.core ∙ ap (λ (z : TheCall). z.core) begins) in
      let by_is : t.0.by ≡ old.by = ap (λ (z : TheCall). z.view.by) is ∙ (on.by ∙ ap (λ (z : TheCall). z.view.by) begins) in
      let here : station ≡ let_place (call_of core' t.0 lent') = subst (λ z. station ≡ let_place z) (sym is) next in
      given_back Front old lent v begins w on core' t lent' is table inv me me_is station over (record {
        role_is = inv.role_is;
        slots = inv.slots;
        legal = subst (λ (k : TheCore). IsLegal k.program k.sizes t.0.seen) core_is inv.legal;
        inside = subst (λ (z : TheCall). station < z.core.sizes.ring) begins inside;
        knows = (sym by_is ∙ inv.numbered.caller, ap (λ (z : TheCall). z.view.draft) is ∙ draft, subst (λ (k : TheCore). station ≡ let_place (call_of k t.0 lent')) core_is here);
      })

  -- the same where its next tenant goes where it went before
  pub front_kept : {old : Me ℕ View} {lent : ℕ} {v w : TheCall} → v ≡ call_of core old.0 lent → IsSameCall v w → {core' : TheCore} {t : Me ℕ View} {lent' : ℕ} {table : TableId} →
      IsCall core' Front table t → call_of core' t.0 lent' ≡ w
      → {me : Me ℕ View} → me ≡ t → (station : ℕ) (over : Bool) → IsSeated value.program (sizes_of value) Front old.0.by station over old → w.view.draft ≡ Nothing → let_place w ≡ let_place v
      → IsSeated value.program (sizes_of value) Front me.0.by station over me × IsNumbered (opening_of value) Front me.0
  front_kept {old} {lent} {v} begins on inv is me_is station over s draft next =
      let was = seated_in Front old.0.by station over old s in
      front_back begins on inv is me_is station over (subst (λ (z : TheCall). station < z.core.sizes.ring) (sym begins) was.inside) draft (was.knows.2 ∙ (sym (ap let_place begins) ∙ sym next))

  -- a back's seat: where the oldest live tenant stands
  pub back_back : {old : View} {lent : ℕ} {v w : TheCall} → v ≡ call_of core old lent → IsSameCall v w → {core' : TheCore} {t : Me ℕ View} {lent' : ℕ} {table : TableId} → IsCall core'
      Back table t →
      call_of core' t.0 lent' ≡ w
      → {me : Me ℕ View} → me ≡ t → (station : ℕ) (over : Bool) → station < core.sizes.ring → IsAtHead core.sizes (unit_of core.program core.sizes t.0.seen) station over
      → IsSeated value.program (sizes_of value) Back me.0.by station over me × IsNumbered (opening_of value) Back me.0
  back_back {old} {lent} {v} {w} begins on {core'} {t} {lent'} {table} inv is {me} me_is station over inside head =
      let core_is : core' ≡ core = ap (λ (z : TheCall). z.core) is ∙ (on.core ∙ ap (λ (z : TheCall). z.core) begins) in
      given_back Back old lent v begins w on core' t lent' is table inv me me_is station over (record {
        role_is = inv.role_is;
        slots = inv.slots;
        legal = subst (λ (k : TheCore). IsLegal k.program k.sizes t.0.seen) core_is inv.legal;
        inside = inside;
        knows = λ _. head;
      })

  -- the seat that has looked at a word
  pub look_back : (role : Role) {old : Me ℕ View} {lent : ℕ} {v w : TheCall} → v ≡ call_of core old.0 lent → {core' : TheCore} {t : Me ℕ View} {lent' : ℕ} {table : TableId} →
      IsCall core' role table t → call_of core' t.0 lent' ≡ w
      → (x : Place) (n : ℕ) → TakesStep v w (λ P C. Sees P C v.view.by v.view x n) → {me : Me ℕ View} → me ≡ t → (station : ℕ) (over : Bool) →
      IsSeated value.program (sizes_of value) role old.0.by station over old
      → IsSeated value.program (sizes_of value) role me.0.by station over me × IsNumbered (opening_of value) role me.0
  look_back role {old} {lent} {v} {w} begins {core'} {t} {lent'} {table} inv is x n took {me} me_is station over s =
      let was = seated_in role old.0.by station over old s in
      given_back role old.0 lent v begins w took.same core' t lent' is table inv me me_is station over
      (seated_on core.program core.sizes role old.0.by station over old t x n was (saw_at core begins is x n took) (inv.slots ∙ sym was.slots))
