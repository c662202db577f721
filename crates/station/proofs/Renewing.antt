-- A core that is renewed: who may renew, the seats that meet before, and the first seats of the new core.
use Rattle.std.proofs.Common.{◌≡◌, ℕ, ◌%◌, ◌<◌, false, List, [], ◌∷◌, ◌++◌, length, refl, sym, ap, ◌∙◌, subst, arith, length-append}
use Rattle.std.proofs.Math.Nat.{zero-mod}
use Rattle.atomic_table.specs.Seated.{TableId}
use Rattle.instructions.specs.Programs.{Program}
use Rattle.inorder.specs.declared.history.Entry.{Entry}
use Rattle.inorder.specs.declared.history.Event.TheVariants.{Does}
use Rattle.inorder.specs.declared.history.Step.{Step}
use Rattle.inorder.specs.declared.history.Step.TheVariants.{Let, On, Renew}
use Rattle.inorder.specs.Callers.{GoesOn, is_retired}
use Rattle.inorder.specs.History.{IsLegal, MayAdd, back, front, own, unit_of}
use Rattle.instructions.specs.Histories.{StartsWith}
use Rattle.inorder.specs.OneHistory.{Adds}
use Rattle.inorder.specs.Legal.{Allowed, applied}
use Rattle.inorder.specs.Steps.{IsNoRetiredStop}
use Rattle.inorder.specs.Tenants.{IsNotLive}
use Rattle.inorder.specs.Unit.{Sizes, UpdateUnit, how_many, newest_of, next_station, recent}
use Rattle.instructions.proofs.Histories.{starts_on}
use Rattle.inorder.proofs.Histories.{adds_on, legal_before, no_length, none_to, own-append}
use Rattle.inorder.proofs.Letting.{IsBesides}
use Rattle.inorder.proofs.Moves.{came}
use Rattle.inorder.proofs.Positions.{all_at, all_from}
use Rattle.inorder.proofs.Sound.{IsSound}
use Rattle.ruu_words.specs.Openings.{IsOpening, opening_of, renewed, renewed_of, sizes_of}
use Rattle.ruu_words.specs.Views.{nobody, view}
use Rattle.ruu_words.specs.declared.rule.Setup.{Setup}
use Rattle.ruu_words.specs.declared.rule.View.{View}
use Rattle.ruu_words.proofs.Opening.{goes_on_with}
use Rattle.ruu_words.specs.declared.rule.Draft.TheVariants.{Nothing}
use Rattle.ruu_words.specs.declared.rule.Role.TheVariants.{Back}
use Rattle.ruu_words.proofs.Stays.{front_stays}
use Rattle.station.specs.Making.{AreFirst, IsCore}
use Rattle.station.specs.Renewals.{EmptyCoresMayBeRenewed, HasNobody, HaveMet, HaveSeen, HasLooked, IsRenewed, NoStopStays, NobodyStays, Seats, seats_of}
use Rattle.station.specs.Seats.{Caller, IsAtHead, IsSeated, TheCore, core_of}
use Rattle.station.proofs.SameUnit.{Unit_of, unit_at, unit_in}
use Rattle.station.proofs.Backs.{stop_stays}

-- Others let nobody

nobody_kept : (P : Program) (C : Sizes) (U : UpdateUnit) (by : ℕ) (s : Step) → IsBesides s → Allowed P C U by s → IsSound P U.tenants → HasNobody U → HasNobody (applied P C U by s)
nobody_kept P C U by (Let index predicted first second) b a ok none = absurd b
nobody_kept P C U by Renew b a ok none = none
nobody_kept P C U by (On p act) b a ok none =
    all_from IsNotLive (applied P C U by (On p act)).tenants
    (λ q u is live. let w = came P C U by p act a ok q u is in all_at IsNotLive U.tenants none q w.tenant w.is (w.goes.live live))

-- where the front adds nothing
own_nothing : (by : ℕ) (more old : List Entry) → own by (more ++ old) ≡ own by old → own by more ≡ []
own_nothing by more old e =
    let n = ap (λ l. length l) (sym (own-append by more old) ∙ e) in
    let m = length-append (own by more) (own by old) in
    no_length (own by more) (omega arith)

pub nobody_stays : NobodyStays
nobody_stays P C old new a none =
    let more = a.begins.more in
    let legal : IsLegal P C (more ++ old) = subst (IsLegal P C) a.begins.is a.legal in
    let mine = own_nothing front more old (sym (ap (own front) a.begins.is) ∙ a.mine) in
    subst (λ h. HasNobody (unit_of P C h)) (sym a.begins.is) (front_stays P C HasNobody (nobody_kept P C) more old legal mine none)

pub no_stop_stays : NoStopStays
no_stop_stays P C old new a goes_on = stop_stays P C old new a goes_on

pub may_renew : EmptyCoresMayBeRenewed
may_renew P C of_front of_back new a nobody b goes_on = (
  refl,
  record {
    none = nobody_stays P C of_front new a nobody;
    goes_on = all_from IsNoRetiredStop (unit_of P C new).tenants (no_stop_stays P C of_back new b goes_on);
  },
)

-- Between two histories of one caller, which has added nothing

pub adds_between : (P : Program) (C : Sizes) (by : ℕ) (old mid new : List Entry) → Adds P C by old new [] → StartsWith mid old → StartsWith new mid → Adds P C by old mid []
adds_between P C by old mid new a s t = record {
  begins = s;
  legal = legal_before P C t.more mid (subst (IsLegal P C) t.is a.legal);
  one_table = none_to new mid old t s a.one_table;
  mine =
      let upper = ap (λ l. length l) (ap (own by) t.is ∙ own-append by t.more mid) in
      let all = ap (λ l. length l) a.mine in
      let first = length-append (own by t.more) (own by mid) in
      let lower = ap (λ l. length l) (ap (own by) s.is ∙ own-append by s.more old) in
      let rest = length-append (own by s.more) (own by old) in
      let none : own by s.more ≡ [] = no_length (own by s.more) (omega arith) in
      ap (own by) s.is ∙ (own-append by s.more old ∙ ap (λ z. z ++ own by old) none);
}

-- The first seats of a core

pub none_recent : (U : UpdateUnit) → U.fresh ≡ 0 → recent U ≡ []
none_recent U e = ap (λ n. newest_of n U.tenants) e

pub first_next : (P : Program) (C : Sizes) (h : List Entry) → IsOpening P C h → 0 ≡ next_station C (recent (unit_of P C h))
first_next P C h may = sym (ap (next_station C) (none_recent (unit_of P C h) may.begun) ∙ zero-mod C.ring)

pub first_head : (P : Program) (C : Sizes) (h : List Entry) → IsOpening P C h → IsAtHead C (unit_of P C h) 0 false
first_head P C h may = record {
  head = sym (ap (λ ts. how_many is_retired ts % C.ring) (none_recent (unit_of P C h) may.begun) ∙ zero-mod C.ring);
  ended = all_at IsNoRetiredStop (unit_of P C h).tenants may.may.goes_on;
}

-- the back's view of a new table
pub first_back : (P : Program) (C : Sizes) (h : List Entry) → IsOpening P C h → 0 < C.ring → IsSeated P C Back back 0 false (view Back back nobody h Nothing, [])
first_back P C h may some = record { role_is = refl; slots = refl; legal = may.legal; inside = some; knows = λ _. first_head P C h may }

-- Seats that meet

later_on : (core : TheCore) (u v w : Caller) → HasLooked core u v → HasLooked core v w → HasLooked core u w
later_on core u v w a b = record {
  same = record { core = b.same.core ∙ a.same.core; by = b.same.by ∙ a.same.by };
  spare = b.spare ∙ a.spare;
  woken = b.woken ∙ a.woken;
  adds = adds_on core.program core.sizes u.by u.seen v.seen w.seen [] [] a.adds (subst (λ n. Adds core.program core.sizes n v.seen w.seen []) a.same.by b.adds);
}

-- the back tells the front, the unit tells the front, and the front tells both; those who tell stay as they are
pub have_met : (core : TheCore) (f b u f1 f2 f4 b3 u4 : Caller) → f.by ≡ front → b.by ≡ back → HasLooked core f f1 → StartsWith f1.seen b.seen → HasLooked core f1 f2 → {f3 : Caller} →
    StartsWith f2.seen u.seen
    → HasLooked core b b3 → StartsWith b3.seen f2.seen → HasLooked core u u4 → StartsWith u4.seen f3.seen → f3 ≡ f2 → f4 ≡ f3 → HaveMet core (seats_of f b u) (seats_of f4 b3 u4)
have_met core f b u f1 f2 f4 b3 u4 is_front is_back l1 t1 l2 {f3} t2 l3 t3 l4 t4 e3 e4 =
    let same : f2 ≡ f4 = sym (e4 ∙ e3) in
    subst (λ (z : Caller). HaveMet core (seats_of f b u) (seats_of z b3 u4)) same (record {
      front_by = is_front;
      back_by = is_back;
      front = later_on core f f1 f2 l1 l2;
      back = l3;
      unit = l4;
      of_back = starts_on b.seen f1.seen f2.seen t1 l2.adds.begins;
      of_unit = t2;
      to_back = t3;
      to_unit = subst (λ (z : Caller). StartsWith u4.seen z.seen) e3 t4;
    })

pub have_seen : (core : TheCore) (old new : Seats) → HaveMet core old new → HaveSeen core old new.front.seen
have_seen core old new m =
    let P = core.program in
    let C = core.sizes in
    record {
      of_front = subst (λ n. Adds P C n old.front.seen new.front.seen []) m.front_by m.front.adds;
      of_back = adds_between P C back old.back.seen new.front.seen new.back.seen (subst (λ n. Adds P C n old.back.seen new.back.seen []) m.back_by m.back.adds) m.of_back m.to_back;
      of_unit = adds_between P C old.unit.by old.unit.seen new.front.seen new.unit.seen m.unit.adds m.of_unit m.to_unit;
    }

-- The new core

pub setup_unit : (id : TableId) (key setup : Setup) (core : TheCore) → core ≡ core_of id key → IsCore id.words key setup.program setup.ring setup.queue setup.first_tag → unit_at setup ≡
    unit_in core
setup_unit id key setup core e k =
    let here : unit_at setup ≡ unit_at key = λ i. (sym k.program i, record { ring = sym k.ring_is i; queue = sym k.queue_is i; first_tag = sym k.first_tag_is i }) in
    here ∙ sym (ap unit_in e)

opening_is : (setup : Setup) (v : View) (last : List Entry) → setup.opening.views ≡ v ∷ [] → v.seen ≡ last → opening_of setup ≡ renewed last
opening_is setup v last views seen = ap renewed_of views ∙ ap renewed seen

module _ (core : TheCore) (setup : Setup) (v : View) (last : List Entry) (old : Seats) (same : unit_at setup ≡ unit_in core) (views : setup.opening.views ≡ v ∷ []) (seen : v.seen ≡ last)
    (met : HaveSeen core old last) (nobody_live : HasNobody (unit_of core.program core.sizes old.front.seen)) (goes_on : GoesOn (unit_of core.program core.sizes old.back.seen)) where
  may_now : MayAdd core.program core.sizes last front (Does Renew)
  may_now = may_renew core.program core.sizes old.front.seen old.back.seen last met.of_front nobody_live met.of_back goes_on

  pub opens_renewed : IsOpening setup.program (sizes_of setup) (opening_of setup)
  opens_renewed =
      let here = goes_on_with core.program core.sizes last met.of_front.legal may_now.1 in
      subst (λ (z : Unit_of). IsOpening z.0 z.1 (opening_of setup)) (sym same) (subst (IsOpening core.program core.sizes) (sym (opening_is setup v last views seen)) here)

  pub renewal_is : (id : TableId) (now : TheCore) (new : Seats) → now ≡ core_of id setup → AreFirst now new.front new.back new.unit → IsRenewed core old now new
  renewal_is id now new is first = record {
    last = last;
    met = met;
    may = may_now;
    program = ap (λ (z : TheCore). z.program) is ∙ ap (λ (z : Unit_of). z.0) same;
    sizes = ap (λ (z : TheCore). z.sizes) is ∙ ap (λ (z : Unit_of). z.1) same;
    opening = ap (λ (z : TheCore). z.opening) is ∙ opening_is setup v last views seen;
    first = first;
  }
