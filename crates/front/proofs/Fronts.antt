-- A front between its calls.
use Rattle.std.proofs.Common.{◌≡◌, ◌≢◌, ℕ, zero, suc, ◌<◌, length, ◌∷◌, Bool, true, false, cond, List, [], ◌++◌, Option, Some, None, replicate, refl, sym, ap, ◌∙◌, subst, arith, ◌≤◌, ◌%◌, leb}
use Rattle.std.proofs.Common.{leb-true, ⊎_elim}
use Rattle.std.proofs.lemmas.List.{append-nil}
use Rattle.std.specs.Prelude.{slice_get, slice_index}
use Rattle.instructions.specs.Programs.{Program, text_start}
use Rattle.inorder.specs.declared.history.Entry.{Entry}
use Rattle.inorder.specs.declared.history.Step.{Step}
use Rattle.inorder.specs.declared.history.Step.TheVariants.{Let, On, Renew}
use Rattle.inorder.specs.History.{IsLegal, front, own, unit_of}
use Rattle.inorder.specs.OneHistory.{Adds}
use Rattle.inorder.specs.Legal.{Allowed, applied}
use Rattle.inorder.specs.Unit.{Sizes, UpdateUnit, at, can_be_written, front_half, front_pc, newest_of, next_station, value_of}
use Rattle.inorder.proofs.Letting.{IsBesides}
use Rattle.inorder.proofs.SettledRegisters.{zeros}
use Rattle.inorder.proofs.Sound.{IsSound}
use Rattle.ruu_words.proofs.Stays.{front_stays}
use Rattle.station.specs.Seats.{Caller, IsSameSeat, TheCore}
use Rattle.instructions.specs.declared.op.Half.TheVariants.{Low}
use Rattle.inorder.proofs.Positions.{at_below}
use Rattle.std.specs.List.{AllByRecursion}
use Rattle.front.proofs.Trails.{IsNoted, trail_noted}
use Rattle.front.proofs.Lists.{all_rest}
use Rattle.front.proofs.CreateVector.{newest_among}
use Rattle.front.specs.declared.path.base_state.Base.{Base}
use Rattle.front.proofs.Resting.{nobody_stable, told_stable}
use Rattle.front.specs.Path.{rested_at}
use Rattle.front.specs.declared.path.Path.{Path}
use Rattle.front.specs.Creators.{creator_note, newest_note, position}
use Rattle.front.specs.declared.path.record.Record.{Record}
use Rattle.front.specs.Fronts.{AddsNothing, HasRested, IsFront, IsUnused}
use Rattle.front.specs.Knows.{FrontKnows}
use Rattle.front.specs.CreateTable.{HasTable, table_entry_in, table_entry, maker_of}
use Rattle.front.specs.declared.path.counted.CountedTable.{CountedTable}
use Rattle.front.specs.declared.path.counted.Table.{Table}
use Rattle.front.specs.declared.path.counted.Maker.{Maker}
use Rattle.front.proofs.TableStays.{still_has_table}
use Rattle.front.specs.Trail.{Note, trail}
use Rattle.station.specs.Renewals.{HasNobody}
use Rattle.front.proofs.Splitting.{stays}
use Rattle.front.proofs.Stays.{still_knows}

-- a call that added nothing
pub still_front : (core : TheCore) (P : Program) (v w : Caller) (path : Path) (creators : CountedTable) (rested : Bool) → v.core ≡ core → IsFront P v path creators rested → IsSameSeat v w
    → Adds core.program core.sizes v.by v.seen w.seen [] → IsFront P w path creators rested
still_front core P v w path creators rested e f same adds =
    let Fact : TheCore → Type 0 = λ c. Adds c.program c.sizes front v.seen w.seen [] in
    let mine : Fact core = subst (λ i. Adds core.program core.sizes i v.seen w.seen []) f.by_is adds in
    let here : Fact v.core = subst Fact (sym e) mine in
    let knows : FrontKnows v.core.program v.core.sizes (unit_of v.core.program v.core.sizes w.seen) path.records path.base = still_knows here f.knows in
    let table : HasTable v.core.program (unit_of v.core.program v.core.sizes w.seen) (rested_at path.base) creators.table = still_has_table here f.table in
    record {
      table = subst (λ (z : TheCore). HasTable z.program (unit_of z.program z.sizes w.seen) (rested_at path.base) creators.table) (sym same.core) table;
      rests = λ r.
          let there : HasRested v.core w.seen path = record {
            nobody = stays v.core.program v.core.sizes HasNobody (nobody_stable v.core.program v.core.sizes) v.seen w.seen here (f.rests r).nobody;
            none = (f.rests r).none;
            told = stays v.core.program v.core.sizes (λ U. rested_at path.base ≡ length U.tenants) (told_stable v.core.program v.core.sizes (rested_at path.base)) v.seen w.seen here (f.rests r).told;
          } in
          subst (λ (z : TheCore). HasRested z w.seen path) (sym same.core) there;
      by_is = same.by ∙ f.by_is;
      program = f.program ∙ ap (λ (z : TheCore). z.program) (sym same.core);
      legal = subst (λ (z : TheCore). IsLegal z.program z.sizes w.seen) (sym same.core) here.legal;
      knows = subst (λ (z : TheCore). FrontKnows z.program z.sizes (unit_of z.program z.sizes w.seen) path.records path.base) (sym same.core) knows;
    }

-- after a call that knows
pub front_again : (core : TheCore) (P : Program) (v w : Caller) (path path' : Path) (creators creators' : CountedTable) (rested rested' : Bool) →
    v.core ≡ core → IsFront P v path creators rested → IsSameSeat v w
    → IsLegal core.program core.sizes w.seen → FrontKnows core.program core.sizes (unit_of core.program core.sizes w.seen) path'.records path'.base
    → HasTable core.program (unit_of core.program core.sizes w.seen) (rested_at path'.base) creators'.table → (rested' ≡ true → HasRested core w.seen path') → IsFront P w path' creators' rested'
front_again core P v w path path' creators creators' rested rested' e f same legal knows table rests =
    let both : core ≡ w.core = sym e ∙ sym same.core in
    record {
      table = subst (λ (z : TheCore). HasTable z.program (unit_of z.program z.sizes w.seen) (rested_at path'.base) creators'.table) both table;
      rests = λ r. subst (λ (z : TheCore). HasRested z w.seen path') both (rests r);
      by_is = same.by ∙ f.by_is;
      program = f.program ∙ ap (λ (z : TheCore). z.program) (sym same.core);
      legal = subst (λ (z : TheCore). IsLegal z.program z.sizes w.seen) both legal;
      knows = subst (λ (z : TheCore). FrontKnows z.program z.sizes (unit_of z.program z.sizes w.seen) path'.records path'.base) both knows;
    }

least : (n : ℕ) → 0 ≤ n
least n = omega arith

-- nothing was let
pub nobody : (P : Program) (C : Sizes) (h : List Entry) → IsLegal P C h → own front h ≡ [] → (unit_of P C h).tenants ≡ []
nobody P C h legal none =
    let whole : h ++ [] ≡ h = append-nil h in
    subst (λ z. (unit_of P C z).tenants ≡ []) whole (front_stays P C (λ U. U.tenants ≡ []) keeps h [] (subst (IsLegal P C) (sym whole) legal) none refl)
  where
    keeps : (U : UpdateUnit) (by : ℕ) (s : Step) → IsBesides s → Allowed P C U by s → IsSound P U.tenants → U.tenants ≡ [] → (applied P C U by s).tenants ≡ []
    keeps U by (Let i p f g) b a ok e = absurd b
    keeps U by Renew b a ok e = absurd b
    keeps U by (On p act) b a ok e = let no : None ≡ Some a.tenant = ap (λ z. at z p) (sym e) ∙ a.is in absurd (cc no)

-- the base of a front that has let nothing
pub record IsFirstBase (P : Program) (C : Sizes) (h : List Entry) (b : Base) : Type 0 where
  pub registers : b.registers ≡ replicate 34 0
  pub pc : b.pc ≡ text_start
  pub half : b.half ≡ Low
  pub station : b.station ≡ 0
  pub told : rested_at b ≡ length (unit_of P C h).tenants

pub first_knows : (P : Program) (C : Sizes) (h : List Entry) → IsLegal P C h → own front h ≡ [] → (b : Base) → IsFirstBase P C h b → FrontKnows P C (unit_of P C h) [] b
first_knows P C h legal none b f =
    let empty = nobody P C h legal none in
    record {
      gone = [];
      notes = [];
      path = ap (trail P) empty;
      are = refl;
      room = least C.ring;
      begun = λ e. record {
        pc = ap front_pc empty ∙ sym f.pc;
        half = ap (front_half P) empty ∙ sym f.half;
        station = ap (λ z. next_station C (newest_of (unit_of P C h).fresh z)) empty ∙ (nothing_placed (unit_of P C h).fresh ∙ ap (λ z. z % C.ring) (sym f.station));
      };
      retired = tt;
      again = tt;
      newest = tt;
      past = omega (arith, f.told);
      since = omega (arith, f.told);
      untold = tt;
      wide = ap (λ z. length z) f.registers;
      base_is = λ r h. base r;
    }
  where
    nothing_placed : (n : ℕ) → next_station C (newest_of n []) ≡ 0 % C.ring
    nothing_placed zero = refl
    nothing_placed (suc n) = refl

    base : (r : ℕ) → value_of (unit_of P C h).tenants (position (creator_note [] r)) ≡ Some (slice_index b.registers r)
    base r = go (can_be_written r) ∙ ap Some (sym (zeros 34 r) ∙ ap (λ z. slice_index z r) (sym f.registers))
      where
        go : (b : Bool) → value_of (unit_of P C h).tenants (position (cond b None None)) ≡ Some 0
        go true = refl
        go false = refl

nothing_at : (r n : ℕ) → r < n → slice_get {X = Option Maker} (replicate n None) r ≡ Some None
nothing_at r zero h = absurd (omega (arith, h))
nothing_at zero (suc n) h = refl
nothing_at (suc r) (suc n) h = nothing_at r n (omega arith)

some_there : (xs ys : List Note) (n : Note) → [] ≢ xs ++ n ∷ ys
some_there [] ys n e = cc e
some_there (x ∷ xs) ys n e = cc e

first_table : (P : Program) (C : Sizes) (h : List Entry) → IsLegal P C h → own front h ≡ [] →
    (told : ℕ) (T : Table) → T.entries ≡ replicate 34 None → length T.latest ≡ 32 →
    HasTable P (unit_of P C h) told T
first_table P C h legal none told T entries deep =
    let empty = nobody P C h legal none in
    record {
      wide = ap (λ z. length z) entries;
      deep = deep;
      entries = λ r pos less. ap (λ z. slice_get z r) entries ∙ (nothing_at r 34 less ∙ ap (λ z. Some (table_entry_in told (trail P z) r)) (sym empty));
      latest = λ p t new is last. let no : None ≡ Some t = ap (λ z. at z p) (sym empty) ∙ is in absurd (cc no);
      stale = λ p q t u new lt is is' same s e. let no : None ≡ Some t = ap (λ z. at z p) (sym empty) ∙ is in absurd (cc no);
      replaced = λ xs ys n split. absurd (some_there xs ys n (ap (trail P) (sym empty) ∙ split));
    }

-- all tenants are forgotten
pub forgotten : (P : Program) (U : UpdateUnit) (told : ℕ) (T : Table) → told ≡ length U.tenants → T.entries ≡ replicate 34 None → length T.latest ≡ 32 → HasTable P U told T
forgotten P U told T all entries deep = record {
  wide = ap (λ z. length z) entries;
  deep = deep;
  entries = λ r pos less. ap (λ z. slice_get z r) entries ∙ (nothing_at r 34 less ∙ ap Some (sym (none r (newest_note None (trail P U.tenants) r) refl)));
  latest = λ p t new is last. absurd (let b = at_below U.tenants p t is in omega (arith, b, new, all));
  stale = λ p q t u new lt is is' same s e. absurd (let b = at_below U.tenants p t is in omega (arith, b, new, all));
  replaced = λ xs ys n split new. absurd
      (let i : IsNoted P U.tenants n = (all_rest (IsNoted P U.tenants) xs (n ∷ ys) (subst (AllByRecursion (IsNoted P U.tenants)) split (trail_noted P U.tenants))).0 in
      let b = at_below U.tenants n.at i.tenant i.is in omega (arith, b, new, all));
}
  where
    none : (r : ℕ) (o : Option Note) → newest_note None (trail P U.tenants) r ≡ o → table_entry told o ≡ None
    none r None e = refl
    none r (Some n) e =
        let i : IsNoted P U.tenants n = ⊎_elim (λ (no : None ≡ Some n). absurd (cc no)) (λ q. q) (newest_among (IsNoted P U.tenants) None (trail P U.tenants) r n (trail_noted P U.tenants) e) in
        let b = at_below U.tenants n.at i.tenant i.is in
        go (leb told n.at) refl (omega (arith, b, all))
      where
        go : (b : Bool) → leb told n.at ≡ b → n.at < told → cond b (Some (maker_of n)) None ≡ None
        go false f lt = refl
        go true f lt = absurd (let le = leb-true told n.at f in omega (arith, le, lt))

-- a seat that has let nothing
pub new_front : (core : TheCore) (P : Program) (v : Caller) (path : Path) (creators : CountedTable) →
    IsUnused core v → P ≡ core.program → IsLegal v.core.program v.core.sizes v.seen →
    path.records ≡ [] → IsFirstBase v.core.program v.core.sizes v.seen path.base → creators.table.entries ≡ replicate 34 None →
    length creators.table.latest ≡ 32 → IsFront P v path creators false
new_front core P v path creators u e legal none base entries deep = record {
  table = first_table v.core.program v.core.sizes v.seen legal u.none (rested_at path.base) creators.table entries deep;
  rests = λ r. absurd (cc r);
  by_is = u.by_is;
  program = e ∙ ap (λ (z : TheCore). z.program) (sym u.core_is);
  legal = legal;
  knows = subst (λ (z : List Record). FrontKnows v.core.program v.core.sizes (unit_of v.core.program v.core.sizes v.seen) z path.base) (sym none)
      (first_knows v.core.program v.core.sizes v.seen legal u.none path.base base);
}

pub new_adds : (core : TheCore) (v : Caller) → v.core ≡ core → IsLegal v.core.program v.core.sizes v.seen → AddsNothing core v.seen v.seen
new_adds core v e legal = record {
  begins = record { more = []; is = refl };
  legal = subst (λ (z : TheCore). IsLegal z.program z.sizes v.seen) e legal;
  one_table = refl;
  mine = refl;
}
