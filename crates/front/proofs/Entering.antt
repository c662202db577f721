-- A front that leaves its core, and one that enters another.
use Rattle.std.proofs.Common.{◌≡◌, true, false, ◌%◌, ◌<◌, ℕ, List, [], ◌∷◌, ◌++◌, length, Some, refl, sym, ap, ◌∙◌, subst, inr, arith}
use Rattle.std.specs.List.{AllByRecursion}
use Rattle.std.specs.Prelude.{slice_index}
use Rattle.instructions.specs.Programs.{Program}
use Rattle.inorder.specs.History.{IsLegal, unit_of}
use Rattle.inorder.specs.Unit.{Sizes, UpdateUnit, at, front_half, front_pc, next_station, recent, value_of}
use Rattle.inorder.proofs.Positions.{at_below}
use Rattle.station.specs.Seats.{Caller}
use Rattle.front.specs.declared.path.base_state.Base.{Base}
use Rattle.front.specs.declared.path.counted.CountedTable.{CountedTable}
use Rattle.front.specs.declared.path.counted.Table.{Table}
use Rattle.front.specs.declared.path.Path.{Path}
use Rattle.front.specs.declared.path.record.Record.{Record}
use Rattle.front.specs.CreateTable.{HasTable, table_entry_in}
use Rattle.front.specs.Creators.{creator_note, position}
use Rattle.front.specs.Fronts.{IsFront}
use Rattle.front.specs.Knows.{IsFolded, IsGone, FrontKnows, whats}
use Rattle.front.specs.Path.{rested_at}
use Rattle.front.specs.Stills.{GoesOnForFront, FrontIsStill, next_at}
use Rattle.front.specs.Trail.{Note, trail}
use Rattle.front.proofs.Lists.{all_front, all_map, all_rest}
use Rattle.front.proofs.Resting.{told_stable}
use Rattle.front.proofs.Splitting.{stays}
use Rattle.front.proofs.Stays.{still_knows}
use Rattle.front.proofs.TableStays.{still_has_table}
use Rattle.front.proofs.Trails.{IsNoted, trail_noted}

no_notes : (ns : List Note) → [] ≡ whats ns → ns ≡ []
no_notes [] e = refl
no_notes (n ∷ ns) e = absurd (cc e)

-- the front that has rested
pub still_of : (P : Program) (v : Caller) (path : Path) (creators : CountedTable) → IsFront P v path creators true → FrontIsStill v path.base creators
still_of P v path creators f =
    let r = f.rests refl in
    record {
      legal = f.legal;
      nobody = r.nobody;
      knows = subst (λ z. FrontKnows v.core.program v.core.sizes (unit_of v.core.program v.core.sizes v.seen) z path.base) r.none f.knows;
      table = f.table;
      told = r.told;
    }

pub goes_on_here : (P : Program) (v : Caller) (path : Path) (creators : CountedTable) → IsFront P v path creators true → GoesOnForFront v.core v.seen v
goes_on_here P v path creators f = record {
  by_is = f.by_is;
  program = refl;
  sizes = refl;
  last = v.seen;
  adds = record { begins = record { more = []; is = refl }; legal = f.legal; mine = refl; one_table = refl };
  tenants = refl;
}

-- The same tenants in another unit
module _ (P : Program) (C : Sizes) (U V : UpdateUnit) (same : V.tenants ≡ U.tenants) where
  -- no tenant is kept: the base stands for them
  pub knows_moved : (base new : Base) → FrontKnows P C U [] base → next_station C (recent V) ≡ new.station % C.ring → rested_at new ≡ length V.tenants
      → new.registers ≡ base.registers → new.pc ≡ base.pc → new.half ≡ base.half → FrontKnows P C V [] new
  knows_moved base new k station told registers pc half =
      let none = no_notes k.notes k.are in
      let path : trail P V.tenants ≡ k.gone ++ [] = ap (trail P) same ∙ (k.path ∙ ap (λ z. k.gone ++ z) none) in
      let noted : AllByRecursion (IsNoted P V.tenants) k.gone = all_front (IsNoted P V.tenants) k.gone [] (subst (AllByRecursion (IsNoted P V.tenants)) path (trail_noted P V.tenants)) in
      record {
        gone = k.gone;
        notes = [];
        path = path;
        are = refl;
        room = omega arith;
        begun = λ e. record { pc = ap front_pc same ∙ ((k.begun none).pc ∙ sym pc); half = ap (front_half P) same ∙ ((k.begun none).half ∙ sym half); station = station };
        retired = all_map (IsGone U) (IsGone V) (λ n g. record { tenant = g.tenant; is = ap (λ z. at z n.at) same ∙ g.is; fact = g.fact }) k.gone k.retired;
        again = all_map (IsNoted P V.tenants) (IsFolded V (rested_at new)) (λ n i. inr (subst (λ z. n.at < z) (sym told) (at_below V.tenants n.at i.tenant i.is))) k.gone noted;
        newest = tt;
        past = omega (arith, told);
        since = omega (arith, told);
        untold = tt;
        wide = ap (λ z. length z) registers ∙ k.wide;
        base_is = λ r less. ap (λ z. value_of z (position (creator_note k.gone r))) same ∙ (k.base_is r less ∙ ap (λ z. Some (slice_index z r)) (sym registers));
      }

  pub table_moved : (told new : ℕ) (T : Table) → told ≡ length U.tenants → new ≡ length V.tenants → HasTable P U told T → HasTable P V new T
  table_moved told new T all all' k = record {
    wide = k.wide;
    deep = k.deep;
    entries = λ r pos less. k.entries r pos less ∙ (λ i. Some (table_entry_in (one i) (trail P (sym same i)) r));
    latest = λ p t le is last. absurd (let b = at_below V.tenants p t is in omega (arith, b, le, all'));
    stale = λ p q t u le lt is is' place s e. absurd (let b = at_below V.tenants p t is in omega (arith, b, le, all'));
    replaced = λ xs ys n split le. absurd
        (let i : IsNoted P V.tenants n = (all_rest (IsNoted P V.tenants) xs (n ∷ ys) (subst (AllByRecursion (IsNoted P V.tenants)) split (trail_noted P V.tenants))).0 in
        let b = at_below V.tenants n.at i.tenant i.is in omega (arith, b, le, all'));
  }
    where
      one : told ≡ new
      one = all ∙ (ap (λ z. length z) (sym same) ∙ sym all')

-- The front at the new seat
pub entered : (v w : Caller) (base new : Base) (creators : CountedTable) (path : Path) (P : Program) →
    FrontIsStill v base creators → GoesOnForFront v.core v.seen w → P ≡ w.core.program →
    IsLegal w.core.program w.core.sizes w.seen
    → path.records ≡ [] → path.base ≡ new → next_at w.core w.seen ≡ new.station % w.core.sizes.ring → rested_at new ≡ length (unit_of w.core.program w.core.sizes w.seen).tenants
    → new.registers ≡ base.registers → new.pc ≡ base.pc → new.half ≡ base.half → IsFront P w path creators false
entered v w base new creators path P s g program legal none is station told registers pc half =
    let Pv = v.core.program in
    let Cv = v.core.sizes in
    let U = unit_of Pv Cv g.last in
    let knows = still_knows g.adds s.knows in
    let table = still_has_table g.adds s.table in
    let all = stays Pv Cv (λ z. rested_at base ≡ length z.tenants) (told_stable Pv Cv (rested_at base)) v.seen g.last g.adds s.told in
    let V = unit_of w.core.program w.core.sizes w.seen in
    let station_there : next_station Cv (recent V) ≡ new.station % Cv.ring = subst (λ (z : Sizes). next_station z (recent V) ≡ new.station % z.ring) g.sizes station in
    let known : FrontKnows Pv Cv V [] new = knows_moved Pv Cv U V g.tenants base new knows station_there told registers pc half in
    let moved : HasTable Pv V (rested_at new) creators.table = table_moved Pv Cv U V g.tenants (rested_at base) (rested_at new) creators.table all told table in
    record {
      by_is = g.by_is;
      program = program;
      legal = legal;
      knows = subst (λ (z : List Record × Base). FrontKnows w.core.program w.core.sizes V z.0 z.1) (λ i. (sym none i, sym is i))
          (subst (λ (z : Program × Sizes). FrontKnows z.0 z.1 V [] new) (λ i. (sym g.program i, sym g.sizes i)) known);
      table = subst (λ (z : Base). HasTable w.core.program V (rested_at z) creators.table) (sym is)
          (subst (λ (z : Program). HasTable z V (rested_at new) creators.table) (sym g.program) moved);
      rests = λ r. absurd (cc r);
    }

-- where it left, the base has the next station
pub still_next : (v w : Caller) (base : Base) (creators : CountedTable) → FrontIsStill v base creators →
    GoesOnForFront v.core v.seen w → next_at w.core w.seen ≡ next_at v.core v.seen →
    next_at w.core w.seen ≡ base.station % w.core.sizes.ring
still_next v w base creators s g e = e ∙ ((s.knows.begun (no_notes s.knows.notes s.knows.are)).station ∙ ap (λ (z : Sizes). base.station % z.ring) (sym g.sizes))
