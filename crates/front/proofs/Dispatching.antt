-- After a let: what the front knows, and which questions are to be asked.
use Rattle.std.proofs.Common.{◌≡◌, ℕ, ◌<◌, ◌≤◌, false, List, [], ◌∷◌, ◌++◌, length, Option, refl, sym, ap, ◌∙◌, subst, ⊎_elim, arith}
use Rattle.std.specs.Prelude.{is_none}
use Rattle.instructions.specs.Instruction.{destination, first_of, fixed_next, is_access, is_first_half, kind, second_of}
use Rattle.instructions.specs.Programs.{Program, instr_of}
use Rattle.instructions.specs.declared.instr.Instr.{Instr}
use Rattle.inorder.specs.declared.history.Entry.{Entry}
use Rattle.inorder.specs.declared.history.Source.{Source}
use Rattle.inorder.specs.declared.history.Source.TheVariants.{First, Second}
use Rattle.inorder.specs.declared.history.Step.TheVariants.{Let}
use Rattle.inorder.specs.History.{IsLegal, entry, front, unit_of}
use Rattle.inorder.specs.OneHistory.{Adds}
use Rattle.inorder.specs.Legal.{applied}
use Rattle.inorder.specs.Steps.{let_operand, new_tenant}
use Rattle.inorder.specs.Tenants.{Tenant, Unlinked, operand}
use Rattle.inorder.specs.Unit.{Sizes, UpdateUnit, creator, front_half, front_pc, is_old, next_station, next_tag, recent}
use Rattle.inorder.proofs.Creators.{at_cases}
use Rattle.inorder.proofs.Histories.{unit_sound}
use Rattle.inorder.proofs.Letting.{LetStays}
use Rattle.inorder.proofs.Positions.{at_below, at_more, at_new}
use Rattle.ruu_words.specs.Kinds.{IsNamed}
use Rattle.ruu_words.proofs.Drafting.{still_let}
use Rattle.ruu_words.proofs.StationWords.{one_tag}
use Rattle.station.specs.declared.answers.Supply.{Supply}
use Rattle.station.specs.declared.answers.Supply.TheVariants.{From as GivenFrom, Known as GivenKnown}
use Rattle.station.specs.declared.answers.Tenant.{Tenant as NewTenant}
use Rattle.station.specs.Letting.{let_of, supply_of}
use Rattle.front.specs.declared.path.base_state.Base.{Base}
use Rattle.front.specs.declared.fetch.Fetched.{Fetched}
use Rattle.front.specs.declared.path.record.Record.{Record}
use Rattle.front.specs.Creators.{supply_in}
use Rattle.front.specs.Knows.{FrontKnows, RecordsAreReady}
use Rattle.front.specs.Path.{record_for, rested_at}
use Rattle.front.specs.Trail.{is_link, record_of}
use Rattle.front.proofs.LetKnown.{let_known}
use Rattle.front.proofs.Named.{stands_right}
use Rattle.front.proofs.TableLet.{table_let}
use Rattle.front.proofs.TableStays.{table_stable, still_has_table}
use Rattle.front.specs.CreateTable.{HasTable, IsEntered}
use Rattle.front.specs.declared.path.counted.Table.{Table}
use Rattle.front.proofs.Pending.{IsPending, pending_stable}
use Rattle.front.proofs.Places.{kept_new}
use Rattle.front.proofs.Splitting.{event_legal, no_event, stays, stays_behind}
use Rattle.station.proofs.Splitting.{LastEvent, last_event}
use Rattle.front.proofs.Stays.{knows_stable, ready_stable}
use Rattle.front.proofs.Supplies.{comes_from}
use Rattle.inorder.proofs.Recent.{new_there, old_more}
use Rattle.inorder.specs.declared.history.Step.{Step}
use Rattle.front.proofs.DispatchFacts.{DispatchFacts, may_let, tenant_of}

module _ {P : Program} {C : Sizes} {old : List Entry} {records : List Record} {base : Base} {f : Fetched} {predicted index : ℕ} {first second : Supply}
    (d : DispatchFacts P C old records base f predicted index first second)
    (new : List Entry) (adds : Adds P C front old new (let_of (tenant_of f predicted index first second) ∷ [])) (tag : ℕ) (tag_is : tag ≡ next_tag C (recent (unit_of P C old))) where
  abbrev U : UpdateUnit
  U = unit_of P C old

  abbrev tenant : NewTenant
  tenant = tenant_of f predicted index first second

  pub l : LastEvent P C front old new (let_of tenant) []
  l = last_event P C front old new (let_of tenant) [] adds

  abbrev pub point : List Entry
  point = l.point

  abbrev M : UpdateUnit
  M = unit_of P C point

  pub legal_let : IsLegal P C (entry front (let_of tenant) ∷ point)
  legal_let = event_legal P C old new (let_of tenant) [] l

  ready : RecordsAreReady P C M records base
  ready = stays P C (λ V. RecordsAreReady P C V records base) (ready_stable P C records base) old point l.before d.ready

  same : LetStays P C U M index predicted (supply_of first) (supply_of second)
  same =
      let b = l.before.begins in
      subst (λ z. LetStays P C U (unit_of P C z) index predicted (supply_of first) (supply_of second)) (sym b.is)
      (still_let P C index predicted (supply_of first) (supply_of second) b.more old (subst (IsLegal P C) b.is l.before.legal) (no_event P C front old point l.before) (may_let d))

  pub place : f.station ≡ next_station C (recent M)
  place = d.next.station ∙ sym (ap (λ (t : Tenant). t.station) same.new)

  pub tag_there : tag ≡ next_tag C (recent M)
  tag_there = tag_is ∙ sym same.tag

  pub pc_there : f.pc ≡ front_pc M.tenants
  pc_there = d.next.pc ∙ sym (ap (λ (t : Tenant). t.pc) same.new)

  pub half_there : f.half ≡ front_half P M.tenants
  half_there = d.next.half ∙ sym (ap (λ (t : Tenant). t.half) same.new)

  abbrev let_step : Step
  let_step = Let index predicted (supply_of first) (supply_of second)

  abbrev new_one : Tenant
  new_one = new_tenant P C M index predicted (supply_of first) (supply_of second)

  pub kept_of : record_of P new_one ≡ record_for f tag predicted
  kept_of = λ i. record {
    station = sym place i;
    tag = sym tag_there i;
    pc = sym pc_there i;
    next = predicted;
    destination = destination (d.its.is i) (sym half_there i);
    links = is_link (kind (d.its.is i).op);
    first = is_first_half (d.its.is i).op (sym half_there i);
    access = is_access (kind (d.its.is i).op);
    guessed = is_none (fixed_next (d.its.is i) (sym half_there i) (sym pc_there i));
  }

  pub knows_behind : FrontKnows P C (unit_of P C new) (records ++ record_for f tag predicted ∷ []) base
  knows_behind =
      let there = let_known P C M front index predicted (supply_of first) (supply_of second) legal_let.1.1 (unit_sound P C point legal_let.0) (stands_right P C point legal_let.0) records base ready
      in
      stays_behind P C (λ V. FrontKnows P C V (records ++ record_for f tag predicted ∷ []) base) (knows_stable P C (records ++ record_for f tag predicted ∷ []) base) old new (let_of tenant) [] l
      (subst (λ z. FrontKnows P C (applied P C M front let_step) (records ++ z ∷ []) base) kept_of there)

  -- after the first ones all are recent
  new_behind : (p : ℕ) → rested_at base ≤ p → is_old (applied P C M front let_step) p ≡ false
  new_behind p le = old_more M new_one p ∙ kept_new P C M records base _ ready.stands p le

  -- the table
  module _ (T T' : Table) (table : HasTable P U (rested_at base) T) (inside : f.station < 32) (entered : IsEntered T T' (record_for f tag predicted)) where
    pub table_behind : HasTable P (unit_of P C new) (rested_at base) T'
    table_behind =
        let there : HasTable P M (rested_at base) T = still_has_table l.before table in
        let after = table_let P C M front index predicted (supply_of first) (supply_of second) (rested_at base) T T' there ready.stands.past (subst (λ z. z < 32) place inside)
        (λ p q t u a b is is'. one_tag P C (entry front (let_of tenant) ∷ point) legal_let p q t u is is' (new_behind p a) (new_behind q b)) (subst (IsEntered T T') (sym kept_of) entered)
        in
        stays_behind P C (λ V. HasTable P V (rested_at base) T') (table_stable P C (rested_at base) T') old new (let_of tenant) [] l after

  -- its place in the unit
  pub named_new : IsNamed (applied P C M front let_step) (length M.tenants) f.station tag
  named_new = record { tenant = new_one; is = at_new new_one M.tenants; new = new_there M new_one; station_is = sym place; tag_is = sym tag_there; fact = tt }

  unlinked : (c : Option ℕ) (s : Supply) (a g : ℕ) → s ≡ GivenFrom a g → (let_operand c (supply_of s)).way ≡ Unlinked
  unlinked c s a g e = ap (λ z. (let_operand c (supply_of z)).way) e

  its_creator : (c : Option ℕ) (s : Supply) → (let_operand c (supply_of s)).creator ≡ c
  its_creator c (GivenKnown v) = refl
  its_creator c (GivenFrom a g) = refl

  -- a source that comes from its creator
  pub record Pends (side : Source) (a g : ℕ) : Type 0 where
    pub q : ℕ
    pub pending : IsPending side (length M.tenants) q f.station tag a g (unit_of P C new)

  pends : (s : Source) (r : ℕ) (r_small : r < 34) (given : Supply) → given ≡ supply_in records base r →
      (operand s new_one).creator ≡ creator P M.tenants r →
      ((a g : ℕ) → given ≡ GivenFrom a g → (operand s new_one).way ≡ Unlinked) → (a g : ℕ) →
      given ≡ GivenFrom a g → Pends s a g
  pends s r r_small given given_is c way a g e =
      let from = comes_from P C point legal_let.0 records base ready r r_small a g (sym given_is ∙ e) in
      let V = applied P C M front let_step in
      let t = from.giver.noted.tenant in
      let at_place : t.station ≡ a = ap (λ (z : Record). z.station) from.giver.noted.what ∙ from.station in
      let pending : IsPending s (length M.tenants) from.n.at f.station tag a g V = record {
        asks = record {
          tenant = new_one;
          is = at_new new_one M.tenants;
          new = new_there M new_one;
          station_is = sym place;
          tag_is = sym tag_there;
          fact = record { can = record { way = way a g e; creator = c ∙ from.creates }; path = refl };
        };
        last = λ q u lt is. let b = at_below V.tenants q u is in absurd (omega (arith, b, lt));
        creator = record {
          tenant = t;
          is = at_more new_one M.tenants from.n.at t from.giver.noted.is;
          new = new_behind from.n.at from.giver.untold;
          station_is = at_place;
          tag_is = ap (λ (z : Record). z.tag) from.giver.noted.what ∙ from.tag;
          fact = tt;
        };
        creator_last = λ q u lt is same_station. ⊎_elim
            (λ there. from.giver.newest q u lt there (same_station ∙ sym from.station))
            (λ (z : (q ≡ length M.tenants) × (new_one ≡ u)). from.giver.other (from.station ∙ (sym same_station ∙ ap (λ (y : Tenant). y.station) (sym z.1))))
            (at_cases new_one M.tenants q u is);
      } in
      record {
        q = from.n.at;
        pending = stays_behind P C (IsPending s (length M.tenants) from.n.at f.station tag a g) (pending_stable P C (length M.tenants) from.n.at f.station tag a g s) old new
            (let_of tenant) [] l pending;
      }

  pub first_pends : (a g : ℕ) → first ≡ GivenFrom a g → Pends First a g
  first_pends a g e = pends First (first_of f.instr) d.first_small first d.first_is (its_creator (creator P M.tenants (first_of (instr_of P index))) first ∙
      ap (λ (i : Instr). creator P M.tenants (first_of i)) d.its.is) (λ a g e. unlinked (creator P M.tenants (first_of (instr_of P index))) first a g e) a g e

  pub second_pends : (a g : ℕ) → second ≡ GivenFrom a g → Pends Second a g
  second_pends a g e = pends Second (second_of f.instr) d.second_small second d.second_is (its_creator (creator P M.tenants (second_of (instr_of P index))) second ∙
      ap (λ (i : Instr). creator P M.tenants (second_of i)) d.its.is) (λ a g e. unlinked (creator P M.tenants (second_of (instr_of P index))) second a g e) a g e
