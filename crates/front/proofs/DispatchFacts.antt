-- What is known of an instruction that is let, and that it may be let.
use Rattle.std.proofs.Common.{◌≡◌, ℕ, ◌+◌, ◌-◌, ◌*◌, ◌/◌, ◌<◌, ◌^◌, List, length, Some, refl, sym, ap, ◌∙◌, subst, arith}
use Rattle.std.specs.Prelude.{IfSome}
use Rattle.instructions.specs.declared.op.Half.{Half}
use Rattle.instructions.specs.Instruction.{first_of, fixed_next, is_access, kind, second_of}
use Rattle.instructions.specs.Programs.{Program, address, instr_at, instr_of}
use Rattle.instructions.specs.declared.instr.Instr.{Instr}
use Rattle.inorder.specs.declared.history.Entry.{Entry}
use Rattle.inorder.specs.History.{IsLegal, unit_of}
use Rattle.inorder.specs.Steps.{MayLet, MaySupply}
use Rattle.inorder.specs.Tenants.{is_live}
use Rattle.inorder.specs.Unit.{Sizes, UpdateUnit, creator, how_many, next_station, recent}
use Rattle.inorder.proofs.OneCaller.Creators.{found_at}
use Rattle.station.specs.declared.answers.Supply.{Supply}
use Rattle.station.specs.declared.answers.Supply.TheVariants.{From as GivenFrom}
use Rattle.station.specs.declared.answers.Tenant.{Tenant as NewTenant}
use Rattle.station.specs.Letting.{MayLetOut, supply_of}
use Rattle.front.specs.declared.path.base_state.Base.{Base}
use Rattle.front.specs.declared.fetch.Fetched.{Fetched}
use Rattle.front.specs.declared.path.record.Record.{Record}
use Rattle.front.specs.Creators.{supply_in}
use Rattle.front.specs.Fetching.{CanBeLet}
use Rattle.front.specs.Knows.{RecordsAreReady}
use Rattle.front.specs.Path.{rested_at}
use Rattle.front.specs.CreateTable.{HasTable, IsSupplied}
use Rattle.front.specs.declared.path.counted.Table.{Table}
use Rattle.front.proofs.Places.{notes_length}
use Rattle.front.proofs.Stations.{live_fewer}
use Rattle.front.proofs.Supplies.{comes_from, may_supply}
use Rattle.front.proofs.Supplied.{supplied_at}

-- The instruction by its address

index_is : (k pc : ℕ) → pc ≡ address k → (pc - 4194304) / 4 ≡ k
index_is k pc e = ap (λ z. (z - 4194304) / 4) e ∙ go k
  where
    go : (k : ℕ) → (4194304 + 4 * k - 4194304) / 4 ≡ k
    go k = omega arith

pub record IsIndex (P : Program) (f : Fetched) (index : ℕ) : Type 0 where
  pub inside : index < length P.code
  pub pc : f.pc ≡ address index
  pub is : instr_of P index ≡ f.instr

pub index_of : (P : Program) (f : Fetched) → instr_at P f.pc ≡ Some f.instr → IsIndex P f ((f.pc - 4194304) / 4)
index_of P f e =
    let a = found_at P f.pc f.instr e in
    subst (IsIndex P f) (sym (index_is a.index f.pc a.pc)) (record { inside = a.inside; pc = a.pc; is = a.is })

-- The instruction f of this index can be let with these sources
pub record DispatchFacts (P : Program) (C : Sizes) (old : List Entry) (records : List Record) (base : Base) (f : Fetched) (predicted index : ℕ) (first second : Supply) : Type 0 where
  pub legal : IsLegal P C old
  pub ready : RecordsAreReady P C (unit_of P C old) records base
  pub next : CanBeLet P C old f
  pub small : predicted < 2 ^ 32
  pub fixed : IfSome (fixed_next f.instr f.half f.pc) (λ x. predicted ≡ x)
  pub its : IsIndex P f index
  pub first_small : first_of f.instr < 34
  pub second_small : second_of f.instr < 34
  pub first_is : first ≡ supply_in records base (first_of f.instr)
  pub second_is : second ≡ supply_in records base (second_of f.instr)

-- The tenant that is let for it
abbrev pub tenant_of : Fetched → (predicted index : ℕ) → Supply → Supply → NewTenant
tenant_of f predicted index first second = record { index = index; half = f.half; predicted = predicted; sources = (first, second) }

-- They are made of the place of the instruction, and of both sources with the create vector that each was found in
pub facts_of : {P : Program} {C : Sizes} {old : List Entry} {records : List Record} {base : Base} {f : Fetched} {predicted place a b : ℕ} {T later : Table} {first second : Supply} →
    IsLegal P C old → RecordsAreReady P C (unit_of P C old) records base → HasTable P (unit_of P C old) (rested_at base) T → CanBeLet P C old f → predicted < 2 ^ 32 →
    IfSome (fixed_next f.instr f.half f.pc) (λ x. predicted ≡ x) → place ≡ f.pc - 4194304 → a ≡ first_of f.instr → a < 34 → IsSupplied T f.station base a first → later ≡ T →
    b ≡ second_of f.instr → b < 34 → IsSupplied later f.station base b second → DispatchFacts P C old records base f predicted (place / 4) first second
facts_of {P} {C} {old} {records} {base} {f} {predicted} {place} {a} {b} {T} {later} {first} {second} legal ready table next small fixed place_is a_is a_small from_a same b_is b_small from_b =
    let first_small : first_of f.instr < 34 = subst (λ z. z < 34) a_is a_small in
    let second_small : second_of f.instr < 34 = subst (λ z. z < 34) b_is b_small in
    record {
      legal = legal;
      ready = ready;
      next = next;
      small = small;
      fixed = fixed;
      its = subst (λ z. IsIndex P f (z / 4)) (sym place_is) (index_of P f next.instr);
      first_small = first_small;
      second_small = second_small;
      first_is = supplied_at P C old legal records base ready T table f.station next.station T refl a (first_of f.instr) a_is first_small first from_a;
      second_is = supplied_at P C old legal records base ready T table f.station next.station later same b (second_of f.instr) b_is second_small second from_b;
    }

module _ {P : Program} {C : Sizes} {old : List Entry} {records : List Record} {base : Base} {f : Fetched} {predicted index : ℕ} {first second : Supply}
    (d : DispatchFacts P C old records base f predicted index first second) where
  abbrev U : UpdateUnit
  U = unit_of P C old

  room : how_many is_live U.tenants < C.ring
  room =
      let few = live_fewer P U d.ready.stands.gone d.ready.stands.notes d.ready.stands.path d.ready.stands.retired in
      omega (arith, few, d.ready.free, notes_length P C U records base _ d.ready.stands)

  -- it may be let
  pub may_let : MayLet P C U index predicted (supply_of first) (supply_of second)
  may_let = record {
    room = room;
    queue = λ a. d.next.queue (ap (λ (i : Instr). is_access (kind i.op)) (sym d.its.is) ∙ a);
    is_there = d.its.inside;
    pc = sym d.next.pc ∙ d.its.pc;
    small = d.small;
    predicts = subst (λ (z : Instr × Half × ℕ). IfSome (fixed_next z.0 z.1 z.2) (λ y. predicted ≡ y)) (λ i. (sym d.its.is i, d.next.half i, d.next.pc i)) d.fixed;
    first_is = subst (λ (i : Instr). MaySupply P U (next_station C (recent U)) (creator P U.tenants (first_of i)) (supply_of first)) (sym d.its.is)
        (subst (λ s. MaySupply P U (next_station C (recent U)) (creator P U.tenants (first_of f.instr)) (supply_of s)) (sym d.first_is)
        (may_supply P C old d.legal records base d.ready (first_of f.instr) d.first_small));
    second_is = subst (λ (i : Instr). MaySupply P U (next_station C (recent U)) (creator P U.tenants (second_of i)) (supply_of second)) (sym d.its.is)
        (subst (λ s. MaySupply P U (next_station C (recent U)) (creator P U.tenants (second_of f.instr)) (supply_of s)) (sym d.second_is)
        (may_supply P C old d.legal records base d.ready (second_of f.instr) d.second_small));
  }

  pub may_let_out : MayLetOut P C U (tenant_of f predicted index first second)
  may_let_out = record { may = may_let; half = d.next.half; tag = d.next.tag }

  pub small_creator : (r : ℕ) → r < 34 → (given : Supply) → given ≡ supply_in records base r → (a g : ℕ) → given ≡ GivenFrom a g → a < C.ring
  small_creator r r_small given e a g is =
      let c = comes_from P C old d.legal records base d.ready r r_small a g (sym e ∙ is) in
      subst (λ z. z < C.ring) c.station c.giver.small
