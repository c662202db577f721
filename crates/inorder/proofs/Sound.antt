-- What holds of each tenant of a reached unit, and what follows of one whose older tenants have all left.
use Rattle.std.proofs.Common.{◌≡◌, ◌≢◌, ℕ, ◌<◌, true, List, [], ◌∷◌, length, Option, Some, None}
use Rattle.std.specs.List.{AllByRecursion}
use Rattle.instructions.specs.Instruction.{first_of, pc_plus_4, second_of}
use Rattle.instructions.specs.Operations.{loaded}
use Rattle.instructions.specs.Programs.{Program, address}
use Rattle.instructions.specs.declared.instr.Instr.{Instr}
use Rattle.instructions.specs.declared.op.Kind.{Kind}
use Rattle.instructions.specs.declared.op.Kind.TheVariants.{Computes, Jumps, Links, Loads, Stores}
use Rattle.instructions.specs.declared.stop.Outcome.{Outcome}
use Rattle.instructions.specs.declared.stop.Outcome.TheVariants.{Address, Next, Stop as Stops, Value}
use Rattle.inorder.specs.Memory.{raw_at, sure_raw_at}
use Rattle.inorder.specs.Steps.{CanRetire, HasAddress}
use Rattle.inorder.specs.Tenants.{Addr, Busy, Done, Fate, Guessed, IsThere, Live, Miss, Open, Operand, Retired, Squashed, Standing, Stopped, Tenant, behind, computed, instr, kind_of, made_at_let, on_path}
use Rattle.inorder.specs.Unit.{creator, front_half, front_pc, value_of}

-- a delivered value is what the creator has made
abbrev pub ValueIs : List Tenant → Operand → Type 0
ValueIs ts s = (v : ℕ) → s.value ≡ Some v → value_of ts s.creator ≡ Some v

-- a store needs its base alone
abbrev pub Needs : Kind → Option ℕ → Option ℕ → Type 0
Needs Stores first second = IsThere first
Needs _ first second = IsThere first × IsThere second

-- What follows speaks of the fields of a tenant, and not of the tenant, so that it computes to the same where other fields change.

-- what is made and where it goes on, by the kind of a tenant that is done with v
abbrev pub DoneBy : Outcome → ℕ → ℕ → Option ℕ → ℕ → Kind → Type 0
DoneBy o pc next made v Computes = (o ≡ Value v) × (made ≡ Some v)
DoneBy o pc next made v Jumps = (o ≡ Next v) × (next ≡ v)
DoneBy o pc next made v Links = (o ≡ Next v) × (next ≡ v) × (made ≡ Some (pc_plus_4 pc))
DoneBy o pc next made v Loads = ((a : ℕ) × (o ≡ Address a)) × (made ≡ Some v)
DoneBy o pc next made v Stores = ⊥

abbrev pub DoneIs : Program → Tenant → ℕ → Kind → Type 0
DoneIs P t v k = DoneBy (computed P t) t.pc t.next t.made v k

abbrev pub FateBy : Kind → Outcome → ℕ → ℕ → ℕ → Option ℕ → Option ℕ → Option ℕ → Standing → Fate → Type 0
FateBy k o pc predicted next made a b st Open = (made ≡ made_at_let k pc) × (next ≡ predicted)
FateBy k o pc predicted next made a b st (Busy by) =
    (made ≡ made_at_let k pc) × (next ≡ predicted) × Needs k a b
FateBy k o pc predicted next made a b st (Addr q) = (made ≡ None) × (o ≡ Address q) × Needs k a b
FateBy k o pc predicted next made a b st (Done v) = DoneBy o pc next made v k × Needs k a b
FateBy k o pc predicted next made a b st (Miss x) = (made ≡ made_at_let k pc) × (o ≡ Next x) × Needs k a b
FateBy k o pc predicted next made a b st (Guessed v) =
    (k ≡ Loads) × (made ≡ Some v)
FateBy k o pc predicted next made a b st (Stopped c) =
    (st ≢ Retired → made ≡ None) × (o ≡ Stops c) × Needs k a b

abbrev pub FateIs : Program → Tenant → Fate → Type 0
FateIs P t f =
    FateBy (kind_of P t) (computed P t) t.pc t.predicted t.next t.made t.first.value t.second.value t.standing f

-- only a jump goes on elsewhere than after itself
abbrev pub GoesOn : Kind → ℕ → ℕ → Type 0
GoesOn Jumps after next = Unit {0}
GoesOn Links after next = Unit {0}
GoesOn _ after next = next ≡ after

-- what holds of each tenant, on the path or not
pub record IsOwn (P : Program) (ts : List Tenant) (t : Tenant) : Type 0 where
  pub first : ValueIs ts t.first
  pub second : ValueIs ts t.second
  pub place : t.pc ≡ address t.index
  pub inside : t.index < length P.code
  pub goes_on : GoesOn (kind_of P t) (behind P t) t.next
  pub fate : FateIs P t t.fate

-- a load reads what the older stores of the path leave, each with its address
pub record HasRead (P : Program) (ts : List Tenant) (i : Instr) (o : Outcome) (v : ℕ) : Type 0 where
  pub a : ℕ
  pub n : ℕ
  pub computes : o ≡ Address a
  pub raw : raw_at P ts i a ≡ Some n
  pub value : v ≡ loaded i.op n
  pub addresses : AllByRecursion (HasAddress P) ts

-- a load has read what the older stores of the path leave, and none of them can still change it
pub record HasSureRead (P : Program) (ts : List Tenant) (i : Instr) (o : Outcome) (v : ℕ) : Type 0 where
  pub a : ℕ
  pub n : ℕ
  pub computes : o ≡ Address a
  pub sure : sure_raw_at P ts i a ≡ Some n
  pub value : v ≡ loaded i.op n

abbrev pub LoadIs : Program → List Tenant → Instr → Outcome → Kind → Fate → Type 0
LoadIs P ts i o Loads (Done v) = HasSureRead P ts i o v
LoadIs P ts i o _ _ = Unit {0}

-- it is squashed, or retired and no stop
abbrev pub SettledBy : Standing → Fate → Type 0
SettledBy Live f = ⊥
SettledBy Squashed f = Unit {0}
SettledBy Retired (Stopped c) = ⊥
SettledBy Retired _ = Unit {0}

abbrev pub IsSettled : Tenant → Type 0
IsSettled t = SettledBy t.standing t.fate

-- what holds of a tenant of the path
pub record IsInPlace (P : Program) (ts : List Tenant) (t : Tenant) : Type 0 where
  pub first : t.first.creator ≡ creator P ts (first_of (instr P t))
  pub second : t.second.creator ≡ creator P ts (second_of (instr P t))
  pub pc : t.pc ≡ front_pc ts
  pub half : t.half ≡ front_half P ts
  pub load : LoadIs P ts (instr P t) (computed P t) (kind_of P t) t.fate
  pub settled : t.standing ≡ Retired → AllByRecursion IsSettled ts
  pub can : t.standing ≡ Retired → CanRetire (kind_of P t) t.second.value t.fate

pub record IsSoundAt (P : Program) (ts : List Tenant) (t : Tenant) : Type 0 where
  pub own : IsOwn P ts t
  pub placed : on_path t ≡ true → IsInPlace P ts t

abbrev pub IsSound : Program → List Tenant → Type 0
IsSound P [] = Unit {0}
IsSound P (t ∷ ts) = IsSoundAt P ts t × IsSound P ts

-- A tenant with another fate and standing, and with what it made

pub own_with : (P : Program) (ts : List Tenant) (t : Tenant) (f : Fate) (made : Option ℕ) (st : Standing) →
    IsOwn P ts t →
    FateBy (kind_of P t) (computed P t) t.pc t.predicted t.next made t.first.value t.second.value st f →
    IsOwn P ts (record t { fate = f; made = made; standing = st })
own_with P ts t f made st own fate = record {
  first = own.first;
  second = own.second;
  place = own.place;
  inside = own.inside;
  goes_on = own.goes_on;
  fate = fate;
}

pub placed_with : (P : Program) (ts : List Tenant) (t : Tenant) (f : Fate) (made : Option ℕ) (st : Standing) →
    IsInPlace P ts t → LoadIs P ts (instr P t) (computed P t) (kind_of P t) f →
    (st ≡ Retired → AllByRecursion IsSettled ts) → (st ≡ Retired → CanRetire (kind_of P t) t.second.value f) →
    IsInPlace P ts (record t { fate = f; made = made; standing = st })
placed_with P ts t f made st placed load settled can = record {
  first = placed.first;
  second = placed.second;
  pc = placed.pc;
  half = placed.half;
  load = load;
  settled = settled;
  can = can;
}
