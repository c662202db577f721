-- The steps of the one-thread unit: where each is allowed, and what it does.
use Rattle.std.specs.Prelude.{⊤, ◌≡◌, ◌≢◌, ℕ, ◌^◌, ◌<◌, Bool, true, false, List, length, Option, Some, None, ◌==◌, IfSome, is_none, if◌then◌else◌}
use Rattle.std.specs.List.{AllByRecursion}
use Rattle.instructions.specs.Instruction.{first_of, fixed_next, is_access, kind, second_of}
use Rattle.instructions.specs.Programs.{Program, address, instr_of}
use Rattle.instructions.specs.declared.op.Kind.{Kind}
use Rattle.instructions.specs.declared.op.Kind.TheVariants.{Links, Loads, Stores}
use Rattle.instructions.specs.declared.stop.Outcome.{Outcome}
use Rattle.instructions.specs.declared.stop.Outcome.TheVariants.{Address, Next, Pair, Stop as Stops, Value}
use Rattle.instructions.specs.declared.stop.Stop.{Stop}
use Rattle.inorder.specs.declared.history.Source.{Source}
use Rattle.inorder.specs.declared.history.Supply.{Supply}
use Rattle.inorder.specs.declared.history.Supply.TheVariants.{From, Known}
use Rattle.inorder.specs.Memory.{load_value, raw_at}
use Rattle.inorder.specs.Tenants.{Addr, AtLet, Busy, Done, Fate, IsNotLive, IsThere, Linked, Live, Miss, Open, Operand, Retired, Squashed, Stopped, Tenant, Unlinked, instr, is_live, is_live_access, kind_of, made_at_let, missing, operand, with_operand}
use Rattle.inorder.specs.Unit.{Sizes, UpdateUnit, at, creator, front_half, front_pc, how_many, is_old, next_station, next_tag, recent, value_of, younger}

-- Let

-- A source may come from its creator where that has no value from the start, and where the new
-- tenant and all younger than the creator have other stations than it
pub record MayComeFrom (P : Program) (U : UpdateUnit) (station : ℕ) (c : Option ℕ) : Type 0 where
  pub p : ℕ
  pub tenant : Tenant
  pub creates : c ≡ Some p
  pub is : at U.tenants p ≡ Some tenant
  pub waits : kind_of P tenant ≢ Links
  pub other : tenant.station ≢ station
  pub last : AllByRecursion (λ u. u.station ≢ tenant.station) (younger U.tenants p)
  -- let since the last renewal; the value of an older one is known
  pub new : is_old U p ≡ false

-- A source may be supplied so: known, with its creator's value, or to come from its creator
abbrev pub MaySupply : Program → UpdateUnit → ℕ → Option ℕ → Supply → Type 0
MaySupply P U station c (Known v) = value_of U.tenants c ≡ Some v
MaySupply P U station c From = MayComeFrom P U station c

-- The instruction at `index` may be let: there is room for it, the path goes on with it, and its
-- sources may be supplied so. The predicted next pc is the one there is, where there is only one.
-- Any word where a predictor is asked
pub record MayLet (P : Program) (C : Sizes) (U : UpdateUnit) (index predicted : ℕ)
    (first second : Supply) : Type 0 where
  pub room : how_many is_live U.tenants < C.ring
  pub queue : is_access (kind (instr_of P index).op) ≡ true →
      how_many (is_live_access P) U.tenants < C.queue
  pub is_there : index < length P.code
  pub pc : front_pc U.tenants ≡ address index
  pub small : predicted < 2 ^ 32
  pub predicts :
      IfSome (fixed_next (instr_of P index) (front_half P U.tenants) (front_pc U.tenants))
      (λ x. predicted ≡ x)
  pub first_is : MaySupply P U (next_station C (recent U))
      (creator P U.tenants (first_of (instr_of P index))) first
  pub second_is : MaySupply P U (next_station C (recent U))
      (creator P U.tenants (second_of (instr_of P index))) second

-- The source of a new tenant
abbrev pub let_operand : Option ℕ → Supply → Operand
let_operand c (Known v) = record { creator = c; way = AtLet; value = Some v }
let_operand c From = record { creator = c; way = Unlinked; value = None }

-- The tenant that a let adds
abbrev pub new_tenant : Program → Sizes → UpdateUnit → ℕ → ℕ → Supply → Supply → Tenant
new_tenant P C U index predicted first second =
    record {
      station = next_station C (recent U);
      tag = next_tag C (recent U);
      index = index;
      half = front_half P U.tenants;
      pc = front_pc U.tenants;
      predicted = predicted;
      next = predicted;
      first = let_operand (creator P U.tenants (first_of (instr_of P index))) first;
      second = let_operand (creator P U.tenants (second_of (instr_of P index))) second;
      made = made_at_let (kind (instr_of P index).op) (front_pc U.tenants);
      fate = Open;
      standing = Live;
    }

-- The acts on a tenant t, with the tenants ts before it and ys after it

-- Link

-- Source k comes from its creator, and no link was asked for
pub record MayLink (t : Tenant) (k : Source) : Type 0 where
  pub way : (operand k t).way ≡ Unlinked

-- A link is in time while the creator has made nothing
abbrev pub linked : List Tenant → Tenant → Source → Tenant
linked ts t k =
    with_operand k t
    (record (operand k t) { way = Linked (is_none (value_of ts (operand k t).creator)) })

-- Deliver

-- Source k is linked, has no value yet, and its creator has made one
pub record MayDeliver (ts : List Tenant) (t : Tenant) (k : Source) : Type 0 where
  pub in_time : Bool
  pub way : (operand k t).way ≡ Linked in_time
  pub waits : (operand k t).value ≡ None
  pub value : ℕ
  pub is_made : value_of ts (operand k t).creator ≡ Some value

-- The source has what its creator made
abbrev pub delivered : List Tenant → Tenant → Source → Tenant
delivered ts t k =
    with_operand k t (record (operand k t) { value = value_of ts (operand k t).creator })

-- Claim

-- The tenant is live and open, and each source that it needs is delivered
pub record MayClaim (P : Program) (t : Tenant) : Type 0 where
  pub live : t.standing ≡ Live
  pub fate : t.fate ≡ Open
  pub needs : missing P t ≡ None

-- Finish

-- The tenant is live, and this caller has claimed it
pub record MayFinish (t : Tenant) (by : ℕ) : Type 0 where
  pub live : t.standing ≡ Live
  pub fate : t.fate ≡ Busy by

-- The tenant as its outcome finishes it
abbrev pub finished : Tenant → Outcome → Tenant
finished t (Value v) = record t { fate = Done v; made = Some v }
finished t (Next x) = record t { fate = if x == t.predicted then Done x else Miss x }
finished t (Address a) = record t { fate = Addr a }
finished t (Stops c) = record t { fate = Stopped c }
finished t (Pair low high) = record t { fate = Done low; made = Some low }

-- Load

-- A live store has its address
abbrev pub HasAddress : Program → Tenant → Type 0
HasAddress P t = t.standing ≡ Live → kind_of P t ≡ Stores → (a : ℕ) × (t.fate ≡ Addr a)

-- A live load with its address, where each older live store has one and each byte is there
pub record MayLoad (P : Program) (ts : List Tenant) (t : Tenant) : Type 0 where
  pub live : t.standing ≡ Live
  pub kind : kind_of P t ≡ Loads
  pub a : ℕ
  pub fate : t.fate ≡ Addr a
  pub addresses : AllByRecursion (HasAddress P) ts
  pub bytes : ℕ
  pub read : raw_at P ts (instr P t) a ≡ Some bytes

-- The load is done, with its value
abbrev pub settled : Program → List Tenant → Tenant → Tenant
settled P ts t = record t { fate = Done (load_value P ts t); made = Some (load_value P ts t) }

-- Retire

-- With this fate a tenant can retire: it is done, a store with address and data, or a stop
abbrev pub CanRetire : Kind → Option ℕ → Fate → Type 0
CanRetire k second (Done v) = ⊤
CanRetire k second (Stopped c) = ⊤
CanRetire k second (Addr a) = (k ≡ Stores) × IsThere second
CanRetire k second _ = ⊥

-- The tenant is no stop that has retired
abbrev pub IsNoRetiredStop : Tenant → Type 0
IsNoRetiredStop t = t.standing ≡ Retired → (c : Stop) → t.fate ≢ Stopped c

-- The oldest live tenant, where no stop has retired before it
pub record MayRetire (P : Program) (n : ℕ) (ts : List Tenant) (t : Tenant) : Type 0 where
  pub small : n < 2 ^ 32
  pub live : t.standing ≡ Live
  pub oldest : AllByRecursion IsNotLive ts
  pub no_stop : AllByRecursion IsNoRetiredStop ts
  pub can : CanRetire (kind_of P t) t.second.value t.fate

-- A stop takes any word as what it made
abbrev pub made_at_end : Fate → Option ℕ → ℕ → Option ℕ
made_at_end (Stopped c) made n = Some n
made_at_end _ made n = made

-- The tenant as it has retired; if it is a stop, n is what it made
abbrev pub retired : Tenant → ℕ → Tenant
retired t n = record t { standing = Retired; made = made_at_end t.fate t.made n }

-- Squash

-- The youngest live tenant, where an older one is a live miss
pub record MaySquash (ys : List Tenant) (t : Tenant) (ts : List Tenant) : Type 0 where
  pub live : t.standing ≡ Live
  pub youngest : AllByRecursion IsNotLive ys
  pub p : ℕ
  pub miss : Tenant
  pub x : ℕ
  pub miss_at : at ts p ≡ Some miss
  pub miss_live : miss.standing ≡ Live
  pub miss_fate : miss.fate ≡ Miss x

-- The tenant as it was squashed: it has left, and is off the path
abbrev pub squashed : Tenant → Tenant
squashed t = record t { standing = Squashed }

-- Mend

-- The youngest live tenant, which is a miss
pub record MayMend (ys : List Tenant) (t : Tenant) : Type 0 where
  pub live : t.standing ≡ Live
  pub youngest : AllByRecursion IsNotLive ys
  pub x : ℕ
  pub fate : t.fate ≡ Miss x

-- A miss is done with its next pc, and the path goes on there
abbrev pub mended_as : Tenant → Fate → Tenant
mended_as t (Miss x) = record t { fate = Done x; next = x }
mended_as t _ = t

-- The miss was mended
abbrev pub mended : Tenant → Tenant
mended t = mended_as t t.fate

-- Renew

-- The stations begin again, with first tags, where nobody is live and no stop has retired
pub record MayRenew (U : UpdateUnit) : Type 0 where
  pub none : AllByRecursion IsNotLive U.tenants
  pub goes_on : AllByRecursion IsNoRetiredStop U.tenants
