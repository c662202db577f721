-- Where the path goes on, as the front sees it.
use Rattle.std.specs.Prelude.{◌≡◌, ◌≢◌, ℕ, suc, ◌%◌, List, [], ◌∷◌, Option, Some}
use Rattle.instructions.specs.Instruction.{destination, is_first_half}
use Rattle.instructions.specs.Programs.{Program, instr_of}
use Rattle.inorder.specs.declared.history.Entry.{Entry}
use Rattle.inorder.specs.History.{front, unit_of}
use Rattle.inorder.specs.OneHistory.{Adds}
use Rattle.inorder.specs.Tenants.{on_path}
use Rattle.inorder.specs.Unit.{Sizes, UpdateUnit, creator, front_half, front_pc, half_after, how_many, next_station, next_tag, recent, value_of}
use Rattle.station.specs.declared.answers.Tenant.{Tenant as NewTenant}
use Rattle.station.specs.Letting.{MayLetOut, let_of}
use Rattle.station.specs.Renewals.{IsRenewed, Seats}
use Rattle.station.specs.Seats.{TheCore, unit_seen}

-- The path goes on at the same place, each register has the same creator, and what was made stays
pub record IsSamePath (P : Program) (C : Sizes) (U V : UpdateUnit) : Type 0 where
  pub pc : front_pc V.tenants ≡ front_pc U.tenants
  pub half : front_half P V.tenants ≡ front_half P U.tenants
  pub places : how_many on_path (recent V) ≡ how_many on_path (recent U)
  pub station : next_station C (recent V) ≡ next_station C (recent U)
  pub tag : next_tag C (recent V) ≡ next_tag C (recent U)
  pub creators : (r : ℕ) → creator P V.tenants r ≡ creator P U.tenants r
  pub values : (c : Option ℕ) (v : ℕ) → value_of U.tenants c ≡ Some v → value_of V.tenants c ≡ Some v

-- The path stays the same as long as the front adds nothing
abbrev pub PathsStay : Type 0
PathsStay =
    (P : Program) (C : Sizes) (old new : List Entry) → Adds P C front old new [] →
    IsSamePath P C (unit_of P C old) (unit_of P C new)

-- After a let the path goes on at its predicted next pc, at the next station, as the half after it
pub record IsLed (P : Program) (C : Sizes) (U : UpdateUnit) (t : NewTenant) (V : UpdateUnit) : Type 0 where
  pub pc : front_pc V.tenants ≡ t.predicted
  pub half : front_half P V.tenants ≡ half_after (is_first_half (instr_of P t.index).op t.half)
  pub station : next_station C (recent V) ≡ suc (how_many on_path (recent U)) % C.ring
  pub creators : (r : ℕ) → destination (instr_of P t.index) t.half ≢ r →
      creator P V.tenants r ≡ creator P U.tenants r

-- Each let of the front leads on
abbrev pub LetsLead : Type 0
LetsLead =
    (P : Program) (C : Sizes) (old new : List Entry) (t : NewTenant) →
    MayLetOut P C (unit_of P C old) t → Adds P C front old new (let_of t ∷ []) →
    IsLed P C (unit_of P C old) t (unit_of P C new)

-- After a renewal the path goes on where it was left, at station 0 with the first tag; each register
-- has the same creator, and what was made stays
pub record IsTakenOver (core now : TheCore) (U V : UpdateUnit) : Type 0 where
  pub pc : front_pc V.tenants ≡ front_pc U.tenants
  pub half : front_half now.program V.tenants ≡ front_half core.program U.tenants
  pub station : next_station now.sizes (recent V) ≡ 0
  pub tag : next_tag now.sizes (recent V) ≡ now.sizes.first_tag
  pub creators : (r : ℕ) → creator now.program V.tenants r ≡ creator core.program U.tenants r
  pub values : (c : Option ℕ) (v : ℕ) → value_of U.tenants c ≡ Some v → value_of V.tenants c ≡ Some v

-- Each renewal takes the path over, as the front had seen it
abbrev pub RenewalsGoOn : Type 0
RenewalsGoOn =
    (core now : TheCore) (old new : Seats) → IsRenewed core old now new →
    IsTakenOver core now (unit_seen core old.front) (unit_seen now new.front)
