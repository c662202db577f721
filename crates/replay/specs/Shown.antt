-- The unit that is shown by a list of tenants, the oldest first.
use Rattle.std.specs.Prelude.{List, [], ◌∷◌, Option, Some, None}
use Rattle.inorder.specs.Memory.{Stored}
use Rattle.replay.specs.declared.tenant.Store.{Store}
use Rattle.inorder.specs.Tenants.{Addr, AtLet, Busy, Done, Fate, Guessed, Linked, Live, Miss, Open, Operand, Retired, Squashed, Standing, Stopped, Tenant, Unlinked, Way}
use Rattle.replay.specs.declared.tenant.Way.{Way as HeldWay}
use Rattle.replay.specs.declared.tenant.Way.TheVariants.{AtLet as HeldAtLet, Unlinked as HeldUnlinked, Linked as HeldLinked}
use Rattle.replay.specs.declared.tenant.Operand.{Operand as HeldOperand}
use Rattle.replay.specs.declared.tenant.Fate.{Fate as HeldFate}
use Rattle.replay.specs.declared.tenant.Fate.TheVariants.{Open as HeldOpen, Busy as HeldBusy, Addr as HeldAddr, Done as HeldDone, Miss as HeldMiss, Stops as HeldStops, Guessed as HeldGuessed}
use Rattle.replay.specs.declared.tenant.Standing.{Standing as HeldStanding}
use Rattle.replay.specs.declared.tenant.Standing.TheVariants.{Live as HeldLive, Retired as HeldRetired, Squashed as HeldSquashed}
use Rattle.replay.specs.declared.tenant.Tenant.{Tenant as Held}

-- How a source gets its value
abbrev pub way_of : HeldWay → Way
way_of HeldAtLet = AtLet
way_of HeldUnlinked = Unlinked
way_of (HeldLinked in_time) = Linked in_time

-- A source
abbrev pub operand_of : HeldOperand → Operand
operand_of o = record { creator = o.creator; way = way_of o.way; value = o.value }

-- How far a tenant has come; one caller claims all
abbrev pub fate_of : HeldFate → Fate
fate_of HeldOpen = Open
fate_of HeldBusy = Busy 0
fate_of (HeldAddr a) = Addr a
fate_of (HeldDone v) = Done v
fate_of (HeldMiss x) = Miss x
fate_of (HeldStops c) = Stopped c
fate_of (HeldGuessed v) = Guessed v

-- Whether it has left
abbrev pub standing_of : HeldStanding → Standing
standing_of HeldLive = Live
standing_of HeldRetired = Retired
standing_of HeldSquashed = Squashed

-- A tenant
abbrev pub tenant_of : Held → Tenant
tenant_of t =
    record {
      station = t.station;
      tag = t.tag;
      index = t.index;
      half = t.half;
      pc = t.pc;
      predicted = t.predicted;
      next = t.next;
      first = operand_of t.first;
      second = operand_of t.second;
      made = t.made;
      fate = fate_of t.fate;
      standing = standing_of t.standing;
    }

-- These tenants, the oldest first, after others that are the youngest first
abbrev pub laid : List Held → List Tenant → List Tenant
laid [] ts = ts
laid (h ∷ hs) ts = laid hs (tenant_of h ∷ ts)

-- The tenants of the unit, the youngest first
abbrev pub shown : List Held → List Tenant
shown hs = laid hs []

-- What a store writes
abbrev pub store_of : Option Store → Option Stored
store_of None = None
store_of (Some s) = Some (record { at = s.at; width = s.width; content = s.content })
