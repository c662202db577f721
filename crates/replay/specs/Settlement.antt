-- What the oldest tenants of a unit have left, once none of them is in flight.
use Rattle.std.specs.Prelude.{◌≡◌, ℕ, ◌+◌, ◌<◌, ◌≤◌, Bool, ◌&&◌, not, List, Option, Some, None, length, slice_get, slice_index, slice_index_or, slice_set, suc, take, ◌==◌}
use Rattle.instructions.specs.Programs.{Program}
use Rattle.instructions.specs.declared.stop.Stop.{Stop}
use Rattle.inorder.specs.Committed.{with_stored}
use Rattle.inorder.specs.Memory.{Stored, byte_at, stored}
use Rattle.instructions.specs.declared.op.Half.{Half}
use Rattle.instructions.specs.declared.op.Half.TheVariants.{High, Low}
use Rattle.inorder.specs.declared.history.Source.{Source}
use Rattle.inorder.specs.Tenants.{Tenant, is_first, on_path}
use Rattle.inorder.specs.Unit.{how_many, last_writer, value_of}
use Rattle.replay.specs.declared.front.Front.{Front}
use Rattle.replay.specs.declared.settled.Settled.{Settled}
use Rattle.replay.specs.declared.tenant.Store.{Store}
use Rattle.replay.specs.declared.tenant.Tenant.{Tenant as Held}
use Rattle.replay.specs.Dropping.{TurnsTo}
use Rattle.replay.specs.Fronts.{front_of}
use Rattle.replay.specs.Reasons.{IsHeldLive, IsHeldStop, held}
use Rattle.replay.specs.Shown.{shown, store_of, tenant_of}

-- A store without its data
abbrev pub LacksData : Option Stored → Type 0
LacksData None = ⊥
LacksData (Some s) = s.content ≡ None

-- One that is there is a store with its address and without its data
abbrev pub IsHeldDataless : Program → Option Held → Type 0
IsHeldDataless P None = ⊥
IsHeldDataless P (Some h) = LacksData (stored P (tenant_of h))

-- An instruction of the path ends with this tenant: no second half comes after it
abbrev pub ends : Program → Tenant → Bool
ends P t = on_path t && not (is_first P t)

-- How many instructions end, by the half that comes next
abbrev pub ends_by : Half → ℕ
ends_by Low = 1
ends_by High = 0

-- None of the first tenants is in flight, is a stop that has retired, or lacks the data of its store;
-- and this is what they have left
pub record IsSettled (P : Program) (hs : List Held) (s : Settled) : Type 0 where
  pub within : s.upto ≤ length hs
  pub left : (q : ℕ) → q < s.upto → ¬ IsHeldLive (held hs q)
  pub goes_on : (q : ℕ) (c : Stop) → q < s.upto → ¬ IsHeldStop (held hs q) c
  pub whole : (q : ℕ) → q < s.upto → ¬ IsHeldDataless P (held hs q)
  pub path : s.path ≡ how_many on_path (shown (take s.upto hs))
  pub front : s.front ≡ front_of P (shown (take s.upto hs))
  pub writers : (r : ℕ) → r < 34 →
      slice_index_or s.writers r None ≡ last_writer P (shown (take s.upto hs)) r
  pub registers : (r : ℕ) → 0 < r → r < 34 →
      value_of (shown (take s.upto hs)) (last_writer P (shown (take s.upto hs)) r) ≡ Some (slice_index s.registers r)
  pub count : s.count ≡ how_many (ends P) (shown (take s.upto hs))
  pub bytes : (x : ℕ) → byte_at P (shown (take s.upto hs)) x ≡ Some (slice_index s.memory.items x)

-- One tenant more, which has retired
pub record Advances (old : Settled) (at : Front) (register value : ℕ) (stores : Option Store)
    (new : Settled) : Type 0 where
  pub upto : new.upto ≡ suc old.upto
  pub path : new.path ≡ suc old.path
  pub front : new.front ≡ at
  pub writers : new.writers ≡ slice_set old.writers register (Some old.upto)
  pub registers : new.registers ≡ slice_set old.registers register value
  pub count : new.count ≡ old.count + ends_by at.half
  pub memory : new.memory.items ≡ with_stored (store_of stores) old.memory.items

-- Tenants that leave the same behind once they have left
pub record IsAlike (P : Program) (t u : Tenant) : Type 0 where
  pub index : t.index ≡ u.index
  pub half : t.half ≡ u.half
  pub next : t.next ≡ u.next
  pub made : t.made ≡ u.made
  pub fate : t.fate ≡ u.fate
  pub standing : t.standing ≡ u.standing
  pub stored : stored P t ≡ stored P u

-- A tenant that is not dropped may be replaced by another one of its station, of which no source comes from elsewhere;
-- it leaves the same, if that has left
pub record MayReplace (P : Program) (hs : List Held) (from upto who : ℕ) (h : Held) : Type 0 where
  pub there : who < length hs
  pub kept : from ≤ who
  pub turns : (t : Held) (k : Source) → slice_get hs who ≡ Some t → TurnsTo hs who t h k
  pub station : (t : Held) → slice_get hs who ≡ Some t → h.station ≡ t.station
  pub alike : (t : Held) → slice_get hs who ≡ Some t → who < upto →
      IsAlike P (tenant_of t) (tenant_of h)

-- How many tenants each station has had
abbrev pub AreUses : List Held → List ℕ → Type 0
AreUses hs uses =
    (s : ℕ) → slice_index uses s ≡ how_many (λ (t : Tenant). t.station == s) (shown hs)
