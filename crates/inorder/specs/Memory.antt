-- Memory as the older stores of the path leave it, and what a load reads.
use Rattle.std.specs.Prelude.{ℕ, ◌+◌, ◌-◌, Bool, true, false, ◌&&◌, List, [], ◌∷◌, Option, Some, None, option_map, unwrap_or, nat_le, nat_lt, if◌then◌else◌, slice_index}
use Rattle.instructions.specs.Instruction.{width}
use Rattle.instructions.specs.Operations.{loaded}
use Rattle.instructions.specs.Programs.{Program}
use Rattle.instructions.specs.declared.instr.Instr.{Instr}
use Rattle.instructions.specs.declared.op.Kind.{Kind}
use Rattle.instructions.specs.declared.op.Kind.TheVariants.{Stores}
use Rattle.inorder.specs.Tenants.{Addr, Fate, Live, Standing, Tenant, instr, kind_of, on_path}
use Rattle.lsq.specs.Bytes.{byte_of, little_endian_if_there}

-- A store of the path whose address is known, with its data if that was delivered
pub record Stored : Type 0 where
  pub at : ℕ
  pub width : ℕ
  pub content : Option ℕ

-- The address, width and data of a store of the path once its address is known; no other tenant stores
abbrev pub stored_by : Bool → Kind → Fate → ℕ → Option ℕ → Option Stored
stored_by true Stores (Addr a) w d = Some (record { at = a; width = w; content = d })
stored_by _ _ _ w d = None

-- The address, width and data that a tenant stores, if it is a store of the path with its address
abbrev pub stored : Program → Tenant → Option Stored
stored P t = stored_by (on_path t) (kind_of P t) t.fate (width (instr P t).op) t.second.value

-- The store writes the byte at x
abbrev pub covers : Stored → ℕ → Bool
covers s x = nat_le s.at x && nat_lt x (s.at + s.width)

-- The byte at x after a store, if there is one, where it was `before`
abbrev pub byte_after : Option Stored → ℕ → Option ℕ → Option ℕ
byte_after None x before = before
byte_after (Some s) x before =
    if covers s x then option_map (byte_of (x - s.at)) s.content else before

-- The byte at x of the last store of the path to it, if its data is there; without such a store
-- that of the start memory
abbrev pub byte_at : Program → List Tenant → ℕ → Option ℕ
byte_at P [] x = Some (slice_index P.bytes x)
byte_at P (t ∷ ts) x = byte_after (stored P t) x (byte_at P ts x)

-- The bytes of a load at address a, by the stores before it
abbrev pub raw_at : Program → List Tenant → Instr → ℕ → Option ℕ
raw_at P ts i a = little_endian_if_there (byte_at P ts) a (width i.op)

-- The bytes of a load by the stores before it, once its fate is its address
abbrev pub raw : Program → List Tenant → Instr → Fate → Option ℕ
raw P ts i (Addr a) = raw_at P ts i a
raw P ts i _ = None

-- A live store of this fate has no address yet
abbrev pub lacks_address_by : Standing → Kind → Fate → Bool
lacks_address_by Live Stores (Addr a) = false
lacks_address_by Live Stores f = true
lacks_address_by st k f = false

-- A live store that has no address yet
abbrev pub lacks_address : Program → Tenant → Bool
lacks_address P t = lacks_address_by t.standing (kind_of P t) t.fate

-- The byte at x of the last store of the path to it, if its data is there and each live store after
-- it has its address: none of the stores before can still change it
abbrev pub sure_byte_at : Program → List Tenant → ℕ → Option ℕ
sure_byte_at P [] x = Some (slice_index P.bytes x)
sure_byte_at P (t ∷ ts) x =
    if lacks_address P t then None else byte_after (stored P t) x (sure_byte_at P ts x)

-- The bytes of a load at address a, where none of the stores before it can still change them
abbrev pub sure_raw_at : Program → List Tenant → Instr → ℕ → Option ℕ
sure_raw_at P ts i a = little_endian_if_there (sure_byte_at P ts) a (width i.op)

-- The value of a load
abbrev pub load_value : Program → List Tenant → Tenant → ℕ
load_value P ts t = loaded (instr P t).op (unwrap_or (raw P ts (instr P t) t.fate) 0)
