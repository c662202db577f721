-- The live loads and stores as the queue of the rule for loads, and that the rule is right.
use Rattle.std.specs.Prelude.{◌≡◌, ◌⊎◌, ℕ, ◌<◌, Bool, true, false, IsNone, List, [], ◌∷◌, ◌++◌, map, length, Option, Some, None, slice_get, slice_index}
use Rattle.instructions.specs.Instruction.{kind, width}
use Rattle.instructions.specs.Programs.{Program}
use Rattle.instructions.specs.declared.op.Kind.{Kind}
use Rattle.instructions.specs.declared.op.Kind.TheVariants.{Loads, Stores}
use Rattle.instructions.specs.declared.op.Op.{Op}
use Rattle.instructions.specs.declared.op.Op.TheVariants.{Lb, Lbu, Lh, Lhu, Sb, Sh}
use Rattle.instructions.specs.declared.stop.Outcome.{Outcome}
use Rattle.instructions.specs.declared.stop.Outcome.TheVariants.{Address}
use Rattle.lsq.specs.declared.answer.Answer.TheVariants.{Blocked, Forward, Memory}
use Rattle.lsq.specs.declared.entry.Entry.{Entry}
use Rattle.lsq.specs.declared.entry.Width.{Width}
use Rattle.lsq.specs.declared.entry.Width.TheVariants.{Byte, Half, Word}
use Rattle.inorder.specs.Committed.{committed}
use Rattle.inorder.specs.Legal.{AreAllowed, Taken, reached}
use Rattle.inorder.specs.Memory.{raw_at}
use Rattle.inorder.specs.Steps.{MayLoad}
use Rattle.inorder.specs.Tenants.{Addr, Done, Fate, Live, Tenant, computed, instr, is_live_access, kind_of}
use Rattle.inorder.specs.Unit.{Sizes, at, older}
use Rattle.lsq.specs.Bytes.{little_endian}
use Rattle.lsq.specs.LastStores.{CannotGive}
use Rattle.lsq.specs.LoadRule.{answer}

-- How many bytes a load or store reaches, as the queue names it
abbrev pub access_width : Op → Width
access_width Lb = Byte
access_width Lbu = Byte
access_width Sb = Byte
access_width Lh = Half
access_width Lhu = Half
access_width Sh = Half
access_width _ = Word

-- An operation of this kind is a store
abbrev pub is_store : Kind → Bool
is_store Stores = true
is_store _ = false

-- The entry of a load or store with its address and its data, as far as it has them
abbrev pub access_entry : Op → Option ℕ → Option ℕ → Entry
access_entry op address content =
    record {
      store = is_store (kind op);
      width = access_width op;
      address = address;
      content = content;
    }

-- The address, once it was computed; a load keeps it when it is done, and one that has guessed shows none
abbrev pub address_by : Kind → Fate → Outcome → Option ℕ
address_by k (Addr a) o = Some a
address_by Loads (Done v) (Address a) = Some a
address_by k f o = None

-- The data of a store
abbrev pub content_by : Kind → Option ℕ → Option ℕ
content_by Stores v = v
content_by _ v = None

-- The entry of a load or store in the queue
abbrev pub entry_of : Program → Tenant → Entry
entry_of P t =
    access_entry (instr P t).op (address_by (kind_of P t) t.fate (computed P t))
    (content_by (kind_of P t) t.second.value)

-- A list with one more at its end, if the test holds
abbrev pub with_access : Bool → ℕ × Entry → List (ℕ × Entry)
with_access true e = e ∷ []
with_access false e = []

-- The live loads and stores with their positions, the oldest first
abbrev pub live_accesses : Program → List Tenant → List (ℕ × Entry)
live_accesses P [] = []
live_accesses P (t ∷ ts) =
    live_accesses P ts ++ with_access (is_live_access P t) (length ts, entry_of P t)

-- The entry, without its position
abbrev pub entry_in : ℕ × Entry → Entry
entry_in e = e.1

-- The queue of a unit
abbrev pub queue_of : Program → List Tenant → List Entry
queue_of P ts = map entry_in (live_accesses P ts)

-- The place in the queue of the tenant at position p
abbrev pub place_of : Program → List Tenant → ℕ → ℕ
place_of P ts p = length (live_accesses P (older ts p))

-- A load of w bytes from a on, at position p, waits for the store at a place of the queue: an older
-- live one that has no address, or where each of these has one the youngest that has a byte in common
-- with the load, and cannot give it
pub record WaitsForStore (P : Program) (ts : List Tenant) (p a w place : ℕ) : Type 0 where
  pub q : ℕ
  pub store : Tenant
  pub is : at ts q ≡ Some store
  pub before : q < p
  pub live : store.standing ≡ Live
  pub kind : kind_of P store ≡ Stores
  pub there : slice_get (live_accesses P ts) place ≡ Some (q, entry_of P store)
  pub why :
      IsNone (entry_of P store).address ⊎
      CannotGive (queue_of P (older ts p)) a w place (entry_of P store)

-- The answer of the rule to the load t at position p, whose address is a
pub record IsAnsweredRight (P : Program) (ts : List Tenant) (p : ℕ) (t : Tenant) (a : ℕ) : Type 0
  where
    pub place : slice_get (live_accesses P ts) (place_of P ts p) ≡ Some (p, entry_of P t)
    -- where it forwards, Load is allowed, and the bytes are those of the load
    pub forward : (bytes : ℕ) → answer (queue_of P ts) (place_of P ts p) ≡ Forward bytes →
        MayLoad P (older ts p) t × (raw_at P (older ts p) (instr P t) a ≡ Some bytes)
    -- where it says memory, Load is allowed, and the bytes are those of the committed memory
    pub memory : answer (queue_of P ts) (place_of P ts p) ≡ Memory →
        MayLoad P (older ts p) t ×
        (raw_at P (older ts p) (instr P t) a ≡
        Some (little_endian (slice_index (committed P ts).memory) a (width (instr P t).op)))
    -- where it blocks, there is such a store
    pub blocked : (k : ℕ) → answer (queue_of P ts) (place_of P ts p) ≡ Blocked k →
        WaitsForStore P ts p a (width (instr P t).op) k

-- The rule for loads answers each live load with its address after these steps, if each was allowed
abbrev pub LoadsAreAnswered : Program → Sizes → List Taken → Type 0
LoadsAreAnswered P C history =
    (p : ℕ) (t : Tenant) (a : ℕ) → AreAllowed P C history →
    at (reached P C history).tenants p ≡ Some t → t.standing ≡ Live →
    kind_of P t ≡ Loads → t.fate ≡ Addr a → IsAnsweredRight P (reached P C history).tenants p t a
