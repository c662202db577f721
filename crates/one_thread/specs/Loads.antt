-- Loads over the live memory instructions before them.
use Rattle.std.specs.Prelude.{◌≡◌, ◌≤◌, is_some, ℕ, zero, suc, ◌+◌, Bool, false, List, [], ◌∷◌, ◌++◌, length, take, Option, Some, None, if◌then◌else◌, slice_index, slice_get}
use Rattle.instructions.specs.Instruction.{kind, second_of, width}
use Rattle.instructions.specs.Operations.{loaded}
use Rattle.instructions.specs.declared.op.Kind.{Kind}
use Rattle.instructions.specs.declared.op.Kind.TheVariants.{Loads as LoadKind}
use Rattle.instructions.specs.declared.op.Op.{Op}
use Rattle.inorder.specs.Loads.{access_entry, content_by}
use Rattle.lsq.specs.Bytes.{little_endian}
use Rattle.lsq.specs.declared.answer.Answer.{Answer}
use Rattle.lsq.specs.declared.answer.Answer.TheVariants.{Blocked, Forward, Memory}
use Rattle.lsq.specs.declared.entry.Entry.{Entry}
use Rattle.lsq.specs.LoadRule.{answer_over}
use Rattle.one_thread.specs.declared.station.Stage.{Stage}
use Rattle.one_thread.specs.declared.station.Stage.TheVariants.{Addr}
use Rattle.one_thread.specs.declared.station.Station.{Station}
use Rattle.one_thread.specs.Window.{reaches_memory, source_in}

-- An address that was computed
abbrev pub address_of : Stage → Option ℕ
address_of (Addr a) = Some a
address_of _ = None

-- What the queue holds of a memory instruction after these stations
abbrev pub entry_behind : List ℕ → List Station → Station → Entry
entry_behind registers ws w =
    access_entry w.instr.op (address_of w.stage)
    (content_by (kind w.instr.op) (source_in registers ws (second_of w.instr)))

-- What the queue holds of station i, if that reaches memory
abbrev pub entry_at : List ℕ → List Station → Option Station → ℕ → Option Entry
entry_at registers W None i = None
entry_at registers W (Some w) i = if reaches_memory w.instr.op then Some (entry_behind registers (take i W) w) else None

-- A queue that an entry joins, if there is one
abbrev pub with_entry : List Entry → Option Entry → List Entry
with_entry es None = es
with_entry es (Some e) = es ++ e ∷ []

-- The queue of the first k stations
abbrev pub entries : List ℕ → List Station → ℕ → List Entry
entries registers W zero = []
entries registers W (suc k) = with_entry (entries registers W k) (entry_at registers W (slice_get W k) k)

-- The address of a load that waits for its value
abbrev pub waits_by : Kind → Stage → Option ℕ
waits_by LoadKind (Addr a) = Some a
waits_by _ _ = None

-- The address of a load that waits for its value, from its station
abbrev pub waits : Station → Option ℕ
waits w = waits_by (kind w.instr.op) w.stage

-- The value of a load of an address, by the rule's answer
abbrev pub value_by : Answer → List ℕ → Op → ℕ → Option ℕ
value_by (Forward raw) memory op a = Some (loaded op raw)
value_by Memory memory op a = Some (loaded op (little_endian (slice_index memory) a (width op)))
value_by (Blocked place) memory op a = None

-- The value of a load of an address over these entries, if it is one
abbrev pub loaded_over : List Entry → List ℕ → Op → Option ℕ → Option ℕ
loaded_over es memory op None = None
loaded_over es memory op (Some a) = value_by (answer_over es a (width op)) memory op a

-- The value of a load after these stations, if it is one with its address that is not blocked
abbrev pub load_in : List ℕ → List ℕ → List Station → Station → Option ℕ
load_in registers memory ws w = loaded_over (entries registers ws (length ws)) memory w.instr.op (waits w)

-- An access with its address is inside the memory
abbrev pub IsInside : ℕ → Station → Type 0
IsInside size w = (a : ℕ) → w.stage ≡ Addr a → a + width w.instr.op ≤ size

-- Each access of a list that has its address is inside the memory
abbrev pub AreInside : ℕ → List Station → Type 0
AreInside size W = (k : ℕ) (w : Station) → slice_get W k ≡ Some w → IsInside size w

-- A load that waits for its value
abbrev pub waits_at : Option Station → Bool
waits_at None = false
waits_at (Some w) = is_some (waits w)
