-- The loads that are blocked after a turn, and the stores that they wait for: by the rule of the load/store queue.
use Rattle.std.specs.Prelude.{ℕ, ◌==◌, Bool, false, List, [], ◌∷◌, ◌++◌, Option, Some, None, slice_get, if◌then◌else◌}
use Rattle.instructions.specs.Instruction.{kind, second_of}
use Rattle.inorder.specs.Loads.{access_entry, access_width, content_by}
use Rattle.inorder.specs.Unit.{can_be_written}
use Rattle.lsq.specs.declared.answer.Answer.{Answer}
use Rattle.lsq.specs.declared.answer.Answer.TheVariants.{Blocked as BlockedAt}
use Rattle.lsq.specs.declared.entry.Entry.{Entry}
use Rattle.lsq.specs.Entries.{bytes}
use Rattle.lsq.specs.LoadRule.{answer_over}
use Rattle.one_thread.specs.Loads.{address_of, waits}
use Rattle.one_thread.specs.Window.{reaches_memory}
use Rattle.chart.specs.declared.blocked.Queue.{Queue}
use Rattle.chart.specs.declared.event.Event.{Event}
use Rattle.chart.specs.declared.event.Event.TheVariants.{Blocked}
use Rattle.chart.specs.declared.row.Held.{Held}
use Rattle.chart.specs.declared.row.Row.{Row}
use Rattle.chart.specs.Rows.{writer_of}

-- Rows, the oldest first, and the loads and stores among them: their entries in the queue, and their positions
pub record Queued : Type 0 where
  pub rows : List Row
  pub entries : List Entry
  pub positions : List ℕ

-- The content of a queue
abbrev pub queued : Queue → Queued
queued q = record { rows = q.rows.items; entries = q.entries.items; positions = q.positions.items }

-- No rows
abbrev pub no_rows : Queued
no_rows = record { rows = []; entries = []; positions = [] }

-- What a writer has made; 0 for a register that no row writes, since its number blocks no load
abbrev pub made_by : Option Row → Option ℕ
made_by None = Some 0
made_by (Some r) = r.station.made

-- What a register holds after rows, as far as it was made
abbrev pub made_after : List Row → (register : ℕ) → Option ℕ
made_after rows register = if can_be_written register then made_by (writer_of register rows) else Some 0

-- What the queue holds of a row after these, if that reaches memory
abbrev pub entry_after : List Row → Row → Option Entry
entry_after rows r =
    if reaches_memory r.station.instr.op
    then Some (access_entry r.station.instr.op (address_of r.station.stage)
    (content_by (kind r.station.instr.op) (made_after rows (second_of r.station.instr))))
    else None

-- The queue with one row more, by its entry if it has one
abbrev pub joined_by : Queued → Row → Option Entry → Queued
joined_by q r None = record { rows = q.rows ++ r ∷ []; entries = q.entries; positions = q.positions }
joined_by q r (Some e) =
    record { rows = q.rows ++ r ∷ []; entries = q.entries ++ e ∷ []; positions = q.positions ++ r.position ∷ [] }

-- The queue with one row more
abbrev pub joined : Queued → Row → Queued
joined q r = joined_by q r (entry_after q.rows r)

-- The position of the store at the place that an answer names
abbrev pub position_at : List ℕ → Answer → Option ℕ
position_at positions (BlockedAt place) = slice_get positions place
position_at positions _ = None

-- The position of the store that a load of an address waits for, if there is one
abbrev pub blocker_of : Queued → Row → (address : Option ℕ) → Option ℕ
blocker_of q r None = None
blocker_of q r (Some a) =
    position_at q.positions (answer_over q.entries a (bytes (access_width r.station.instr.op)))

-- The position of the store that a row after these waits for: that of a load that has its address and is blocked
abbrev pub blocker : Queued → Row → Option ℕ
blocker q r = blocker_of q r (waits r.station)

-- A row that waits for this store after a turn
abbrev pub held_by : (turn : ℕ) → Row → Option ℕ → Row
held_by turn r None = r
held_by turn r (Some store) = record r { held = Some (record { store = store; turn = turn }) }

-- A row waits for this store already
abbrev pub waits_for : Option Held → (store : ℕ) → Bool
waits_for None store = false
waits_for (Some h) store = h.store == store

-- The event of a load that begins to wait for a store
abbrev pub block_event : Row → Option ℕ → List Event
block_event r None = []
block_event r (Some store) = if waits_for r.held store then [] else Blocked r.position store ∷ []

-- The queue after these rows, each by what it waits for after a turn
abbrev pub all_held : (turn : ℕ) → Queued → List Row → Queued
all_held turn q [] = q
all_held turn q (r ∷ rs) = all_held turn (joined q (held_by turn r (blocker q r))) rs

-- The rows after a turn, each by what it waits for
abbrev pub held_rows : (turn : ℕ) → List Row → List Row
held_rows turn rows = (all_held turn no_rows rows).rows

-- The events of those of these rows that begin to wait for a store
abbrev pub block_events : (turn : ℕ) → Queued → List Row → List Event
block_events turn q [] = []
block_events turn q (r ∷ rs) =
    block_event r (blocker q r) ++ block_events turn (joined q (held_by turn r (blocker q r))) rs
