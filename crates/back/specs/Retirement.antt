-- What a retirement does to what was committed.
use Rattle.std.specs.Prelude.{⊤, ◌+◌, ◌≤◌, ℕ, suc, Bool, true, Option, Some, None}
use Rattle.instructions.specs.Instruction.{destination, is_first_half, kind, pc_plus_4, width}
use Rattle.instructions.specs.declared.op.Half.{Half}
use Rattle.instructions.specs.declared.instr.Instr.{Instr}
use Rattle.instructions.specs.declared.op.Kind.{Kind}
use Rattle.instructions.specs.declared.op.Kind.TheVariants.{Jumps, Links}
use Rattle.instructions.specs.declared.stop.Stop.{Stop}
use Rattle.inorder.specs.Committed.{ahead_by}
use Rattle.inorder.specs.Machine.{State, store_bytes, write}
use Rattle.station.specs.declared.answers.Last.{Last}
use Rattle.station.specs.declared.answers.Last.TheVariants.{Done, Stop as WasStop, Stored}

-- The value that an instruction writes that is done with v: a jump that links writes its return address
abbrev pub value_written : Kind → ℕ → ℕ → ℕ
value_written Jumps pc v = pc_plus_4 pc
value_written Links pc v = pc_plus_4 pc
value_written _ pc v = v

-- Where it goes on
abbrev pub goes_on_at : Kind → ℕ → ℕ → ℕ
goes_on_at Jumps pc v = v
goes_on_at Links pc v = v
goes_on_at _ pc v = pc_plus_4 pc

-- The state after an instruction that is done with v
abbrev pub with_done : Instr → Half → ℕ → State → State
with_done i half v s =
    record {
      registers = write s.registers (destination i half) (value_written (kind i.op) s.pc v);
      memory = s.memory;
      pc = goes_on_at (kind i.op) s.pc v;
      count = suc s.count;
    }

-- The state after a store of its data
abbrev pub with_store : Instr → Half → ℕ → ℕ → State → State
with_store i half address content s =
    record {
      registers = write s.registers (destination i half) 0;
      memory = store_bytes s.memory address (width i.op) content;
      pc = pc_plus_4 s.pc;
      count = suc s.count;
    }

-- The state after an instruction that retired whole; a stop leaves it
abbrev pub behind_last : Instr → Half → Last → State → State
behind_last i half (Done v) s = with_done i half v s
behind_last i half (Stored address content) s = with_store i half address content s
behind_last i half (WasStop code) s = s

-- The value of a first half, which waits for the second
abbrev pub waiting_low : Bool → Last → Option ℕ
waiting_low true (Done v) = Some v
waiting_low _ _ = None

-- The low value that waits after a retired tenant, if one does
abbrev pub low_in : Instr → Half → Last → Option ℕ
low_in i half last = waiting_low (is_first_half i.op half) last

-- The state after a retired tenant: a first half, whose value waits now, leaves it as it is; with
-- any other its instruction is whole, and what waited for it is written first
abbrev pub state_behind_by : (waits : Option ℕ) → Instr → Half → Last → (waited : Option ℕ) → State → State
state_behind_by (Some v) i half last waited s = s
state_behind_by None i half last waited s = behind_last i half last (ahead_by waited s)

-- The state after a retired tenant, by its instruction and half
abbrev pub state_behind : Instr → Half → Last → Option ℕ → State → State
state_behind i half last waited s = state_behind_by (low_in i half last) i half last waited s

-- The code of a stop
abbrev pub stop_in : Last → Option Stop
stop_in (WasStop code) = Some code
stop_in _ = None

-- A store is inside a memory of this size
abbrev pub StoreIsInside : ℕ → Instr → Last → Type 0
StoreIsInside size i (Stored address content) = address + width i.op ≤ size
StoreIsInside size i _ = ⊤
