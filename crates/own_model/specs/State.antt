-- The architectural state: what an instruction finds in it, and what one leaves.
use Rattle.std.specs.Prelude.{⊤, ◌≡◌, ◌≢◌, ◌^◌, ◌<◌, ℕ, suc, Bool, true, false, List, length, Some, None, Result, Ok, Err, is_some, slice_index}
use Rattle.instructions.specs.Instruction.{destination, first_of, is_first_half, kind, pc_plus_4, second_of, width}
use Rattle.instructions.specs.Operations.{loaded, outcome_of}
use Rattle.instructions.specs.Programs.{Program, address, instr_at, instr_of}
use Rattle.instructions.specs.declared.instr.Instr.{Instr}
use Rattle.instructions.specs.declared.op.Half.{Half}
use Rattle.instructions.specs.declared.op.Kind.{Kind}
use Rattle.instructions.specs.declared.op.Kind.TheVariants.{Stores}
use Rattle.instructions.specs.declared.stop.Outcome.{Outcome}
use Rattle.instructions.specs.declared.stop.Outcome.TheVariants.{Address, Next, Pair, Stop as Stops, Value}
use Rattle.instructions.specs.declared.stop.Stop.{Stop}
use Rattle.inorder.specs.Committed.{with_low}
use Rattle.inorder.specs.Machine.{store_bytes, write}
use Rattle.inorder.specs.Unit.{half_after}
use Rattle.lsq.specs.Bytes.{little_endian}
use Rattle.own_model.specs.declared.state.ArchitecturalState.{ArchitecturalState}

-- The half of an instruction that comes next
abbrev pub half_in : ArchitecturalState → Half
half_in a = half_after (is_some a.low)

-- The value of register r, as the next instruction finds it
abbrev pub value_in : ArchitecturalState → ℕ → ℕ
value_in a r = slice_index (with_low a.low a.committed.registers) r

-- The outcome of instruction i, or of its next half, executed in this state
abbrev pub outcome_in : Program → ArchitecturalState → Instr → Outcome
outcome_in P a i =
    outcome_of i (half_in a) a.committed.pc (value_in a (first_of i)) (value_in a (second_of i))
    (length P.bytes)

-- The state after a half that makes v, leaves this memory and goes on at x; a first half leaves v for LO
abbrev pub advanced_by : Bool → ArchitecturalState → Instr → Half → List ℕ → (v x : ℕ) → ArchitecturalState
advanced_by true a i half memory v x = record { committed = a.committed; low = Some v }
advanced_by false a i half memory v x =
    record {
      committed = record {
        registers = write (with_low a.low a.committed.registers) (destination i half) v;
        memory = memory;
        pc = x;
        count = suc a.committed.count;
      };
      low = None;
    }

-- The state after a half of instruction i
abbrev pub advanced : ArchitecturalState → Instr → Half → List ℕ → (v x : ℕ) → ArchitecturalState
advanced a i half memory v x = advanced_by (is_first_half i.op half) a i half memory v x

-- The value of a load at an address
abbrev pub loaded_at : ArchitecturalState → Instr → ℕ → ℕ
loaded_at a i at = loaded i.op (little_endian (slice_index a.committed.memory) at (width i.op))

-- The state after a load or store at an address
abbrev pub accessed : Kind → ArchitecturalState → Instr → Half → (after at : ℕ) → ArchitecturalState
accessed Stores a i half after at =
    advanced a i half (store_bytes a.committed.memory at (width i.op) (value_in a (second_of i))) 0 after
accessed _ a i half after at = advanced a i half a.committed.memory (loaded_at a i at) after

-- The state after a half at pc that has this outcome
abbrev pub left_at : ArchitecturalState → Instr → Half → (pc : ℕ) → Outcome → ArchitecturalState
left_at a i half pc (Value v) = advanced a i half a.committed.memory v (pc_plus_4 pc)
left_at a i half pc (Next x) = advanced a i half a.committed.memory (pc_plus_4 pc) x
left_at a i half pc (Address at) = accessed (kind i.op) a i half (pc_plus_4 pc) at
left_at a i half pc (Pair low high) = advanced a i half a.committed.memory low (pc_plus_4 pc)
left_at a i half pc (Stops c) = a

-- The state after the next half
abbrev pub left : ArchitecturalState → Instr → Outcome → ArchitecturalState
left a i o = left_at a i (half_in a) a.committed.pc o

-- What goes on with an outcome goes on at a word
abbrev pub NextIsWord : Outcome → Type 0
NextIsWord (Next x) = x < 2 ^ 32
NextIsWord _ = ⊤

-- The outcome is no stop
abbrev pub IsNoStop : Outcome → Type 0
IsNoStop o = (c : Stop) → o ≢ Stops c

-- What an outcome leaves is committed, or it is a stop and nothing changes
abbrev pub Commits : Result (Unit {0}) Stop → ArchitecturalState → Instr → Outcome → ArchitecturalState → Type 0
Commits (Ok u) a i o later = IsNoStop o × (later ≡ left a i o)
Commits (Err c) a i o later = (o ≡ Stops c) × (later ≡ a)

-- The instruction i is that of the program at this pc, and has this index
pub record IsAt (P : Program) (pc index : ℕ) (i : Instr) : Type 0 where
  pub inside : index < length P.code
  pub place : pc ≡ address index
  pub is : instr_of P index ≡ i

-- The instruction i is next, and has this outcome in the state
pub record Executes (P : Program) (a : ArchitecturalState) (i : Instr) (o : Outcome) : Type 0 where
  pub is_next : instr_at P a.committed.pc ≡ Some i
  pub small : a.committed.pc < 2 ^ 32
  pub is : outcome_in P a i ≡ o
  pub word : NextIsWord o
