-- What a unit has committed.
use Rattle.std.specs.Prelude.{ℕ, suc, Bool, true, false, List, [], ◌∷◌, Option, Some, None, unwrap_or, if◌then◌else◌, ◌&&◌, not}
use Rattle.instructions.specs.Programs.{Program}
use Rattle.instructions.specs.Registers.{lo}
use Rattle.inorder.specs.Machine.{State, start, store_bytes, write}
use Rattle.inorder.specs.Memory.{Stored, stored}
use Rattle.inorder.specs.Tenants.{Fate, Retired, Standing, Stopped, Tenant, computed_next, destination_of, is_first}

-- A tenant that has retired commits, unless it is a stop
abbrev pub commits_by : Standing → Fate → Bool
commits_by Retired (Stopped c) = false
commits_by Retired _ = true
commits_by _ _ = false

-- A tenant commits when it has retired and is no stop
abbrev pub commits : Tenant → Bool
commits t = commits_by t.standing t.fate

-- The registers with what a tenant made
abbrev pub with_write : Program → Tenant → List ℕ → List ℕ
with_write P t registers = write registers (destination_of P t) (unwrap_or t.made 0)

-- The memory with a store
abbrev pub with_stored : Option Stored → List ℕ → List ℕ
with_stored None memory = memory
with_stored (Some s) memory = store_bytes memory s.at s.width (unwrap_or s.content 0)

-- The state with a tenant's write and store
abbrev pub with_tenant : Program → Tenant → State → State
with_tenant P t s =
    record {
      registers = with_write P t s.registers;
      memory = with_stored (stored P t) s.memory;
      pc = computed_next P t;
      count = suc s.count;
    }

-- The state with the write of a first half: pc and count pass over it
abbrev pub with_first : Program → Tenant → State → State
with_first P t s = record s { registers = with_write P t s.registers }

-- The state with what a tenant that commits leaves, where it is a first half or not
abbrev pub with_retired : Bool → Program → Tenant → State → State
with_retired true P t s = with_first P t s
with_retired false P t s = with_tenant P t s

-- The state that a new tenant finds where all before it have left: the start state with the writes
-- and stores of the tenants that commit, the oldest first
abbrev pub ahead : Program → List Tenant → State
ahead P [] = start P
ahead P (t ∷ ts) = if commits t then with_retired (is_first P t) P t (ahead P ts) else ahead P ts

-- With this tenant an instruction commits: a first half waits for its second
abbrev pub completes : Program → Tenant → Bool
completes P t = commits t && not (is_first P t)

-- The committed state, which whole instructions have left: the start state with the writes and stores
-- of the tenants up to the last that completes an instruction
abbrev pub committed : Program → List Tenant → State
committed P [] = start P
committed P (t ∷ ts) = if completes P t then with_tenant P t (ahead P ts) else committed P ts

-- The registers with a value that waits for LO, if there is one
abbrev pub with_low : Option ℕ → List ℕ → List ℕ
with_low None registers = registers
with_low (Some v) registers = write registers lo v

-- The state with the value that waits for LO written, if there is one
abbrev pub ahead_by : Option ℕ → State → State
ahead_by low s = record s { registers = with_low low s.registers }
