-- Whether the queue takes one more load or store.
use Rattle.std.specs.Prelude.{◌≡◌, ℕ, suc, ◌<◌, ◌≤◌, Bool, true, false, List, [], ◌∷◌, ◌++◌, Option, Some, None, if◌then◌else◌}
use Rattle.instructions.specs.Instruction.{is_access, kind}
use Rattle.instructions.specs.Programs.{Program}
use Rattle.instructions.specs.declared.instr.Instr.{Instr}
use Rattle.inorder.specs.Tenants.{is_live_access}
use Rattle.inorder.specs.Unit.{Sizes, UpdateUnit, how_many}
use Rattle.front.specs.declared.path.record.Record.{Record}

-- How many of these tenants reach memory
abbrev pub memory_records : List Record → ℕ
memory_records [] = 0
memory_records (x ∷ xs) = if x.access then suc (memory_records xs) else memory_records xs

-- The tenant of record x reaches memory, and so do n younger ones
pub record IsBefore (records : List Record) (n : ℕ) (x : Record) : Type 0 where
  pub older : List Record
  pub younger : List Record
  pub are : records ≡ older ++ x ∷ younger
  pub access : x.access ≡ true
  pub behind : memory_records younger ≡ n

-- There are at most n loads and stores, or this is the one that n follow
abbrev pub AccessBefore : List Record → ℕ → Option Record → Type 0
AccessBefore records n None = memory_records records ≤ n
AccessBefore records n (Some x) = IsBefore records n x

-- How many loads and stores are live
abbrev pub how_many_accesses : Program → UpdateUnit → ℕ
how_many_accesses P U = how_many (is_live_access P) U.tenants

-- The instruction is a load or store, and as many are live as the queue takes
abbrev pub QueueSays : Program → Sizes → UpdateUnit → Instr → Bool → Type 0
QueueSays P C U i true = (is_access (kind i.op) ≡ true) × (how_many_accesses P U ≡ C.queue)
QueueSays P C U i false = is_access (kind i.op) ≡ true → how_many_accesses P U < C.queue
