-- The instructions that a run can reach.
use Rattle.std.specs.Prelude.{◌≡◌, ◌+◌, ◌<◌, ◌==◌, ◌&&◌, ◌||◌, ℕ, Bool, true, false, not, List, length, Some, slice_get}
use Rattle.instructions.specs.declared.op.Op.{Op}
use Rattle.instructions.specs.declared.op.Op.TheVariants.{Beq, J, Jal, Jr, Jalr, Break}
use Rattle.instructions.specs.declared.instr.Instr.{Instr}
use Rattle.instructions.specs.Targets.{names_target}
use Rattle.instructions.specs.Programs.{Program, address, instr_of}
use Rattle.checker.specs.declared.reach.Paths.{Paths}
use Rattle.checker.specs.declared.reach.Paths.TheVariants.{Any, WithoutStack}

-- ---- one instruction

-- `beq`
abbrev pub is_beq : Op → Bool
is_beq Beq = true
is_beq _ = false

-- `jr`
abbrev pub is_jr : Op → Bool
is_jr Jr = true
is_jr _ = false

-- `jalr`
abbrev pub is_jalr : Op → Bool
is_jalr Jalr = true
is_jalr _ = false

-- `jal`
abbrev pub is_jal : Op → Bool
is_jal Jal = true
is_jal _ = false

-- an operation that never falls through to the next instruction
abbrev pub never_falls_through : Op → Bool
never_falls_through J = true
never_falls_through Jr = true
never_falls_through Break = true
never_falls_through _ = false

-- whether an instruction is a branch that is taken whatever the registers hold
abbrev pub is_always_taken : Instr → Bool
is_always_taken i = is_beq i.op && (i.first == i.second)

-- whether an instruction never falls through to the next one
abbrev pub ends_path : Instr → Bool
ends_path i = never_falls_through i.op || is_always_taken i

-- whether an instruction hides where a run goes: by a jump to a register that is no return behind a `jal`, or by writing
-- register 31 other than by `jal`
abbrev pub is_opaque : Instr → Bool
is_opaque i =
    (is_jalr i.op || (is_jr i.op && not (i.first == 31))) || (not (is_jal i.op) && (i.target == 31))

-- whether register 29, which is `$sp`, is a source of an instruction
abbrev pub reads_stack : Instr → Bool
reads_stack i = (i.first == 29) || (i.second == 29)

-- whether an instruction sets `$sp`, and not from what it was
abbrev pub sets_stack : Instr → Bool
sets_stack i = (i.target == 29) && not (reads_stack i)

-- ---- a set of instructions

-- all successors of instruction k are in the set
pub record HasSuccessors (P : Program) (S : List Bool) (k : ℕ) : Type 0 where
  pub plain : is_opaque (instr_of P k) ≡ false
  pub behind : ends_path (instr_of P k) ≡ false → k + 1 < length P.code → slice_get S (k + 1) ≡ Some true
  pub target : names_target (instr_of P k).op ≡ true
      → (j : ℕ) → j < length P.code → (instr_of P k).number ≡ address j → slice_get S j ≡ Some true

-- the set has the first instruction, and with each one all its successors
pub record IsClosedSet (P : Program) (S : List Bool) : Type 0 where
  pub size : length S ≡ length P.code
  pub first : 0 < length P.code → slice_get S 0 ≡ Some true
  pub follows : (k : ℕ) → k < length P.code → slice_get S k ≡ Some true → HasSuccessors P S k

-- a closed set is without instruction k
pub record IsUnreached (P : Program) (k : ℕ) : Type 0 where
  pub set : List Bool
  pub closed : IsClosedSet P set
  pub is_out : slice_get set k ≡ Some false

-- ---- a path

-- whether paths of these lead on after an instruction
abbrev pub passes : Paths → Instr → Bool
passes Any i = true
passes WithoutStack i = not (sets_stack i)

-- A path leads to an instruction: the first one, one behind an instruction that a path reaches and that falls through, or the
-- target that such an instruction names.
pub data HasPath (paths : Paths) (P : Program) : ℕ → Type 0 where
  First : 0 < length P.code → HasPath paths P 0
  Behind : (k : ℕ) → HasPath paths P k → passes paths (instr_of P k) ≡ true → ends_path (instr_of P k) ≡ false
      → k + 1 < length P.code → HasPath paths P (k + 1)
  Target : (k j : ℕ) → HasPath paths P k → passes paths (instr_of P k) ≡ true → names_target (instr_of P k).op ≡ true
      → j < length P.code → (instr_of P k).number ≡ address j → HasPath paths P j

-- a path leads to each instruction of a set
abbrev pub HavePaths : Paths → Program → List Bool → Type 0
HavePaths paths P S = (k : ℕ) → slice_get S k ≡ Some true → HasPath paths P k

-- a path leads to each instruction of a list
abbrev pub HavePathsTo : Paths → Program → List ℕ → Type 0
HavePathsTo paths P list = (i k : ℕ) → slice_get list i ≡ Some k → HasPath paths P k

-- instruction k reads `$sp` after a path on which no instruction sets it
abbrev pub IsStackUnset : Program → (k : ℕ) → Type 0
IsStackUnset P k = HasPath WithoutStack P k × (reads_stack (instr_of P k) ≡ true)

-- ---- the end

-- whether a run can go on from instruction k past the last one
abbrev pub may_run_past_end : Program → ℕ → Bool
may_run_past_end P k =
    (not (ends_path (instr_of P k)) && (k + 1 == length P.code))
    || (names_target (instr_of P k).op && ((instr_of P k).number == address (length P.code)))
