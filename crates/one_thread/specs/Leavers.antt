-- Who has left a station, as far as the predictor is told of it.
use Rattle.std.specs.Prelude.{⊤, ◌≡◌, ℕ, Bool, true, false, List, [], ◌∷◌, Option, Some, None, ◌==◌, if◌then◌else◌}
use Rattle.instructions.specs.declared.guessing.Leaver.{Leaver}
use Rattle.instructions.specs.declared.instr.Instr.{Instr}
use Rattle.instructions.specs.declared.op.Half.{Half}
use Rattle.instructions.specs.Instruction.{fixed_next, is_pair, kind}
use Rattle.instructions.specs.Programs.{Program}
use Rattle.inorder.specs.Tenants.{Done, Fate, Retired, Standing, Tenant, instr}
use Rattle.inorder.specs.Loads.{is_store}
use Rattle.one_thread.specs.Window.{access_of}
use Rattle.one_thread.specs.declared.leaves.Leaves.{Leaves}
use Rattle.one_thread.specs.declared.leaves.Leaves.TheVariants.{Any, Load, Nothing, Told}
use Rattle.one_thread.specs.declared.station.Station.{Station}

-- A leaver, unless where it went on was fixed
abbrev pub leaver_by : Option ℕ → ℕ → ℕ → Option Leaver
leaver_by None pc next = Some (record { pc = pc; next = next })
leaver_by (Some x) pc next = None

-- What a station tells when its tenant retires
abbrev pub told_at : Station → Option Leaver
told_at w = leaver_by (fixed_next w.instr w.half w.pc) w.pc w.next

-- A tenant that was predicted and has retired: its pc and its computed next pc
abbrev pub told_by : Standing → Fate → Option ℕ → ℕ → Option Leaver
told_by Retired (Done x) fixed pc = leaver_by fixed pc x
told_by _ _ fixed pc = None

-- What a tenant leaves behind for the predictor
abbrev pub told_of : Program → Tenant → Option Leaver
told_of P t = told_by t.standing t.fate (fixed_next (instr P t) t.half t.pc) t.pc

-- What the predictor is told when station s is let again: of its last tenant, if that was predicted and has
-- retired, and of nobody else
abbrev pub leaver : Program → List Tenant → ℕ → Option Leaver
leaver P [] s = None
leaver P (t ∷ ts) s = if t.station == s then told_of P t else leaver P ts s

-- What a predictor is told, if it is told where an instruction has gone on
abbrev pub told_if : Bool → ℕ → ℕ → Option Leaver
told_if true pc next = Some (record { pc = pc; next = next })
told_if false pc next = None

-- An instruction leaves with its number of accesses, and nothing to do but to count it, and perhaps to tell a predictor
pub record LeavesCounted (n : ℕ) (tells : Bool) (i : Instr) : Type 0 where
  pub none : is_store (kind i.op) ≡ false
  pub whole : is_pair i.op ≡ false
  pub told : (half : Half) (pc next : ℕ) → leaver_by (fixed_next i half pc) pc next ≡ told_if tells pc next
  pub accesses : access_of i ≡ n

-- What there is to do when an instruction leaves is this
abbrev pub LeavesAs : Leaves → Instr → Type 0
LeavesAs Nothing i = LeavesCounted 0 false i
LeavesAs Load i = LeavesCounted 1 false i
LeavesAs Told i = LeavesCounted 0 true i
LeavesAs Any i = ⊤

-- Nothing is to be told when it leaves
abbrev pub LeavesUntold : Leaves → Type 0
LeavesUntold Nothing = ⊤
LeavesUntold Load = ⊤
LeavesUntold Told = ⊥
LeavesUntold Any = ⊥
