-- What is known of an instruction: its kind, where it is no pair.
use Rattle.std.specs.Prelude.{⊤, ◌≡◌, ℕ, List, Option, Some, None, false}
use Rattle.instructions.specs.Instruction.{fixed_next, is_pair, kind, pc_plus_4}
use Rattle.instructions.specs.Programs.{Program, instr_at}
use Rattle.instructions.specs.declared.instr.Instr.{Instr}
use Rattle.instructions.specs.declared.op.Half.{Half}
use Rattle.instructions.specs.declared.op.Kind.{Kind}
use Rattle.instructions.specs.declared.op.Kind.TheVariants.{Jumps, Links}
use Rattle.one_thread.specs.Decoding.{IsDecoded}

-- The path goes on after an instruction of this kind, if that is no jump
abbrev pub GoesAhead : Kind → Instr → Type 0
GoesAhead Jumps i = ⊤
GoesAhead Links i = ⊤
GoesAhead k i = (half : Half) (pc : ℕ) → fixed_next i half pc ≡ Some (pc_plus_4 pc)

-- An instruction is of this kind and no pair, and goes ahead if it does not jump
pub record IsOfKind (k : Kind) (i : Instr) : Type 0 where
  pub kind_is : k ≡ kind i.op
  pub whole : is_pair i.op ≡ false
  pub ahead : GoesAhead k i

-- If it is known what an instruction does, it does this
abbrev pub KnownAs : Option Kind → Instr → Type 0
KnownAs None i = ⊤
KnownAs (Some k) i = IsOfKind k i

-- This is known of the instruction at this address
abbrev pub IsKnownThere : List Instr → ℕ → Option Kind → Type 0
IsKnownThere code pc known = (P : Program) (i : Instr) → IsDecoded code P → instr_at P pc ≡ Some i → KnownAs known i

-- The instruction at this address is no pair
abbrev pub IsWhole : List Instr → ℕ → Type 0
IsWhole code pc = (P : Program) (i : Instr) → IsDecoded code P → instr_at P pc ≡ Some i → is_pair i.op ≡ false
