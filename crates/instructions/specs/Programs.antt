-- Programs, and the addresses of their instructions.
use Rattle.std.specs.Prelude.{ℕ, ◌+◌, ◌-◌, ◌*◌, ◌/◌, List, Option, None, ◌==◌, if◌then◌else◌, slice_get, slice_index_or}
use Rattle.instructions.specs.declared.op.Op.TheVariants.{Break}
use Rattle.instructions.specs.declared.instr.Instr.{Instr}

-- a program: its instructions, and the bytes with which data memory starts
pub record Program : Type 0 where
  pub code : List Instr
  pub bytes : List ℕ

-- the address at which the text begins
abbrev pub text_start : ℕ
text_start = 0x00400000

-- the address of instruction k
abbrev pub address : ℕ → ℕ
address k = text_start + 4 * k

-- the instruction at an address, if there is one
unfoldable pub instr_at : Program → ℕ → Option Instr
instr_at P pc =
    if address ((pc - text_start) / 4) == pc then slice_get P.code ((pc - text_start) / 4) else None

-- instruction k of a program that has n
abbrev pub instr_of : Program → ℕ → Instr
instr_of P k =
    slice_index_or P.code k (record { op = Break; target = 0; first = 0; second = 0; number = 0 })
