-- The readings of operands.
use Rattle.std.specs.Prelude.{ℕ, ◌==◌, List, length, Result, Ok, Err, ok_or, if◌then◌else◌}
use Rattle.lexical.specs.Name.{is_name}
use Rattle.lexical.specs.Number.{begins_number, number_in}
use Rattle.lexical.specs.Operand.{parenthesized}
use Rattle.isa.specs.declared.listing.fault.FaultKind.{FaultKind}
use Rattle.isa.specs.declared.listing.fault.FaultKind.TheVariants.{BadOperands, BadNumber}
use Rattle.isa.specs.Reading.{◌>>=◌}
use Rattle.isa.specs.RegisterNames.{register}

-- a number modulo 2^32, at most `below` after a minus, and at most `above` without one
unfoldable pub number : ℕ → ℕ → List ℕ → Result ℕ FaultKind
number below above text =
    if begins_number text then ok_or (number_in below above text) BadNumber else Err BadOperands

-- a number of 16 bits with a sign
abbrev pub signed_half : List ℕ → Result ℕ FaultKind
signed_half text = number 32768 32767 text

-- the name of a label
abbrev pub label : List ℕ → Result (List ℕ) FaultKind
label text = if is_name text then Ok text else Err BadOperands

-- an offset, which may be left out
abbrev pub offset : List ℕ → Result ℕ FaultKind
offset text = if length text == 0 then Ok 0 else signed_half text

-- the offset and the register of an operand `offset(register)`
unfoldable pub offset_and_register : List ℕ → Result (ℕ × ℕ) FaultKind
offset_and_register text = do
  parts ← ok_or (parenthesized text) BadOperands
  n ← offset parts.0
  r ← register parts.1
  Ok (n, r)
