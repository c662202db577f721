use Rattle.std.proofs.Common.{◌≡◌, ◌++◌, drop}
use Rattle.std.specs.Prelude.{flat_map}
use Rattle.checker.specs.Spots.{escape}
use Rattle.checker.proofs.file_name.push_escapes.Given as goal

-- the text so far and the escapes of the other bytes make the whole
abbrev pub invariant-loop-byte : goal.invariant-loop-byte
invariant-loop-byte l = l.text.items ++ flat_map escape (drop l.byte-index l.bytes) ≡ l.fn.text.items ++ flat_map escape l.bytes
