use Rattle.std.proofs.Common.{◌≡◌, ◌++◌, drop}
use Rattle.std.specs.Prelude.{flat_map}
use Rattle.checker.specs.Spots.{shown}
use Rattle.checker.proofs.spot.push_shown.Given as goal

-- the text so far and the bytes still to be shown make the whole
abbrev pub invariant-loop-byte : goal.invariant-loop-byte
invariant-loop-byte l =
    l.text.items ++ flat_map shown (drop l.byte-index l.bytes) ≡ l.fn.text.items ++ flat_map shown l.bytes
