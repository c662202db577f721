use Rattle.std.proofs.Common.{◌≡◌, ◌++◌, ◌+◌, length, string_bytes}
use Rattle.words.specs.Lines.{data_lines}
use Rattle.words.proofs.lines.push_data.Given as goal

-- the text so far and the lines to come are the whole text
abbrev pub invariant-words : goal.invariant-words
invariant-words l = record {
  room : l.address + length l.rest ≡ length l.bytes;
  text : string_bytes l.out ++ data_lines l.address l.rest ≡ string_bytes l.fn.out ++ data_lines 0 l.bytes;
}

abbrev pub decreases-words : goal.decreases-words
decreases-words l = length l.rest
