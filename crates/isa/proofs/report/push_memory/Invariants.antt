use Rattle.std.proofs.Common.{◌≡◌, ◌++◌, ◌+◌, length, string_bytes}
use Rattle.isa.specs.Report.{memory_lines}
use Rattle.isa.proofs.report.push_memory.Given as goal

-- the text so far and the lines to come are the whole text
abbrev pub invariant-words : goal.invariant-words
invariant-words l = record {
  room : l.address + length l.rest ≡ length l.memory;
  text : string_bytes l.out ++ memory_lines l.address l.rest ≡ string_bytes l.fn.out ++ memory_lines 0 l.memory;
}

abbrev pub decreases-words : goal.decreases-words
decreases-words l = length l.rest
