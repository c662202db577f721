use Rattle.std.proofs.Common.{◌≡◌, ◌++◌, drop, string_bytes}
use Rattle.isa.specs.Report.{register_lines}
use Rattle.isa.proofs.report.push_registers.Given as goal

-- the text so far and the lines to come are the whole text
abbrev pub invariant-loop-r : goal.invariant-loop-r
invariant-loop-r l =
    string_bytes l.out ++ register_lines l.r (drop l.r l.registers)
    ≡ string_bytes l.fn.out ++ register_lines 0 l.registers
