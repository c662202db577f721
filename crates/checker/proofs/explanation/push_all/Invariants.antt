use Rattle.std.proofs.Common.{ℕ, List, drop}
use Rattle.checker.specs.Diagnostics.{AreExplained}
use Rattle.checker.proofs.explanation.push_all.Given as goal

-- the diagnostics of the other faults behind this text make all of them
abbrev pub invariant-loop-fault : goal.invariant-loop-fault
invariant-loop-fault l =
    (new : List ℕ) → AreExplained l.source.file.now l.source.bytes.now (drop l.fault-index l.faults) l.text.items new
    → AreExplained l.source.file.now l.source.bytes.now l.faults l.initial.text.items new
