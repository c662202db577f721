use Rattle.std.proofs.Common.{◌≡◌, ◌≤◌, length, take}
use Rattle.lsq.specs.Entries.{bytes}
use Rattle.lsq.specs.LoadRule.{overlaps, youngest}
use Rattle.lsq.proofs.answer.youngest_overlapping.Given as goal

abbrev pub invariant-loop-at : goal.invariant-loop-at
invariant-loop-at l =
    let test = overlaps l.address (bytes l.width) in
    (l.at ≤ length l.older) × (youngest test l.older ≡ youngest test (take l.at l.older))

abbrev pub decreases-loop-at : goal.decreases-loop-at
decreases-loop-at l = l.at
