use Rattle.std.proofs.Common.{◌≡◌, length}
use Rattle.lexical.specs.Blank.{trim_start}
use Rattle.lexical.proofs.blank.trim_start.Given as goal

abbrev pub invariant-loop-rest : goal.invariant-loop-rest
invariant-loop-rest l = trim_start l.rest ≡ trim_start l.text

abbrev pub decreases-loop-rest : goal.decreases-loop-rest
decreases-loop-rest l = length l.rest
