use Rattle.std.proofs.Common.{◌≡◌, length}
use Rattle.lexical.specs.Label.{statement_of}
use Rattle.checker.proofs.parts.parts_of.Given as goal

abbrev pub invariant-loop-behind : goal.invariant-loop-behind
invariant-loop-behind l = statement_of l.rest ≡ statement_of l.code

abbrev pub decreases-loop-behind : goal.decreases-loop-behind
decreases-loop-behind l = length l.rest
