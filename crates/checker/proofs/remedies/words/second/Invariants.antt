use Rattle.std.specs.Option.{option_map}
use Rattle.lexical.proofs.Splits.{size_left}
use Rattle.checker.proofs.remedies.words.second.Given as goal

abbrev pub decreases-loop-rest : goal.decreases-loop-rest
decreases-loop-rest l = size_left (option_map (λ t. t.now) l.rest)
