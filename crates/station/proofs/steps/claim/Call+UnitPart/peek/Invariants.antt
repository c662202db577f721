use Rattle.ruu_words.specs.Kinds.{Peeks}
use Rattle.station.proofs.steps.claim.Call+UnitPart.peek.Given as goal

abbrev pub ghosts-load : goal.ghosts-load
ghosts-load a = record { kind = λ n P C. Peeks P C a.about n }
