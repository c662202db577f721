use Rattle.ruu_words.specs.Kinds.{ReadsSource}
use Rattle.station.proofs.steps.claim.Call+UnitPart.read_source.Given as goal

abbrev pub ghosts-load : goal.ghosts-load
ghosts-load a = record { kind = λ n P C. ReadsSource P C a.about.0 a.about.1 a.about.2 n }
