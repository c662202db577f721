use Rattle.ruu_words.specs.Fields.{tag_of}
use Rattle.ruu_words.specs.Kinds.{Rechecks}
use Rattle.station.proofs.steps.claim.Call+UnitPart.recheck.Given as goal

abbrev pub ghosts-load : goal.ghosts-load
ghosts-load a = record { kind = λ n P C. Rechecks P C a.about.0 (tag_of a.about.1) a.about.1 n }
