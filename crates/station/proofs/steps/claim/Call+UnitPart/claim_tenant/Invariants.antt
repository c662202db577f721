use Rattle.ruu_words.specs.Fields.{tag_of}
use Rattle.ruu_words.specs.Kinds.{Claims}
use Rattle.station.proofs.steps.claim.Call+UnitPart.claim_tenant.Given as goal

abbrev pub ghosts-exchange : goal.ghosts-exchange
ghosts-exchange a = record { kind = λ n P C. Claims P C a.about (tag_of a.old) a.old n }
