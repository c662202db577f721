use Rattle.ruu_words.specs.Fields.{tag_of}
use Rattle.ruu_words.specs.Kinds.{Settles}
use Rattle.station.proofs.steps.writeback.Call+BackPart.settle_tenant.Given as goal

abbrev pub ghosts-exchange : goal.ghosts-exchange
ghosts-exchange a = record { kind = λ n P C. Settles P C a.about (tag_of a.old) a.old n }
