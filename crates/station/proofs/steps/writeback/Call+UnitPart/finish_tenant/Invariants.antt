use Rattle.ruu_words.specs.Fields.{tag_of}
use Rattle.ruu_words.specs.Kinds.{Finishes}
use Rattle.station.proofs.steps.writeback.Call+UnitPart.finish_tenant.Given as goal

abbrev pub ghosts-exchange : goal.ghosts-exchange
ghosts-exchange a = record { kind = λ n P C. Finishes P C a.about.0 (tag_of a.old) a.about.1 a.old n }
