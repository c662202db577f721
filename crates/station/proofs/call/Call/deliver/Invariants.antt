use Rattle.ruu_words.specs.Fields.{tag_of}
use Rattle.ruu_words.specs.Kinds.{Delivers}
use Rattle.station.proofs.call.Call.deliver.Given as goal

abbrev pub ghosts-exchange : goal.ghosts-exchange
ghosts-exchange g a = record { kind = λ n P C. Delivers P C a.about.0 a.about.1 (tag_of a.old) a.old n }
