use Rattle.ruu_words.specs.Fields.{tag_of}
use Rattle.station.specs.Wakeup.{Ends}
use Rattle.station.proofs.steps.wakeup.Call+FrontPart.take_value.Given as goal

abbrev pub ghosts-exchange : goal.ghosts-exchange
ghosts-exchange a = record { kind = λ n P C. Ends P C a.about.0 (tag_of a.old) a.about.1 a.old n }
