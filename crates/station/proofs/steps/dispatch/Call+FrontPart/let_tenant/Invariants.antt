use Rattle.ruu_words.specs.Kinds.{Lets}
use Rattle.station.specs.Letting.{supply_of}
use Rattle.station.proofs.steps.dispatch.Call+FrontPart.let_tenant.Given as goal

abbrev pub ghosts-store : goal.ghosts-store
ghosts-store a = record { kind = λ n P C. Lets P C a.about.index a.about.predicted (supply_of a.about.sources.0) (supply_of a.about.sources.1) }
