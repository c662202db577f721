use Rattle.station.specs.Wakeup.{Links}
use Rattle.station.proofs.steps.wakeup.Call+FrontPart.store_link.Given as goal

abbrev pub ghosts-store : goal.ghosts-store
ghosts-store a = record { kind = λ n P C. Links P C a.about.0 a.about.1 a.about.2 }
