use Rattle.station.specs.Wakeup.{Finds}
use Rattle.station.proofs.steps.wakeup.Call+FrontPart.look_at_creator.Given as goal

abbrev pub ghosts-load : goal.ghosts-load
ghosts-load a = record { kind = λ n P C. Finds P C a.about.0 a.about.1 a.about.2 a.about.3 a.about.4 n }
