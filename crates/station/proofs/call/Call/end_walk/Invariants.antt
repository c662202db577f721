use Rattle.station.specs.Carrying.{EndsWalk}
use Rattle.station.proofs.call.Call.end_walk.Given as goal

abbrev pub ghosts-load : goal.ghosts-load
ghosts-load g a = record { kind = λ n P C. EndsWalk P C a.about.0 a.about.1 }
