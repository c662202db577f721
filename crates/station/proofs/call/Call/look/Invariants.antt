use Rattle.station.specs.Steps.{Sees}
use Rattle.station.proofs.call.Call.look.Given as goal

abbrev pub ghosts-load : goal.ghosts-load
ghosts-load g a = record { kind = λ n P C. Sees P C a.self.now.view.by a.self.now.view a.place n }
