use Rattle.station.specs.Retirement.{LooksAtHead}
use Rattle.station.proofs.steps.retire.Call+BackPart.look_at_head.Given as goal

abbrev pub ghosts-load : goal.ghosts-load
ghosts-load a = record { kind = λ n P C. LooksAtHead P C a.self.now.view.by a.about n }
