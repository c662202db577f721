use Rattle.station.specs.Recovery.{Mends}
use Rattle.station.proofs.steps.leave.Call+FrontPart.mend_tenant.Given as goal

abbrev pub ghosts-swap : goal.ghosts-swap
ghosts-swap a = record { kind = λ n P C. Mends P C a.about }
