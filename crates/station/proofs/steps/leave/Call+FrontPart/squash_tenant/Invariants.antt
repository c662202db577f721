use Rattle.station.specs.Recovery.{Squashes}
use Rattle.station.proofs.steps.leave.Call+FrontPart.squash_tenant.Given as goal

abbrev pub ghosts-swap : goal.ghosts-swap
ghosts-swap a = record { kind = λ n P C. Squashes P C a.about.0 a.about.1 }
