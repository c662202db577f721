use Rattle.station.specs.Retirement.{Leaves}
use Rattle.station.proofs.steps.retire.Call+BackPart.retire_tenant.Given as goal

abbrev pub ghosts-swap : goal.ghosts-swap
ghosts-swap a = record { kind = λ n P C. Leaves P C a.about }
