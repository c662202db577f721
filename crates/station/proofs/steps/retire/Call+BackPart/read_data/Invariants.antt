use Rattle.station.specs.Retirement.{FindsData}
use Rattle.station.proofs.steps.retire.Call+BackPart.read_data.Given as goal

abbrev pub ghosts-load : goal.ghosts-load
ghosts-load a = record { kind = λ n P C. FindsData P C a.about n }
