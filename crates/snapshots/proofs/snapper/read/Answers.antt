use Rattle.snapshots.proofs.Steps.{looks}
use Rattle.snapshots.proofs.snapper.read.Goals as goal

pub enter_as-requires : goal.enter_as-requires
enter_as-requires g c published = looks _ _ _ published
