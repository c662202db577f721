use Rattle.snapshots.proofs.Steps.{admits}
use Rattle.snapshots.proofs.publisher.Publisher.new.Goals as goal

pub reader-requires : goal.reader-requires
reader-requires g c = admits _
