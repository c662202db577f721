use Rattle.session.proofs.Workers.{all_at_work}
use Rattle.session.proofs.session.Session.end.Goals as goal

pub end_units-requires : goal.end_units-requires
end_units-requires g c = all_at_work c.self.inside.core c.self.inside.units.items c.self.invariant.workers
