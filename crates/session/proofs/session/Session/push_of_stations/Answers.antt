use Rattle.std.proofs.Common.{inr}
use Rattle.session.proofs.Looks.{may_on}
use Rattle.session.proofs.session.Session.push_of_stations.Goals as goal

pub loop-station-preserved : goal.loop-station-preserved
loop-station-preserved g c =
    let at = c.loop-station in
    inr (may_on c.args.self.now at.self c.push_of_station.new.self at.invariant c.in_ok-push_of_station.ensures)
