use Rattle.std.proofs.Common.{inr}
use Rattle.session.proofs.Looks.{looks_on, on_may}
use Rattle.session.proofs.session.Session.choices.Goals as goal

pub returns-clause-looks : goal.returns-clause-looks
returns-clause-looks g c =
    let old = c.args.self.now in
    let one = c.push_turn.new.self in
    let two = c.push_of_stations.new.self in
    inr (looks_on old two c.push_commit.new.self (on_may old one two c.in_ok-push_turn.ensures c.in_ok-push_of_stations.ensures) c.in_ok-push_commit.ensures)
