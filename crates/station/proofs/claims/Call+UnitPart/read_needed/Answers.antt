use Rattle.std.proofs.Common.{◌≡◌, true, rules}
use Rattle.station.proofs.ClaimLooks.{source_answers}
use Rattle.station.proofs.claims.Call+UnitPart.read_needed.Goals as goal

pub returns-clause-answer : goal.returns-clause-answer
returns-clause-answer c =
    let v = c.args.self.now in
    let needed : c.args.needed ≡ true = search rules in
    source_answers v.core.program v.core.sizes v.view.by v.view c.read_source-word.new.self.view c.args.station c.args.tag c.args.k c.args.needed c.read_source-word.result
    c.read_source-word.ensures.grows c.source_says.result c.source_says.ensures needed
