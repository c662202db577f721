use Rattle.std.proofs.Common.{◌<◌, ◌-◌, length, sym, ap, ◌∙◌, arith}
use Rattle.front.specs.Path.{place_after}
use Rattle.front.proofs.Named.{all_get}
use Rattle.front.proofs.path.Path.next_station.Goals as goal

pub wrapped-requires : goal.wrapped-requires
wrapped-requires c =
    let records = c.args.self.now.records in
    let small : c.in-Some.record.station < c.args.ring =
    all_get (λ x. x.station < c.args.ring) records c.requires.inside (length records - 1) c.in-Some.record (sym c.last.ensures ∙ c.in-Some.is) in
    omega (arith, small)

pub returns-in-Some-clause-value : goal.returns-in-Some-clause-value
returns-in-Some-clause-value c =
    let last = ap (place_after c.args.ring c.args.self.now.base.station) (sym c.last.ensures ∙ c.in-Some.is) in
    c.wrapped.ensures.value ∙ sym last
