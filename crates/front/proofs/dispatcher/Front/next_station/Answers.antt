use Rattle.std.proofs.Common.{◌≡◌, ◌<◌, sym, ap, ◌∙◌, subst, arith}
use Rattle.std.specs.List.{AllByRecursion}
use Rattle.inorder.specs.Unit.{next_station, recent}
use Rattle.station.specs.Seats.{TheCore}
use Rattle.front.specs.Fronts.{TheFront, front_unit}
use Rattle.front.specs.Path.{station_of_next}
use Rattle.front.proofs.GoingOn.{station_ahead, stations_ahead}
use Rattle.front.proofs.dispatcher.Front.next_station.Goals as goal

pub next_station-requires-clause-inside : goal.next_station-requires-clause-inside
next_station-requires-clause-inside g c =
    let f = c.self.inside in
    let core = ap (λ (v : TheFront g.row.P.Denot). v.core) c.self.view_is in
    let seen = ap (λ (v : TheFront g.row.P.Denot). v.seen) c.self.view_is in
    let ring : f.seat.core.sizes.ring ≡ c.ring.result = ap (λ (k : TheCore). k.sizes.ring) (core ∙ c.requires) ∙ sym c.ring.ensures.value in
    subst (λ n. AllByRecursion (λ x. x.station < n) f.path.records) ring
    (stations_ahead f.program.now f.seat f.path f.creators.counted f.rested c.args.self.now c.self.invariant (sym core) (sym seen) (omega (arith, c.ring.ensures.least)))

pub returns : goal.returns
returns g c =
    let f = c.self.inside in
    let core = ap (λ (v : TheFront g.row.P.Denot). v.core) c.self.view_is in
    let seen = ap (λ (v : TheFront g.row.P.Denot). v.seen) c.self.view_is in
    let ring : c.ring.result ≡ f.seat.core.sizes.ring = c.ring.ensures.value ∙ ap (λ (k : TheCore). k.sizes.ring) (sym (core ∙ c.requires)) in
    let its : c.next_station.result ≡ station_of_next f.seat.core.sizes.ring f.path.base f.path.records = c.next_station.ensures.value ∙ ap (λ n. station_of_next n f.path.base f.path.records) ring in
    station_ahead f.program.now f.seat f.path f.creators.counted f.rested c.args.self.now c.self.invariant (sym core) (sym seen) c.next_station.result its
    ∙ ap (λ (k : TheCore). next_station k.sizes (recent (front_unit c.args.self.now))) c.requires
