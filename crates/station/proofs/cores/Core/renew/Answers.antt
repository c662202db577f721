use Rattle.std.proofs.Common.{ap, ◌∙◌}
use Rattle.station.specs.Seats.{Caller}
use Rattle.station.specs.Renewals.{seats_of}
use Rattle.station.proofs.Renewing.{opens_renewed, renewal_is, setup_unit}
use Rattle.station.proofs.cores.Core.renew.Goals as goal

pub first_table-requires-clause-opening : goal.first_table-requires-clause-opening
first_table-requires-clause-opening c =
    let core = c.args.self in
    let table = c.apart-table.result.0 in
    let setup = c.apart-table.result.1 in
    let views = ap (λ b. b.views) c.apart-table.ensures.opening ∙ c.into_badge.ensures.2 in
    let seen = ap (λ (z : Caller). z.seen) c.front.view_is in
    opens_renewed core setup c.front.inside.seat.me.0 c.gather.new.front.seen (seats_of c.args.front c.args.back c.args.unit)
    (setup_unit table.shared.table_id table.shared.key setup core c.apart-table.ensures.core c.apart-table.ensures.kept) views seen c.gather.ensures.seen c.requires.nobody c.requires.goes_on

pub deal-requires-clause-opening : goal.deal-requires-clause-opening
deal-requires-clause-opening c =
    let core = c.args.self in
    let table = c.apart-table.result.0 in
    let setup = c.apart-table.result.1 in
    let views = ap (λ b. b.views) c.apart-table.ensures.opening ∙ c.into_badge.ensures.2 in
    let seen = ap (λ (z : Caller). z.seen) c.front.view_is in
    opens_renewed core setup c.front.inside.seat.me.0 c.gather.new.front.seen (seats_of c.args.front c.args.back c.args.unit)
    (setup_unit table.shared.table_id table.shared.key setup core c.apart-table.ensures.core c.apart-table.ensures.kept) views seen c.gather.ensures.seen c.requires.nobody c.requires.goes_on

pub returns-in-Ok-clause-ok : goal.returns-in-Ok-clause-ok
returns-in-Ok-clause-ok c =
    let core = c.args.self in
    let table = c.apart-table.result.0 in
    let setup = c.apart-table.result.1 in
    let views = ap (λ b. b.views) c.apart-table.ensures.opening ∙ c.into_badge.ensures.2 in
    let seen = ap (λ (z : Caller). z.seen) c.front.view_is in
    renewal_is core setup c.front.inside.seat.me.0 c.gather.new.front.seen (seats_of c.args.front c.args.back c.args.unit)
    (setup_unit table.shared.table_id table.shared.key setup core c.apart-table.ensures.core c.apart-table.ensures.kept) views seen c.gather.ensures.seen c.requires.nobody c.requires.goes_on
    c.in-Ok.new.shared.table_id c.deal.result.0 (seats_of c.deal.result.1 c.deal.result.2 c.deal.result.3) c.deal.ensures.core c.deal.ensures.seats
