use Rattle.std.proofs.Common.{ap, refl, ◌∙◌}
use Rattle.inorder.specs.declared.history.Act.TheVariants.{Speculate}
use Rattle.inorder.specs.declared.history.Speculation.TheVariants.{Flush}
use Rattle.replay.specs.Shown.{standing_of}
use Rattle.replay.proofs.Found.{none_behind}
use Rattle.replay.proofs.Laid.{get_below}
use Rattle.replay.proofs.Acted.{both_in_flight, left_at, may_at, replaces_in}
use Rattle.replay.proofs.unit.Unit.flush.Goals as goal

pub live_behind-requires : goal.live_behind-requires
live_behind-requires c = get_below c.args.self.now.tenants.items c.args.who c.in_ok-tenant.tenant c.in_ok-tenant.ensures.is

pub returns-in-Some-clause-err : goal.returns-in-Some-clause-err
returns-in-Some-clause-err c =
    both_in_flight c.args.self.now c.args.who c.in_ok-tenant.tenant c.in-Some.younger _ c.in_ok-tenant.ensures.is
    c.in_ok-tenant.ensures.live c.in-Some.ensures.behind c.in-Some.ensures.some

pub put-requires : goal.put-requires
put-requires c =
    replaces_in c.args.self.now c.args.who c.in_ok-tenant.tenant _ c.in_ok-tenant.ensures.is c.in_ok-tenant.ensures.live refl refl refl

pub returns-clause-ok : goal.returns-clause-ok
returns-clause-ok c =
    let hs = c.args.self.now.tenants.items in
    let inside = get_below hs c.args.who c.in_ok-tenant.tenant c.in_ok-tenant.ensures.is in
    may_at c.args.self.now c.args.who c.in_ok-tenant.tenant _ c.in_ok-tenant.ensures.is (record {
      live = ap standing_of c.in_ok-tenant.ensures.live;
      youngest = none_behind hs c.args.who inside c.in-None.ensures.none;
    })

pub returns-clause-done : goal.returns-clause-done
returns-clause-done c =
    left_at c.args.self.now c.args.who c.in_ok-tenant.tenant _ _ (Speculate Flush) c.in_ok-tenant.ensures.is
    (ap (λ v. v.items) c.settle.ensures.tenants ∙ c.put.ensures.items) refl
