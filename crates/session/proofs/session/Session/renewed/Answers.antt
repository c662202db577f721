use Rattle.std.proofs.Common.{ap, rules, subst, sym}
use Rattle.session.specs.Moments.{GrowsLegally}
use Rattle.session.specs.Renewals.{HasBegunAgain}
use Rattle.session.specs.Sessions.{TheSession}
use Rattle.session.specs.Workers.{AreWorkers, HasNone}
use Rattle.session.proofs.Renewing.{begun_grows}
use Rattle.session.proofs.Workers.{all_at_work, none_works}
use Rattle.station.specs.Seats.{TheCore}
use Rattle.session.proofs.session.Session.renewed.Goals as goal

pub forget_units-requires : goal.forget_units-requires
forget_units-requires g c = all_at_work c.self.inside.core c.self.inside.units.items c.self.invariant.workers

pub at-session-requires-clause-workers : goal.at-session-requires-clause-workers
at-session-requires-clause-workers g c = none_works c.in-Ok.stage.0 c.forget_units.new.units.items c.forget_units.ensures.none

pub at-session-requires-in-Err-clause-workers : goal.at-session-requires-in-Err-clause-workers
at-session-requires-in-Err-clause-workers g c =
    subst (λ (k : TheCore). AreWorkers k c.self.inside.units.items) (sym c.in-Err.ensures.refused.core_is) c.self.invariant.workers

pub returns-in-Ok : goal.returns-in-Ok
returns-in-Ok g c =
    let inside = c.self.inside in
    let old = c.args.self in
    let t = c.in-Ok.stage in
    let grown = begun_grows inside.core t.0 inside.all.seen t.1.seen inside.back t.3 c.at-session.ensures.legal t.2.trained_upto c.in-Ok.ensures.renewed in
    let seen = subst (λ (s : TheSession). GrowsLegally s.core s.seen t.1.seen) c.self.view_is grown in
    let is = sym c.at-session.ensures.session in
    let from = subst (λ (s : TheSession). HasBegunAgain s.core t.0 s.seen t.1.seen s.commits t.3 t.2.trained_upto) c.self.view_is c.in-Ok.ensures.renewed in
    record {
      grows = subst (λ (s : TheSession). GrowsLegally old.core old.seen s.seen) is seen;
      says = record {
        rested = c.requires.rested;
        begins = subst (λ (s : TheSession). HasBegunAgain old.core s.core old.seen s.seen old.commits s.commits s.trained_upto) is from;
        rests_no_more = ap (λ (s : TheSession). s.rested) c.at-session.ensures.session;
        units = subst (λ (s : TheSession). HasNone s.units) is c.forget_units.ensures.none;
      };
      kept = search rules;
    }
