-- The scan for a miss.
use Rattle.std.proofs.Common.{◌≡◌, ◌<◌, false, [], sym, ◌∙◌, refl, subst, arith}
use Rattle.inorder.specs.History.{front, unit_of}
use Rattle.inorder.specs.OneHistory.{Adds}
use Rattle.inorder.proofs.Histories.{adds_on}
use Rattle.front.specs.Knows.{FrontKnows}
use Rattle.front.specs.Recoveries.{may_miss}
use Rattle.front.proofs.Misses.{all_one_more, is_miss, no_jump_misses, was_none}
use Rattle.front.proofs.Named.{all_get, small_stations}
use Rattle.front.proofs.Stays.{still_knows}
use Rattle.front.proofs.recovery.find_miss.Goals.{After-look-seen}
use Rattle.front.proofs.recovery.find_miss.Goals as goal

pub look-seen-requires-clause-station : goal.look-seen-requires-clause-station
look-seen-requires-clause-station c =
    let P = c.args.core.now.program in
    let C = c.args.core.now.sizes in
    let inv = c.loop-at.invariant in
    all_get (λ x. x.station < C.ring) c.args.path.now.records (small_stations P C c.loop-at.seat.seen inv.adds.legal c.args.path.now.records c.args.path.now.base _ inv.knows
    (omega (arith, c.requires.least))) c.loop-at.at c.in-Some.record (sym c.at.ensures ∙ c.in-Some.is)

-- The miss bit of a record was looked at

looked : (c : After-look-seen) → Adds c.args.core.now.program c.args.core.now.sizes front c.loop-at.seat.seen c.look-seen.new.seat.seen []
looked c =
    let inv = c.loop-at.invariant in
    subst (λ i. Adds c.args.core.now.program c.args.core.now.sizes i c.loop-at.seat.seen c.look-seen.new.seat.seen []) (inv.same.by ∙ c.requires.by)
    c.look-seen.ensures.history

whole : (c : After-look-seen) → Adds c.args.core.now.program c.args.core.now.sizes front c.args.seat.now.seen c.look-seen.new.seat.seen []
whole c =
    let old = c.args.seat.now.seen in
    let new = c.look-seen.new.seat.seen in
    adds_on c.args.core.now.program c.args.core.now.sizes front old c.loop-at.seat.seen new [] [] c.loop-at.invariant.adds (looked c)

knows_on : (c : After-look-seen) → FrontKnows c.args.core.now.program c.args.core.now.sizes (unit_of c.args.core.now.program c.args.core.now.sizes c.look-seen.new.seat.seen)
    c.args.path.now.records c.args.path.now.base
knows_on c =
    let P = c.args.core.now.program in
    let C = c.args.core.now.sizes in
    let records = c.args.path.now.records in
    let base = c.args.path.now.base in
    still_knows (looked c) c.loop-at.invariant.knows

pub returns-in-Miss-clause-history : goal.returns-in-Miss-clause-history
returns-in-Miss-clause-history c = whole (goal.at.returns-in-Miss-clause-history c).After-look-seen

pub returns-in-Miss-clause-reply : goal.returns-in-Miss-clause-reply
returns-in-Miss-clause-reply c =
    let P = c.args.core.now.program in
    let C = c.args.core.now.sizes in
    let records = c.args.path.now.records in
    let base = c.args.path.now.base in
    let new = c.look-seen.new.seat.seen in
    let place = (goal.at.returns-in-Miss-clause-reply c).After-look-seen in
    let legal = (looked place).legal in
    let knows = knows_on place in
    let here = sym c.at.ensures ∙ c.in-Some.is in
    record {
      miss = record {
        one = c.in-Some.record;
        here = here;
        station = refl;
        small = all_get (λ x. x.station < C.ring) records (small_stations P C new legal records base _ knows (omega (arith, c.requires.least))) c.loop-at.at c.in-Some.record here;
        miss = is_miss P C new legal records base knows c.loop-at.at c.in-Some.record c.look-seen.result here c.look-seen.ensures.reply c.in-Miss.is;
      };
      first = c.loop-at.invariant.none;
    }

pub loop-at-preserved : goal.loop-at-preserved
loop-at-preserved c =
    let inv = c.loop-at.invariant in
    let kept = c.look-seen.ensures.kept in
    let place = (goal.at.loop-at-preserved c).After-look-seen in
    record {
      core = kept.core ∙ inv.core;
      same = record { core = kept.core ∙ inv.same.core; by = kept.by ∙ inv.same.by };
      adds = whole place;
      knows = knows_on place;
      none = all_one_more _ c.args.path.now.records c.loop-at.at c.in-Some.record inv.none (sym c.at.ensures ∙ c.in-Some.is)
          (was_none c.args.core.now.program c.args.core.now.sizes c.args.seat.now.seen c.look-seen.new.seat.seen c.in-Some.record c.look-seen.result (whole place) c.look-seen.ensures.reply
          c.in_default-state.not-Miss);
    }

pub loop-at-preserved-then-not-may_miss : goal.loop-at-preserved-then-not-may_miss
loop-at-preserved-then-not-may_miss c =
    let P = c.args.core.now.program in
    let C = c.args.core.now.sizes in
    let inv = c.loop-at.invariant in
    let records = c.args.path.now.records in
    let here = sym c.at.ensures ∙ c.in-Some.is in
    let none : may_miss c.in-Some.record ≡ false = grind (arith, c.may_miss.ensures, c.if-not-may_miss.true) in
    record {
      core = inv.core;
      same = inv.same;
      adds = inv.adds;
      knows = inv.knows;
      none = all_one_more _ records c.loop-at.at c.in-Some.record inv.none here
          (no_jump_misses P C c.args.seat.now.seen c.requires.legal records c.args.path.now.base c.requires.knows c.loop-at.at c.in-Some.record here none);
    }
