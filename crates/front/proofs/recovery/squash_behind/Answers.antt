-- Squashes from the tail on.
use Rattle.std.proofs.Common.{◌≡◌, ◌<◌, ◌+◌, ◌-◌, [], ◌∷◌, ◌++◌, length, take, sym, ap, ◌∙◌, subst, arith, length-append}
use Rattle.inorder.specs.History.{front, unit_of}
use Rattle.station.specs.Recovery.{WasSquashed}
use Rattle.front.specs.Knows.{FrontKnows}
use Rattle.front.specs.Recoveries.{IsMissAt}
use Rattle.front.proofs.FirstMiss.{take_fewer}
use Rattle.front.proofs.Popping.{popped}
use Rattle.front.proofs.Recovered.{cut_more, squash_allowed, squash_done, squash_table_done}
use Rattle.front.proofs.Touches.{touched_more, touched_within}
use Rattle.front.proofs.recovery.squash_behind.Goals as goal

pub squash-station-requires-clause-may : goal.squash-station-requires-clause-may
squash-station-requires-clause-may c =
    let P = c.args.core.now.program in
    let C = c.args.core.now.sizes in
    let inv = c.loop-missed.invariant in
    let records = c.loop-missed.path.records in
    let many : c.args.missed.at + 1 < length records = omega (arith, c.loop-missed-test.true, c.len.ensures.value) in
    let one = popped records (omega (arith, many)) in
    let knows : FrontKnows P C (unit_of P C c.loop-missed.seat.seen) (one.rest ++ one.last ∷ []) c.loop-missed.path.base = subst
    (λ z. FrontKnows P C (unit_of P C c.loop-missed.seat.seen) z c.loop-missed.path.base) one.is inv.knows in
    let miss : IsMissAt P C c.loop-missed.seat.seen (one.rest ++ one.last ∷ []) c.args.missed = subst (λ z. IsMissAt P C c.loop-missed.seat.seen z c.args.missed) one.is inv.miss in
    squash_allowed P C c.loop-missed.seat.seen inv.legal one.rest one.last c.loop-missed.path.base knows c.args.missed miss (subst (λ z. c.args.missed.at + 1 < length z) one.is many)

pub loop-missed-preserved : goal.loop-missed-preserved
loop-missed-preserved c =
    let P = c.args.core.now.program in
    let C = c.args.core.now.sizes in
    let inv = c.loop-missed.invariant in
    let records = c.loop-missed.path.records in
    let base = c.loop-missed.path.base in
    let old = c.loop-missed.seat.seen in
    let new = c.squash-station.new.seat.seen in
    let m = c.args.missed in
    let many : m.at + 1 < length records = omega (arith, c.loop-missed-test.true, c.len.ensures.value) in
    let one = popped records (omega (arith, many)) in
    let same : c.pop.new.self ≡ one.rest = c.pop.ensures.kept ∙ sym one.rest_is in
    let knows : FrontKnows P C (unit_of P C old) (one.rest ++ one.last ∷ []) base = subst (λ z. FrontKnows P C (unit_of P C old) z base) one.is inv.knows in
    let miss : IsMissAt P C old (one.rest ++ one.last ∷ []) m = subst (λ z. IsMissAt P C old z m) one.is inv.miss in
    let squashed : WasSquashed P C front c.squash-station.result.0 c.squash-station.result.1 old new = subst (λ i. WasSquashed P C i c.squash-station.result.0 c.squash-station.result.1 old new)
    (inv.same.by ∙ c.requires.by) c.squash-station.ensures.reply in
    let done = squash_done P C old new one.rest one.last base knows m miss (subst (λ z. m.at + 1 < length z) one.is many) c.squash-station.result.0 c.squash-station.result.1 squashed in
    let kept = c.squash-station.ensures.kept in
    let long = length-append one.rest (one.last ∷ []) in
    let whole : length records ≡ length (one.rest ++ one.last ∷ []) = ap (λ z. length z) one.is in
    let left : length c.pop.new.self ≡ length one.rest = ap (λ z. length z) same in
    record {
      core = kept.core ∙ inv.core;
      same = record { core = kept.core ∙ inv.same.core; by = kept.by ∙ inv.same.by };
      legal = done.adds.legal;
      cut = cut_more P C c.args.seat.now.seen old new (c.len-all.result - length records) (c.len-all.result - length c.pop.new.self) inv.cut done.p done.adds
          (omega (arith, inv.fewer, long, whole, left));
      knows = subst (λ z. FrontKnows P C (unit_of P C new) z base) (sym same) done.knows;
      miss = subst (λ z. IsMissAt P C new z m) (sym same) done.miss;
      long = omega (arith, many, long, whole, left);
      kept = ap (take (m.at + 1)) same ∙ (sym (take_fewer one.rest one.last (m.at + 1) (omega (arith, many, long, whole))) ∙ (ap (take (m.at + 1)) (sym one.is) ∙ inv.kept));
      fewer = omega (arith, inv.fewer, long, whole, left);
      table = squash_table_done P C old new one.rest one.last base knows c.squash-station.result.0 c.squash-station.result.1 squashed c.loop-missed.creators.table c.restore.new.self.table inv.table
          c.restore.ensures.table;
      base = inv.base;
      touched = touched_within _ _ _ _ (omega (arith, inv.fewer, long, whole, left)) (touched_more _ _ _ _ _ inv.touched c.restore.ensures.touched);
    }
