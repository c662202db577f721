-- The records go to the base registers.
use Rattle.std.proofs.Common.{◌<◌, [], sym, ◌∙◌, subst, arith}
use Rattle.instructions.specs.Guesses.{IsTold}
use Rattle.inorder.specs.History.{front}
use Rattle.inorder.specs.OneHistory.{Adds}
use Rattle.inorder.proofs.Histories.{adds_on}
use Rattle.front.specs.Path.{Released}
use Rattle.front.proofs.Folding.{IsAnyone, fold_more, nobody_now, none_left, taken_out, told_all, told_more}
use Rattle.front.proofs.Named.{all_get, small_stations}
use Rattle.front.proofs.rest.fold_all.Goals as goal

pub look-seen-requires-clause-station : goal.look-seen-requires-clause-station
look-seen-requires-clause-station g c =
    let P = c.args.core.now.program in
    let C = c.args.core.now.sizes in
    let inv = c.loop-oldest.invariant in
    all_get (λ x. x.station < C.ring) c.loop-oldest.path.records (small_stations P C c.loop-oldest.seat.seen inv.adds.legal c.loop-oldest.path.records c.loop-oldest.path.base IsAnyone
    inv.folding.stands (omega (arith, c.requires.least))) 0 c.in-Some.oldest (sym c.at.ensures ∙ c.in-Some.is)

pub loop-oldest-preserved : goal.loop-oldest-preserved
loop-oldest-preserved g c =
    let core = c.args.core.now in
    let P = core.program in
    let C = core.sizes in
    let inv = c.loop-oldest.invariant in
    let old = c.loop-oldest.seat.seen in
    let new = c.look-seen.new.seat.seen in
    let path = c.loop-oldest.path in
    let mine : Adds P C front old new [] = subst (λ i. Adds P C i old new []) (inv.same.by ∙ c.requires.by) c.look-seen.ensures.history in
    let out : Released c.look-seen.result.value path c.in-Some.oldest c.fold.new.self = taken_out c.look-seen.result.value path c.fold.new.self c.in-Some.oldest c.fold.result c.fold.ensures.some
    c.fold.ensures.none (sym c.at.ensures ∙ c.in-Some.is) in
    let kept = c.look-seen.ensures.kept in
    record {
      core = kept.core ∙ inv.core;
      same = record { core = kept.core ∙ inv.same.core; by = kept.by ∙ inv.same.by };
      adds = adds_on P C front c.args.seat.now.seen old new [] [] inv.adds mine;
      folding = fold_more core old new path c.fold.new.self mine inv.folding inv.nobody c.in-Some.oldest c.look-seen.result c.look-seen.ensures.reply out;
      nobody = nobody_now core old new path c.fold.new.self mine inv.folding inv.nobody;
      told = told_more g.P.Predictor.Learns c.args.path.now.records path.records c.fold.new.self.records c.in-Some.oldest c.args.predictor.now c.loop-oldest.predictor c.tell.new.predictor inv.told
          out.records (subst (λ l. IsTold g.P.Predictor.Learns l c.loop-oldest.predictor c.tell.new.predictor) c.leaver-leaver.ensures c.tell.ensures);
    }

pub returns-clause-none : goal.returns-clause-none
returns-clause-none g c = none_left c.loop-oldest.path.records (sym c.at.ensures ∙ c.in_default.is)

pub returns-clause-tells : goal.returns-clause-tells
returns-clause-tells g c =
    told_all g.P.Predictor.Learns c.args.path.now.records c.loop-oldest.path.records c.args.predictor.now c.loop-oldest.predictor c.loop-oldest.invariant.told
    (none_left c.loop-oldest.path.records (sym c.at.ensures ∙ c.in_default.is))
