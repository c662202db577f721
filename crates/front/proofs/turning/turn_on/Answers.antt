use Rattle.std.proofs.Common.{◌≤◌, ℕ, refl, sym, ap, ◌∙◌, subst}
use Rattle.instructions.specs.Guesses.{Guesses}
use Rattle.inorder.specs.History.{unit_of}
use Rattle.front.proofs.Releasing.{ready_now, released_told}
use Rattle.front.proofs.Stays.{still_knows}
use Rattle.front.proofs.TableStays.{still_has_table}
use Rattle.front.proofs.Touches.{touched_more, touched_none}
use Rattle.front.proofs.Turned.{is_let}
use Rattle.front.specs.CreateTable.{HasTable}
use Rattle.front.specs.Path.{Releases, rested_at}
use Rattle.front.specs.Training.{given_or}
use Rattle.front.specs.declared.path.counted.Table.{Table}
use Rattle.front.proofs.turning.turn_on.Goals as goal

pub returns-in-Err-clause-knows : goal.returns-in-Err-clause-knows
returns-in-Err-clause-knows g c = still_knows c.fetch.ensures.history c.requires.knows

pub dispatch-tag-requires-clause-ready : goal.dispatch-tag-requires-clause-ready
dispatch-tag-requires-clause-ready g c =
    let P = c.args.core.now.program in
    let C = c.args.core.now.sizes in
    let path = c.args.path.now in
    let least : 2 ≤ C.ring = subst (λ z. 2 ≤ z) c.ring.ensures.value c.ring.ensures.least in
    let released = subst (λ z. Releases z c.in-Ok.next.last_value path c.release-departed.result c.release-departed.new.self) c.ring.ensures.value c.release-departed.ensures.reply in
    ready_now P C c.fetch.new.seat.seen c.fetch.ensures.history.legal path.records path.base (still_knows c.fetch.ensures.history c.requires.knows) least c.in-Ok.next.last_value
    c.in-Ok.ensures.ok.oldest path refl refl c.release-departed.result c.release-departed.new.self released

pub returns-clause-reply : goal.returns-clause-reply
returns-clause-reply g c =
    let P = c.args.core.now.program in
    let C = c.args.core.now.sizes in
    let path = c.args.path.now in
    let next = c.in-Ok.next in
    let Predicts = given_or c.args.given g.P.Predictor.Predicts in
    let Learns = g.P.Predictor.Learns in
    let told = c.predict-predicted.new.predictor in
    is_let Predicts Learns P C c.args.seat.now.seen c.fetch.new.seat.seen c.dispatch-tag.new.seat.seen path.records path.base c.requires.knows
    c.fetch.ensures.history next c.in-Ok.ensures.ok.oldest c.ring.result c.ring.ensures.value path c.release-departed.new.self refl c.predict-predicted.result c.dispatch-tag.result
    c.dispatch-tag.ensures.reply c.release-departed.result c.release-departed.ensures.reply c.args.predictor.now told
    (subst (λ l. Guesses Predicts Learns l next.instr next.half next.pc c.predict-predicted.result c.args.predictor.now told) c.leaver-leaver.ensures c.predict-predicted.ensures)

pub returns-in-Err-clause-table : goal.returns-in-Err-clause-table
returns-in-Err-clause-table g c = still_has_table c.fetch.ensures.history c.requires.table

pub dispatch-tag-requires-clause-table : goal.dispatch-tag-requires-clause-table
dispatch-tag-requires-clause-table g c =
    let d = c.args.core.now in
    let told = released_told c.ring.result c.in-Ok.next.last_value c.args.path.now c.release-departed.result c.release-departed.new.self c.release-departed.ensures.reply in
    subst (λ (z : ℕ × Table). HasTable d.program (unit_of d.program d.sizes c.fetch.new.seat.seen) z.0 z.1) (λ i. (sym told i, sym c.release-departed.ensures.table i))
    (still_has_table c.fetch.ensures.history c.requires.table)

pub returns-clause-touched : goal.returns-clause-touched
returns-clause-touched g c =
    touched_more 1 8 c.args.creators.now.touched c.release-departed.new.creators.touched c.dispatch-tag.new.creators.touched c.release-departed.ensures.touched c.dispatch-tag.ensures.touched

pub returns-in-Err-clause-touched : goal.returns-in-Err-clause-touched
returns-in-Err-clause-touched g c = touched_none _ _ _ refl

pub returns-clause-trained_upto : goal.returns-clause-trained_upto
returns-clause-trained_upto g c =
    ap rested_at c.dispatch-tag.ensures.base
    ∙ released_told c.ring.result c.in-Ok.next.last_value c.args.path.now c.release-departed.result c.release-departed.new.self c.release-departed.ensures.reply
