-- A let with its questions.
use Rattle.std.proofs.Common.{◌≡◌, ◌/◌, List, [], ◌∷◌, ◌++◌, arith, sym, ◌∙◌, subst}
use Rattle.inorder.specs.History.{unit_of}
use Rattle.front.specs.declared.path.base_state.Base.{Base}
use Rattle.front.specs.declared.path.counted.Table.{Table}
use Rattle.front.specs.declared.path.record.Record.{Record}
use Rattle.front.specs.CreateTable.{HasTable, IsEntered}
use Rattle.front.specs.Knows.{FrontKnows}
use Rattle.front.specs.Path.{record_for, rested_at}
use Rattle.front.proofs.DispatchFacts.{DispatchFacts, facts_of, may_let_out}
use Rattle.front.proofs.Dispatched.{dispatched, knows_end, may_ask_first, may_ask_second, table_end}
use Rattle.front.proofs.Touches.{touched_more}
use Rattle.front.proofs.dispatch.dispatch.Goals.{After-saturating_sub-index}
use Rattle.front.proofs.dispatch.dispatch.Goals as goal

-- The instruction with its sources, as they were found before the let
facts : (c : After-saturating_sub-index) → DispatchFacts c.args.core.now.program c.args.core.now.sizes c.args.seat.now.seen c.args.path.now.records c.args.path.now.base c.args.next.now
    c.args.predicted (c.saturating_sub-index.result / 4) c.supply-first.result c.supply-second.result
facts c = facts_of c.requires.legal c.requires.ready c.requires.table c.requires.next c.ranges.predicted.fits c.requires.fixed c.saturating_sub-index.ensures c.first.ensures
    c.supply-first.ensures.small c.supply-first.ensures.value c.supply-first.ensures.table c.second.ensures c.supply-second.ensures.small c.supply-second.ensures.value

pub let_out-tag-requires-clause-may : goal.let_out-tag-requires-clause-may
let_out-tag-requires-clause-may c =
    may_let_out (facts (goal.at.let_out-tag-requires-clause-may c).After-saturating_sub-index)

pub ask-requires-clause-may : goal.ask-requires-clause-may
ask-requires-clause-may c =
    let d = facts (goal.at.ask-requires-clause-may c).After-saturating_sub-index in
    may_ask_first d c.requires.by c.let_out-tag.ensures.history c.let_out-tag.ensures.reply

pub ask-requires-2-clause-may : goal.ask-requires-2-clause-may
ask-requires-2-clause-may c =
    let d = facts (goal.at.ask-requires-2-clause-may c).After-saturating_sub-index in
    may_ask_second d c.requires.by c.let_out-tag.ensures.history c.let_out-tag.ensures.reply c.ask.new.seat.seen c.ask.ensures.reply

pub returns-clause-reply : goal.returns-clause-reply
returns-clause-reply c =
    let d = facts (goal.at.returns-clause-reply c).After-saturating_sub-index in
    dispatched d c.requires.by c.let_out-tag.ensures.history c.let_out-tag.ensures.reply c.ask.new.seat.seen c.ask.ensures.reply c.ask-2.new.seat.seen c.ask-2.ensures.reply

pub returns-clause-knows : goal.returns-clause-knows
returns-clause-knows c =
    let core = c.args.core.now in
    let f = c.args.next.now in
    let kept : c.enter.new.self.records ≡ c.args.path.now.records ++ record_for f c.let_out-tag.result c.args.predicted ∷ [] = c.enter.ensures.records in
    let d = facts (goal.at.returns-clause-knows c).After-saturating_sub-index in
    subst (λ (z : List Record × Base). FrontKnows core.program core.sizes (unit_of core.program core.sizes c.ask-2.new.seat.seen) z.0 z.1) (λ i. (sym kept i, sym c.enter.ensures.base i))
    (knows_end d c.requires.by c.let_out-tag.ensures.history c.let_out-tag.ensures.reply c.ask.new.seat.seen c.ask.ensures.reply c.ask-2.new.seat.seen c.ask-2.ensures.reply)

pub returns-clause-table : goal.returns-clause-table
returns-clause-table c =
    let core = c.args.core.now in
    let f = c.args.next.now in
    let next = c.requires.next in
    let old = c.args.creators.now.table in
    let new = c.enter.new.creators.table in
    let entered : IsEntered old new (record_for f c.let_out-tag.result c.args.predicted) = subst
    (λ (z : Table). IsEntered z new (record_for f c.let_out-tag.result c.args.predicted)) (c.supply-second.ensures.table ∙ c.supply-first.ensures.table) c.enter.ensures.table in
    let d = facts (goal.at.returns-clause-table c).After-saturating_sub-index in
    subst (λ (b : Base). HasTable core.program (unit_of core.program core.sizes c.ask-2.new.seat.seen) (rested_at b) new) (sym c.enter.ensures.base)
    (table_end d c.requires.by c.let_out-tag.ensures.history c.let_out-tag.ensures.reply c.ask.new.seat.seen c.ask.ensures.reply c.ask-2.new.seat.seen c.ask-2.ensures.reply old new
    c.requires.table (omega (arith, next.small, c.requires.most)) entered)

pub returns-clause-touched : goal.returns-clause-touched
returns-clause-touched c =
    let a = c.args.creators.now.touched in
    let b = c.supply-first.new.creators.touched in
    let m = c.supply-second.new.creators.touched in
    let d = c.enter.new.creators.touched in
    touched_more 4 4 a m d (touched_more 2 2 a b m c.supply-first.ensures.touched c.supply-second.ensures.touched) c.enter.ensures.touched
