use Rattle.std.proofs.Common.{◌≡◌, ◌-◌, length, sym, ap, ◌∙◌, subst, arith}
use Rattle.instructions.specs.Instruction.{width}
use Rattle.inorder.proofs.QueueBytes.{same_width}
use Rattle.lsq.specs.Entries.{bytes}
use Rattle.lsq.specs.LoadRule.{overlaps}
use Rattle.back.specs.Backs.{unit_in}
use Rattle.back.specs.Port.{HasFound}
use Rattle.back.proofs.SearchFacts.{SearchFacts, facts_of}
use Rattle.back.proofs.Searching.{step_memory, step_met, step_unknown}
use Rattle.back.proofs.Seeing.{two_looks}
use Rattle.back.proofs.port.search.Goals.{After-look-store}
use Rattle.back.proofs.port.search.Goals as goal

-- The looks up to this one, and what it has found
facts : (c : After-look-store) → SearchFacts c.args.core.now c.args.seat.now c.loop-k.seat c.look-store.new.seat c.args.head c.loop-k.k c.args.at c.look-store.result
facts c =
    let k = c.loop-k in
    facts_of c.args.core.now c.args.head c.look-store.result c.requires.by k.invariant.kept k.invariant.history c.loop-k-test.true k.invariant.bound c.look-store.ensures.kept
    c.look-store.ensures.history c.wrapped.ensures.value c.ring-ring.ensures.value c.look-store.ensures.shows

pub returns-then-lacks_address-clause-history : goal.returns-then-lacks_address-clause-history
returns-then-lacks_address-clause-history c =
    let d = c.args.core.now in
    let k = c.loop-k in
    two_looks d.program d.sizes c.args.seat.now.by k.seat.by c.args.seat.now.seen k.seat.seen c.look-store.new.seat.seen k.invariant.kept.by k.invariant.history c.look-store.ensures.history

pub returns-then-lacks_address-clause-err : goal.returns-then-lacks_address-clause-err
returns-then-lacks_address-clause-err c =
    let d = c.args.core.now in
    let k = c.loop-k in
    let e = c.look-store.result in
    let f = facts (goal.at.returns-then-lacks_address-clause-err c).After-look-store in
    step_unknown d.program d.sizes _ _ _ f.before f.added c.args.head d.sizes.ring (k.k - 1) k.k c.args.at c.args.load.now f.next f.small e f.shows k.found k.invariant.found
    (sym c.lacks_address.ensures ∙ c.if-lacks_address.true)

pub loop-k-preserved-then-overlaps : goal.loop-k-preserved-then-overlaps
loop-k-preserved-then-overlaps c =
    let d = c.args.core.now in
    let k = c.loop-k in
    let e = c.look-store.result in
    let l = c.args.load.now in
    let f = facts (goal.at.loop-k-preserved-then-overlaps c).After-look-store in
    let no = sym c.lacks_address.ensures ∙ c.if-lacks_address.false in
    let wide : bytes c.access_width-width.result ≡ width l.op = ap bytes c.access_width-width.ensures ∙ same_width l.op in
    let over = sym (ap (λ w. overlaps l.address w e) wide) ∙ (sym c.overlaps.ensures ∙ c.if-overlaps.true) in
    let there = length (unit_in d c.args.seat.now.seen).tenants in
    record {
      kept = f.kept;
      woken = c.look-store.ensures.woken ∙ k.invariant.woken;
      history = f.history;
      bound = f.bound;
      found = subst (HasFound d.program (unit_in d c.look-store.new.seat.seen) there c.args.head d.sizes.ring (k.k - 1) c.args.at l.address (width l.op)) (sym c.or-found.ensures)
          (step_met d.program d.sizes _ _ _ f.before f.added c.args.head d.sizes.ring (k.k - 1) k.k c.args.at l f.next f.small e f.shows k.found k.invariant.found no over);
    }

pub loop-k-preserved : goal.loop-k-preserved
loop-k-preserved c =
    let d = c.args.core.now in
    let k = c.loop-k in
    let e = c.look-store.result in
    let l = c.args.load.now in
    let f = facts (goal.at.loop-k-preserved c).After-look-store in
    let no = sym c.lacks_address.ensures ∙ c.if-lacks_address.false in
    let wide : bytes c.access_width-width.result ≡ width l.op = ap bytes c.access_width-width.ensures ∙ same_width l.op in
    let over = sym (ap (λ w. overlaps l.address w e) wide) ∙ (sym c.overlaps.ensures ∙ c.if-overlaps.false) in
    record {
      kept = f.kept;
      woken = c.look-store.ensures.woken ∙ k.invariant.woken;
      history = f.history;
      bound = f.bound;
      found = step_memory d.program d.sizes _ _ _ f.before f.added c.args.head d.sizes.ring (k.k - 1) k.k c.args.at l f.next f.small e f.shows k.found k.invariant.found no over;
    }

pub returns-clause-ok : goal.returns-clause-ok
returns-clause-ok c =
    let d = c.args.core.now in
    let k = c.loop-k in
    let l = c.args.load.now in
    let done = c.loop-k-test.false in
    let zero : k.k ≡ 0 = omega (arith, done) in
    subst (λ x. HasFound d.program (unit_in d k.seat.seen) (length (unit_in d c.args.seat.now.seen).tenants) c.args.head d.sizes.ring x c.args.at l.address (width l.op) k.found) zero k.invariant.found
