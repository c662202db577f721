use Rattle.std.proofs.Common.{◌≡◌, ◌<◌, ◌≤◌, length, Some, sym, ap, ◌∙◌, subst, arith}
use Rattle.instructions.specs.Instruction.{fixed_next}
use Rattle.std.specs.Prelude.{IfSome}
use Rattle.instructions.specs.Programs.{instr_at}
use Rattle.instructions.specs.declared.instr.Instr.{Instr}
use Rattle.streaming.specs.Astray.{FindsOperands}
use Rattle.streaming.specs.Flow.{HasJoined, Completes, completed_as, in_order}
use Rattle.streaming.specs.Kept.{kept_with}
use Rattle.one_thread.specs.declared.pipeline.Pipeline.{Pipeline}
use Rattle.streaming.proofs.FlowEnters.{Joins, joins_mended, joins_order}
use Rattle.streaming.proofs.FlowIn.{entered_room, enters}
use Rattle.streaming.proofs.LetAstray.{astray_decoded, astray_instr}
use Rattle.streaming.proofs.astray.mend.Given.{Over}
use Rattle.streaming.proofs.astray.mend.Goals.{After-joins, After-let_astray}
use Rattle.streaming.proofs.astray.mend.Goals as goal

room : (g : Over) (c : After-let_astray g) → let flow = c.args.flow.now in
    (length flow.ring.completed < c.requires.next.placed.before.ring) × (length flow.ring.stores < 32) × (flow.accesses ≤ 32)
room g c =
    let flow = c.args.flow.now in
    let n = c.requires.next in
    entered_room (in_order n.placed.before flow) (in_order c.args.unit.now flow) flow n.instr c.args.predicted n.placed.from (enters c.args.unit.now flow c.args.predicted n)

pub joins-requires-clause-room : goal.joins-requires-clause-room
joins-requires-clause-room g c =
    let there = (room g (goal.at.joins-requires-clause-room g c).After-let_astray).0 in
    omega (arith, there, c.requires.next.placed.flows.size)

pub joins-requires-clause-few : goal.joins-requires-clause-few
joins-requires-clause-few g c = (room g (goal.at.joins-requires-clause-few g c).After-let_astray).1

pub joins-requires-clause-accesses : goal.joins-requires-clause-accesses
joins-requires-clause-accesses g c = (room g (goal.at.joins-requires-clause-accesses g c).After-let_astray).2

-- It has joined

joins : (g : Over) (c : After-joins g) → Joins c.args.unit.now c.args.flow.now c.joins.new.self c.args.predicted c.args.done
joins g c =
    let b = c.args.unit.now in
    let flow = c.args.flow.now in
    let p = c.args.predicted in
    let r = c.requires in
    let o = r.operands in
    let now = c.let_astray.new.unit in
    let i = c.fetch_known-instr.result.now in
    let is = c.fetch_known-instr.ensures now.program.now (astray_decoded now b flow p c.let_astray.ensures.rest r.next _ c.as_slice.ensures.value) in
    let there = ap (λ (q : Pipeline). instr_at q.program.now flow.future.pc) c.let_astray.ensures.rest
    ∙ astray_instr now b flow p c.let_astray.ensures.rest r.next in
    let same : r.next.instr ≡ i = let e : Some r.next.instr ≡ Some i = sym there ∙ is in cc e in
    let on = c.joins.ensures in
    let completed = c.completed-completed in
    record {
      next = record {
        placed = r.next.placed;
        instr = i;
        is = r.next.is ∙ ap Some same;
        small = r.next.small;
        fixed = subst (λ (j : Instr). IfSome (fixed_next j flow.half flow.future.pc) (λ k. p ≡ k)) same r.next.fixed;
      };
      operands = o;
      finds = subst (λ j. FindsOperands flow j o) same r.finds;
      completes = subst (λ j. Completes r.next.placed.before flow j p o (Some c.args.done)) same r.completes;
      leaves = completed.result.leaves;
      leaves_as = completed.ensures.leaves;
      joined = subst (λ k. HasJoined flow c.joins.new.self i (completed_as flow p c.args.done completed.result.leaves (kept_with i flow.half k flow.future.values)) k) (sym r.reads)
          (subst (λ y. HasJoined flow c.joins.new.self i y c.args.content) completed.ensures.is
          c.joins.ensures);
    }

pub returns-clause-flows : goal.returns-clause-flows
returns-clause-flows g c =
    let a = c.let_astray in
    joins_mended c.args.unit.now c.args.flow.now c.joins.new.self c.args.predicted c.args.done (joins g (goal.at.returns-clause-flows g c).After-joins)
    a.new.unit a.ensures.rest a.ensures.astray c.requires.misses

pub returns-clause-order : goal.returns-clause-order
returns-clause-order g c =
    let a = c.let_astray in
    joins_order c.args.unit.now c.args.flow.now c.joins.new.self c.args.predicted c.args.done (joins g (goal.at.returns-clause-order g c).After-joins)
    a.new.unit a.ensures.rest
