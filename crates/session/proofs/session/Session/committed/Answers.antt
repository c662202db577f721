use Rattle.std.proofs.Common.{◌∙◌, ap}
use Rattle.back.specs.Backs.{back_state}
use Rattle.inorder.specs.Runs.{ending}
use Rattle.session.specs.Sessions.{TheSession}
use Rattle.session.proofs.InOrder.{committed_after, machine_state, same_state}
use Rattle.session.proofs.session.Session.committed.Goals as goal

pub returns-clause-state : goal.returns-clause-state
returns-clause-state g c =
    let core = c.self.inside.core in
    let met = c.meet.new.self in
    let is = committed_after core met.core met.seen (c.meet.ensures.kept.core ∙ c.self.invariant.back_core) c.meet.ensures.history.legal in
    let last = c.run.new.self.state in
    let ran = machine_state c.self.inside.program.now core.program (back_state met) c.in_ok-machine.machine c.run.new.self c.n-count.result (ending c.run.result)
    c.self.invariant.program_is is c.in_ok-machine.ensures c.n-count.ensures c.run.ensures.end in
    same_state last c.registers.result.now c.in_ok-memory.memory.items c.pc.result c.count.result c.registers.ensures (c.in_ok-memory.ensures.items ∙ c.memory.ensures) c.pc.ensures c.count.ensures
    ∙ (ran ∙ (c.meet.ensures.kept.state ∙ ap (λ (s : TheSession). back_state s.commits) c.self.view_is))
