use Rattle.replay.specs.Placing.{AreDueFrom, LeadsSilently}
use Rattle.replay.specs.Shown.{shown}
use Rattle.replay.proofs.Broadcast.{IsDeliveredTo}
use Rattle.replay.proofs.unit.Unit.broadcast.Given as goal

abbrev pub invariant-loop-q : goal.invariant-loop-q
invariant-loop-q l = record {
  leads : LeadsSilently l.initial.self l.self;
  due : AreDueFrom l.initial.self.program.now (shown l.initial.self.tenants.items) l.who → IsDeliveredTo l.self l.who l.q;
}
