use Rattle.std.proofs.Common.{ℕ, ◌<◌}
use Rattle.inorder.specs.declared.history.Source.{Source}
use Rattle.replay.specs.Placing.{IsNotDue, LeadsSilently}
use Rattle.replay.specs.Shown.{shown}
use Rattle.replay.proofs.unit.Unit.supply_all.Given as goal

abbrev pub invariant-loop-q : goal.invariant-loop-q
invariant-loop-q l = record {
  leads : LeadsSilently l.initial.self l.self;
  done : (r : ℕ) (k : Source) → r < l.q → IsNotDue l.self.program.now (shown l.self.tenants.items) r k;
}
