use Rattle.std.proofs.Common.{◌≡◌, ◌-◌}
use Rattle.inorder.specs.Runs.{end_from}
use Rattle.inorder.proofs.machine.Machine.run.Given as goal

abbrev pub invariant-loop-self : goal.invariant-loop-self
invariant-loop-self l =
    record {
      program : l.self.program ≡ l.fn.self.program;
      end : end_from l.fn.self.program (l.limit - l.fn.self.state.count) l.fn.self.state ≡ end_from l.fn.self.program (l.limit - l.self.state.count) l.self.state;
    }

abbrev pub decreases-loop-self : goal.decreases-loop-self
decreases-loop-self l = l.limit - l.self.state.count
