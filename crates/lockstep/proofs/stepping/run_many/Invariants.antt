use Rattle.std.proofs.Common.{◌≡◌, ◌-◌, ◌≤◌, length}
use Rattle.lockstep.specs.Many.{many_over}
use Rattle.lockstep.specs.Step.{machine_state}
use Rattle.lockstep.proofs.ManySteps.{more}
use Rattle.lockstep.proofs.stepping.run_many.Given as goal

-- the steps so far are the first of those that are to be made
abbrev pub invariant-steps : goal.invariant-steps
invariant-steps l =
    record {
      kept : l.steps ≡ l.most;
      below : l.done ≤ l.most;
      memory : length l.memory ≤ 65536;
      ahead : many_over l.text l.most (machine_state l.fn.registers l.fn.memory l.fn.pc)
          ≡ more l.done (many_over l.text (l.most - l.done) (machine_state l.registers l.memory l.pc));
    }

abbrev pub decreases-steps : goal.decreases-steps
decreases-steps l = l.most - l.done
