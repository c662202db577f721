use Rattle.std.proofs.Common.{◌≡◌, Some}
use Rattle.instructions.specs.Programs.{instr_at}
use Rattle.instructions.specs.declared.instr.Instr.{Instr}
use Rattle.streaming.specs.Astray.{IsAstray}
use Rattle.streaming.specs.Flow.{enters_as, in_order, window_of}
use Rattle.streaming.proofs.astray.let_astray.Given as goal

abbrev pub invariant-loop-count : goal.invariant-loop-count
invariant-loop-count g l =
    record {
      instr : Instr;
      is : instr_at l.fn.unit.program.now l.flow.future.pc ≡ Some instr;
      astray : IsAstray (in_order l.unit l.flow) (window_of l.fn.unit l.flow) (enters_as l.flow instr l.predicted) l.pc l.half l.accesses l.count;
      rest : l.unit ≡ record l.fn.unit { leavers = l.unit.leavers };
    }
