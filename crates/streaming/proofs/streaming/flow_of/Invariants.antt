use Rattle.std.proofs.Common.{◌≡◌, take, None}
use Rattle.std.specs.Prelude.{slice_index}
use Rattle.instructions.specs.Registers.{lo}
use Rattle.one_thread.specs.Changes.{registers_of}
use Rattle.streaming.specs.Flow.{IsFlowing, window_of}
use Rattle.streaming.specs.Kept.{HaveKept}
use Rattle.streaming.proofs.streaming.flow_of.Given as goal

abbrev pub invariant-loop-i : goal.invariant-loop-i
invariant-loop-i l =
    record {
      flowing : IsFlowing l.unit l.flow;
      window : window_of l.unit l.flow ≡ take l.i l.unit.window;
      last : l.flow.last ≡ None;
      kept : HaveKept l.unit.program.now (registers_of l.unit) l.flow.ring.completed l.flow.future.values;
      oldest : l.flow.ring.oldest ≡ l.unit.oldest;
      size : l.flow.ring.size ≡ l.unit.ring;
      held : l.flow.held ≡ slice_index l.unit.committed.registers lo;
    }
