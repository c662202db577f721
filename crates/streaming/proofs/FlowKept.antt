-- What the instructions of a flow keep: where one joins, where the oldest leaves, and where the flow begins.
use Rattle.std.proofs.Common.{arith}
use Rattle.std.proofs.lemmas.Grind.{common_steps}
use Rattle.std.proofs.Common.{◌≡◌, ℕ, List, Some}
use Rattle.std.specs.Prelude.{slice_index}
use Rattle.instructions.specs.Registers.{lo}
use Rattle.instructions.specs.Programs.{instr_at}
use Rattle.instructions.specs.declared.instr.Instr.{Instr}
use Rattle.one_thread.specs.Changes.{registers_of}
use Rattle.streaming.specs.CompletedRing.{instr_there}
use Rattle.streaming.specs.Flow.{HasJoined, Flows, IsFlow, in_order}
use Rattle.streaming.specs.Kept.{HasKept, HaveKept}
use Rattle.streaming.specs.declared.completed_ring.Completed.{Completed}
use Rattle.streaming.specs.declared.flow.Flow.{Flow}
use Rattle.one_thread.specs.declared.pipeline.Pipeline.{Pipeline}
use Rattle.streaming.proofs.Completions.{instr_is}
use Rattle.streaming.proofs.Kept.{held_back, kept_more, undone}

-- A completed instruction joins

module _ (b : Pipeline) (flow after : Flow) (i : Instr) (c : Completed) (content : ℕ) (registers : List ℕ) (h : HaveKept b.program.now registers flow.ring.completed flow.future.values)
    (j : HasJoined flow after i c content) (is : instr_at b.program.now c.pc ≡ Some i) (k : HasKept i c flow.future.values) where
  there : instr_there b.program.now c.pc ≡ i
  there = instr_is b.program.now c.pc i is

  pub joins_kept : HaveKept b.program.now registers after.ring.completed after.future.values
  joins_kept = grind (arith, common_steps, there, kept_more)

  pub joins_in_order : in_order b after ≡ in_order b flow
  joins_in_order = grind (arith, common_steps, undone, joins_kept)

  pub joins_flows : registers ≡ registers_of (in_order b flow) → flow.ring.size ≡ b.ring → IsFlow (in_order b flow) after → Flows b after
  joins_flows same size f = grind (arith, common_steps, joins_in_order, joins_kept)

-- A flow begins

module _ (b : Pipeline) (flow : Flow) (h : HaveKept b.program.now (registers_of b) flow.ring.completed flow.future.values) (held : flow.held ≡ slice_index b.committed.registers lo)
    (oldest : flow.ring.oldest ≡ b.oldest)
    (size : flow.ring.size ≡ b.ring) where
  pub begins_in_order : in_order b flow ≡ b
  begins_in_order = grind (arith, common_steps, undone, held_back)

  pub begins : IsFlow b flow → Flows b flow
  begins f = grind (arith, common_steps, begins_in_order)
