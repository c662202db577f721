-- A miss in a flow, and the path that was predicted after it.
use Rattle.std.specs.Prelude.{◌≡◌, ◌≢◌, ◌<◌, ◌^◌, ℕ, List, ◌∷◌, ◌++◌, length, Some, IfSome, slice_index}
use Rattle.instructions.specs.Instruction.{first_of, fixed_next, second_of}
use Rattle.instructions.specs.Programs.{instr_at}
use Rattle.instructions.specs.declared.instr.Instr.{Instr}
use Rattle.instructions.specs.declared.op.Half.{Half}
use Rattle.streaming.specs.Flow.{Completes, IsPlaced, enters_as, filled, in_order, window_of}
use Rattle.one_thread.specs.StandsFor.{StandsForSome}
use Rattle.one_thread.specs.Window.{accesses, half_in, next_in}
use Rattle.streaming.specs.declared.completing.Done.{Done}
use Rattle.one_thread.specs.declared.execute.Operands.{Operands}
use Rattle.streaming.specs.declared.flow.Flow.{Flow}
use Rattle.one_thread.specs.declared.pipeline.Pipeline.{Pipeline}
use Rattle.one_thread.specs.declared.station.Station.{Station}

-- The next instruction can enter, and this is predicted after it
pub record IsUpcoming (b : Pipeline) (flow : Flow) (predicted : ℕ) : Type 0 where
  pub placed : IsPlaced b flow
  pub instr : Instr
  pub is : instr_at placed.before.program.now flow.future.pc ≡ Some instr
  pub small : predicted < 2 ^ 32
  pub fixed : IfSome (fixed_next instr flow.half flow.future.pc) (λ n. predicted ≡ n)

-- These are what an instruction finds
pub record FindsOperands (flow : Flow) (i : Instr) (o : Operands) : Type 0 where
  pub first_small : first_of i < 34
  pub second_small : second_of i < 34
  pub first : o.a ≡ slice_index flow.future.values (first_of i)
  pub second : o.b ≡ slice_index flow.future.values (second_of i)

-- The next instruction completes with this, on another path than was predicted, and finds this content
pub record AwaitsMending (b : Pipeline) (flow : Flow) (predicted : ℕ) (d : Done) (content : ℕ) : Type 0 where
  pub next : IsUpcoming b flow predicted
  pub operands : Operands
  pub finds : FindsOperands flow next.instr operands
  pub reads : operands.b ≡ content
  pub completes : Completes next.placed.before flow next.instr predicted operands (Some d)
  pub misses : d.next ≢ predicted

-- Some were let after these stations and the next one, so that there are n of them, with this number of accesses, and the
-- path goes on here with this half
pub record IsAstray (b : Pipeline) (W : List Station) (w : Station) (pc : ℕ) (half : Half) (used count : ℕ) : Type 0 where
  pub behind : List Station
  pub all : List Station
  pub is : all ≡ W ++ w ∷ behind
  pub unit : StandsForSome (filled b all)
  pub path : pc ≡ next_in b.committed.pc all
  pub half_is : half ≡ half_in b.low all
  pub uses : used ≡ accesses all (length all)
  pub counts : count ≡ length all

-- The next instruction was let, and some after it
pub record HasGoneAstray (b : Pipeline) (flow : Flow) (predicted : ℕ) : Type 0 where
  pub instr : Instr
  pub is : instr_at b.program.now flow.future.pc ≡ Some instr
  pub behind : List Station
  pub unit :
      StandsForSome (filled (in_order b flow) (window_of b flow ++ enters_as flow instr predicted ∷ behind))
