-- Runs of the in-order machine.
use Rattle.std.specs.Prelude.{◌≡◌, ℕ, zero, suc, Option, Some, None}
use Rattle.instructions.specs.declared.stop.Stop.{Stop}
use Rattle.instructions.specs.declared.end.End.{End}
use Rattle.instructions.specs.declared.end.Ending.{Ending}
use Rattle.instructions.specs.declared.end.Ending.TheVariants.{Stop as ByStop, Limit as ByLimit}
use Rattle.instructions.specs.Programs.{Program}
use Rattle.inorder.specs.Machine.{State, Ran, Goes, Halts, start, step}
use Rattle.inorder.specs.declared.machine.Stepped.{Stepped}
use Rattle.inorder.specs.declared.machine.Stepped.TheVariants.{Ran as HasRan, Stopped}
use Rattle.inorder.specs.declared.machine.Ended.{Ended}
use Rattle.inorder.specs.declared.machine.Ended.TheVariants.{Stopped as EndedStopped, Limit}

-- the state after a step, unless it stops
abbrev pub next_state : Ran → Option State
next_state (Goes s) = Some s
next_state (Halts c) = None

-- the code of a step that stops
abbrev pub stop_of : Ran → Option Stop
stop_of (Goes s) = None
stop_of (Halts c) = Some c

-- from a state, if it is there, the one a step on
abbrev pub then_state : Program → Option State → Option State
then_state P None = None
then_state P (Some s) = next_state (step P s)

-- from a state, if it is there, the code with which a step from it stops
abbrev pub then_stop : Program → Option State → Option Stop
then_stop P None = None
then_stop P (Some s) = stop_of (step P s)

-- the state after n steps, where none of them stops
abbrev pub after : Program → ℕ → Option State
after P zero = Some (start P)
after P (suc n) = then_state P (after P n)

-- the code with which the step after n steps stops, if it does
abbrev pub stop : Program → ℕ → Option Stop
stop P n = then_stop P (after P n)

-- how and where a run ends that has come to a step's result and goes on so
abbrev pub end_after : (State → Ending × State) → State → Ran → Ending × State
end_after rest s (Goes t) = rest t
end_after rest s (Halts c) = (ByStop c, s)

-- how and where a run ends that may make k more steps
abbrev pub end_from : Program → ℕ → State → Ending × State
end_from P zero s = (ByLimit, s)
end_from P (suc k) s = end_after (end_from P k) s (step P s)

-- how and where a program ends that may make n steps
abbrev pub end_of : Program → ℕ → Ending × State
end_of P limit = end_from P limit (start P)

-- a machine: its program and its state
pub record Running : Type 0 where
  pub program : Program
  pub state : State

-- what a step of a machine answers and leaves: after a stop it is unchanged
abbrev pub IsStep : Running → Stepped → Running → Ran → Type 0
IsStep old answer new (Goes s) =
    (answer ≡ HasRan) × (new ≡ record { program = old.program; state = s })
IsStep old answer new (Halts c) = (answer ≡ Stopped c) × (new ≡ old)

-- the answer of a run
abbrev pub ending : Ended → Ending
ending (EndedStopped c) = ByStop c
ending Limit = ByLimit

-- the state that an end holds
abbrev pub state_in : End → State
state_in e = record { registers = e.registers; memory = e.memory.items; pc = e.pc; count = e.n }

-- how and where a run has ended
abbrev pub end_state : End → Ending × State
end_state e = (e.outcome, state_in e)
