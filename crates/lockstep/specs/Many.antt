-- Many steps over a text of words.
use Rattle.std.specs.Prelude.{◌≡◌, ℕ, zero, suc, List, Option, None, Some}
use Rattle.inorder.specs.Machine.{State, Ran, Goes, Halts}
use Rattle.lockstep.specs.declared.stepping.Answer.{Answer}
use Rattle.lockstep.specs.declared.stepping.Answer.TheVariants.{NoOperation, Stopped, Went}
use Rattle.lockstep.specs.Step.{HoldsState, machine_state, step_over}

-- how many steps have gone on, the answer after them, and the state
pub record Many : Type 0 where
  pub steps : ℕ
  pub answer : Answer
  pub state : State

-- with one step before
abbrev pub one_before : Many → Many
one_before m = record m { steps = suc m.steps }

-- many steps, after the result of the first one
abbrev pub many_after : (State → Many) → State → Option Ran → Many
many_after rest s None = record { steps = 0; answer = NoOperation; state = s }
many_after rest s (Some (Halts c)) = record { steps = 0; answer = Stopped c; state = s }
many_after rest s (Some (Goes t)) = one_before (rest (machine_state t.registers t.memory t.pc))

-- at most k steps, up to the first that does not go on
abbrev pub many_over : List ℕ → ℕ → State → Many
many_over text zero s = record { steps = 0; answer = Went; state = s }
many_over text (suc k) s = many_after (many_over text k) s (step_over text s)

-- answer, registers, data memory, pc and the number of steps are those of many steps
pub record HasRunMany (answer : Answer) (registers memory : List ℕ) (pc steps : ℕ) (m : Many) : Type 0 where
  pub answer_is : answer ≡ m.answer
  pub steps_are : steps ≡ m.steps
  pub state : HoldsState registers memory pc m.state
