-- The answers of `ruu_step`, `ruu_step_told` and `ruu_run`, and the state after a call.
use Rattle.std.specs.Prelude.{ℕ, ℤ, pos, negsuc, ◌+◌, ◌%◌, Bool, List, length, Option, None, Some, ◌==◌, ◌&&◌, nat_le, if◌then◌else◌}
use Rattle.instructions.specs.Operations.{code_of}
use Rattle.inorder.specs.Machine.{State, Ran, Goes, Halts}
use Rattle.lockstep.specs.Changes.{change_over, no_change}
use Rattle.lockstep.specs.Many.{many_over}
use Rattle.lockstep.specs.Step.{step_over}
use Rattle.lockstep.specs.declared.change.Change.{Change}
use Rattle.lockstep.specs.declared.stepping.Answer.{Answer}
use Rattle.lockstep.specs.declared.stepping.Answer.TheVariants.{NoOperation, Stopped, Went}

-- whether a program can have these sizes of text and data memory
abbrev pub are_allowed : (words bytes : ℕ) → Bool
are_allowed words bytes = nat_le words 16384 && (nat_le bytes 65536 && (bytes % 4 == 0))

-- the number of an answer: -1 where the word at the pc is no operation, 0 where it was run, 1 and the stop's number where it
-- stops
abbrev pub answer_number : Answer → ℤ
answer_number NoOperation = negsuc 0
answer_number Went = pos 0
answer_number (Stopped c) = pos (1 + code_of c)

-- the answer of a step
abbrev pub step_number : Option Ran → ℤ
step_number None = negsuc 0
step_number (Some (Goes t)) = pos 0
step_number (Some (Halts c)) = pos (1 + code_of c)

-- the state after a step: that before the step, unless the word was run
abbrev pub state_left : State → Option Ran → State
state_left s (Some (Goes t)) = t
state_left s _ = s

-- the answer of a call: -2 where the sizes are not allowed
abbrev pub call_number : List ℕ → State → ℤ
call_number text s =
    if are_allowed (length text) (length s.memory) then step_number (step_over text s) else negsuc 1

-- the state after a call
abbrev pub left_of : List ℕ → State → State
left_of text s =
    if are_allowed (length text) (length s.memory) then state_left s (step_over text s) else s

-- what a call has changed
abbrev pub change_left : List ℕ → State → Change
change_left text s = if are_allowed (length text) (length s.memory) then change_over text s else no_change

-- the answer of a call that may make n steps
abbrev pub many_number : List ℕ → ℕ → State → ℤ
many_number text most s =
    if are_allowed (length text) (length s.memory) then answer_number (many_over text most s).answer else negsuc 1

-- the state after that call
abbrev pub many_state : List ℕ → ℕ → State → State
many_state text most s =
    if are_allowed (length text) (length s.memory) then (many_over text most s).state else s

-- how many steps of that call went on
abbrev pub many_steps : List ℕ → ℕ → State → ℕ
many_steps text most s =
    if are_allowed (length text) (length s.memory) then (many_over text most s).steps else 0
