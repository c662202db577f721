-- Steps over words are those of the machine that runs the program of the words.
use Rattle.std.specs.Prelude.{◌≡◌, ℕ, zero, suc, List, length, Option, None, Some, slice_get}
use Rattle.instructions.specs.declared.end.Ending.{Ending}
use Rattle.instructions.specs.declared.end.Ending.TheVariants.{Stop as ByStop, Limit as ByLimit}
use Rattle.instructions.specs.Programs.{Program, address, instr_of}
use Rattle.inorder.specs.Machine.{State, Ran, Goes, Halts, step}
use Rattle.inorder.specs.Runs.{end_from}
use Rattle.encoding.specs.Words.{decode}
use Rattle.lockstep.specs.Step.{step_over}

-- each word of a text says the instruction of a program that stands at its address
pub record IsTextOf (text : List ℕ) (P : Program) : Type 0 where
  pub as_long : length text ≡ length P.code
  pub says : (k w : ℕ) → slice_get text k ≡ Some w → decode (address k) w ≡ Some (instr_of P k)

-- a step over such a text is a step of the machine that runs the program
abbrev pub AStepIsTheMachines : Type 0
AStepIsTheMachines =
    (P : Program) (text : List ℕ) (s : State) → IsTextOf text P
    → length s.memory ≡ length P.bytes → step_over text s ≡ Some (step P s)

-- the end of a run after the result of a step; none where the word was no operation
abbrev pub end_behind : (State → Option (Ending × State)) → State → Option Ran → Option (Ending × State)
end_behind rest s None = None
end_behind rest s (Some (Goes t)) = rest t
end_behind rest s (Some (Halts c)) = Some (ByStop c, s)

-- the end of n steps over a text
abbrev pub end_over : List ℕ → ℕ → State → Option (Ending × State)
end_over text zero s = Some (ByLimit, s)
end_over text (suc k) s = end_behind (end_over text k) s (step_over text s)

-- steps over a program's text end as the machine does that runs the program
abbrev pub ARunIsTheMachines : Type 0
ARunIsTheMachines =
    (P : Program) (text : List ℕ) (k : ℕ) (s : State) → IsTextOf text P
    → length s.memory ≡ length P.bytes → end_over text k s ≡ Some (end_from P k s)
