-- The steps of a machine that is logged.
use Rattle.std.specs.Prelude.{◌≡◌, ℕ, ◌-◌, List, ◌++◌, Option, None, Some}
use Rattle.std.specs.Io.KnownBytes.{Appends}
use Rattle.instructions.specs.Programs.{instr_at}
use Rattle.instructions.specs.declared.end.Ending.{Ending}
use Rattle.instructions.specs.declared.stop.Stop.{Stop}
use Rattle.inorder.specs.Machine.{Goes, Halts, Ran, State}
use Rattle.inorder.specs.Runs.{Running, end_from}
use Rattle.command_line.specs.declared.logged.Logged.{Logged}
use Rattle.commit_log.specs.Logs.{line_of_step, line_of_stop, log_from}

-- what a step of a machine answers, what it leaves of the machine, and what it adds to a text
abbrev pub IsLoggedStep : Logged → (old new : Running) → (before after : List ℕ) → Option Stop → Ran → Type 0
IsLoggedStep asked old new before after stop (Goes t) =
    (stop ≡ None) × ((new ≡ record { program = old.program; state = t })
    × (after ≡ before ++ line_of_step asked old.state (instr_at old.program old.state.pc) t))
IsLoggedStep asked old new before after stop (Halts c) =
    (stop ≡ Some c) × ((new ≡ old)
    × (after ≡ before ++ line_of_stop old.state (instr_at old.program old.state.pc) c))

-- the log of the steps that a machine can still make
abbrev pub log_ahead : Logged → Running → List ℕ
log_ahead asked m = log_from asked m.program (asked.limit - m.state.count) m.state

-- how and where a machine ends
abbrev pub end_ahead : Logged → Running → Ending × State
end_ahead asked m = end_from m.program (asked.limit - m.state.count) m.state

-- the part of a text was written that stands before the part that is left
pub record HasLogged (whole left : List ℕ) (before after : Option (List ℕ)) : Type 0 where
  pub text : List ℕ
  pub says : Appends before after text
  pub is : whole ≡ text ++ left

-- a text was written up to a part that is left, and the run has ended so
pub record HasLoggedRun (whole left : List ℕ) (end : Ending × State) (ending : Ending) (before after : Option (List ℕ)) : Type 0 where
  pub logged : HasLogged whole left before after
  pub ends : ending ≡ end.0
