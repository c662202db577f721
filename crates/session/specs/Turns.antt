-- Commands that are tried one after another, as those of a table, and turns in the order of the unit on one thread.
use Rattle.std.specs.Prelude.{◌≡◌, ◌⊎◌, ℕ, zero, suc, ◌+◌, ◌-◌, nat_lt, not, is_some, Bool, true, false, List, [], ◌∷◌, ◌++◌, if◌then◌else◌}
use Rattle.instructions.specs.Programs.{Program, instr_at}
use Rattle.instructions.specs.Registers.{register_count}
use Rattle.session.specs.declared.commands.Command.{Command}
use Rattle.session.specs.declared.commands.Command.TheVariants as ask
use Rattle.session.specs.declared.reading.Goal.{Goal}
use Rattle.session.specs.declared.reading.Goal.TheVariants.{Next}
use Rattle.session.specs.declared.replies.Reply.{Reply}
use Rattle.session.specs.Sessions.{IsReplied, TheSession}
use Rattle.session.specs.Texts.{IsLineOf}

-- A text ends with another one
pub record EndsWith (text end : List ℕ) : Type 0 where
  pub before : List ℕ
  pub is : text ≡ before ++ end

-- What is told of an answer: nothing, or its line, perhaps after its command
abbrev pub Tells : (number : ℕ) → Reply → List ℕ → Type 0
Tells number reply told = (told ≡ []) ⊎ ((line : List ℕ) × EndsWith told line × IsLineOf number reply line)

-- A command was answered, and what is told of the answer was added
pub record IsTried (number : ℕ) (old new : TheSession) (command : Command) (before after : List ℕ) :
    Type 0 where
  pub reply : Reply
  pub told : List ℕ
  pub replied : IsReplied old new command reply
  pub tells : Tells number reply told
  pub written : after ≡ before ++ told

-- These commands were answered, the last one first
abbrev pub AreTried : (number : ℕ) → TheSession → List Command → List ℕ → TheSession → Type 0
AreTried number first [] text last = (text ≡ []) × (last ≡ first)
AreTried number first (command ∷ earlier) text last =
    (middle : TheSession) × (before : List ℕ)
    × AreTried number first earlier before middle
    × IsTried number middle last command before text

-- Some commands were tried, and what was told of them was added
pub record HasTried (number : ℕ) (old new : TheSession) (before after : List ℕ) : Type 0 where
  pub commands : List Command
  pub text : List ℕ
  pub tried : AreTried number old commands text new
  pub written : after ≡ before ++ text

-- The command of a row of a table: of the stations, then of the registers, and of the ring last
abbrev pub row_command : (ring row : ℕ) → Command
row_command ring row =
    if nat_lt row ring then ask.Station row
    else if nat_lt row (ring + register_count) then ask.Creator (row - ring) else ask.Ring

-- The commands of n rows, the last one first
abbrev pub row_commands : (ring n : ℕ) → List Command
row_commands ring zero = []
row_commands ring (suc n) = row_command ring n ∷ row_commands ring n

-- A table: what is told of each of its rows
abbrev pub IsTable : (number : ℕ) → TheSession → TheSession → List ℕ → Type 0
IsTable number old new text =
    let ring = old.core.sizes.ring in
    AreTried number old (row_commands ring (ring + register_count + 1)) text new

-- No instruction is at the pc of a goal
abbrev pub is_nowhere : Program → Goal → Bool
is_nowhere P (Next pc) = not (is_some (instr_at P pc))
is_nowhere P goal = false

-- Turns up to a goal; none where no instruction is at its pc, which is told
pub record TurnsSay (goal : Goal) (number : ℕ) (old new : TheSession) (text : List ℕ) : Type 0 where
  pub nowhere : is_nowhere old.core.program goal ≡ true → new ≡ old
  pub turns : is_nowhere old.core.program goal ≡ false → HasTried number old new [] text
