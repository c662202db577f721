-- The lines of a script, by what they ask for.
use Rattle.std.specs.Prelude.{◌≡◌, ◌≢◌, ◌⊎◌, ℕ, Bool, true, false, not, is_none, [], Option, Some, None, if◌then◌else◌}
use Rattle.std.specs.Option.{option_map, option_or}
use Rattle.lexical.specs.Number.{decimal_in}
use Rattle.session.specs.declared.commands.Command.{Command}
use Rattle.session.specs.declared.commands.Command.TheVariants as call
use Rattle.session.specs.declared.reading.Goal.{Goal}
use Rattle.session.specs.declared.reading.Goal.TheVariants.{Event, Next, Retired}
use Rattle.session.specs.declared.reading.Line.{Line}
use Rattle.session.specs.declared.reading.Line.TheVariants as line
use Rattle.session.specs.declared.verbs.Verb.{Verb}
use Rattle.session.specs.declared.verbs.Verb.TheVariants as verb
use Rattle.session.specs.Commands.{command_of, only_event, only_number, only_pc, verb_name, without_operands}
use Rattle.session.specs.Tokens.{Texts, is_empty}

-- The event or the pc up to which turns are taken
abbrev pub goal_of : Texts → Option Goal
goal_of w = option_or (option_map (λ e. Event e) (only_event w)) (option_map (λ pc. Next pc) (only_pc w))

-- The line of a word and its operands
abbrev pub line_by : Verb → Texts → Option Line
line_by verb.Table w = without_operands w line.Table
line_by verb.Queue w = without_operands w line.Queue
line_by verb.Step w = option_map (λ count. line.Turns (Retired count)) (only_number w)
line_by verb.Until w = option_map (λ g. line.Turns g) (goal_of w)
line_by verb.Undo w = without_operands w line.Undo
line_by verb.Help w = without_operands w line.Help
line_by verb.List w = without_operands w line.List
line_by verb.Quit w = without_operands w line.Quit
line_by v w = option_map (λ c. line.Asks c) (command_of v w)

-- Some line, or this one where there is none
abbrev pub line_or : Line → Option Line → Line
line_or other None = other
line_or other (Some l) = l

-- How often a command is asked for, by the count before it
abbrev pub times_named : Texts → Option ℕ
times_named w = if is_empty w.count then Some 1 else decimal_in 1000 w.count

-- The line has the word of a command, a count that fits, and operands that are this command's, or none of it
pub record IsOfVerb (w : Texts) (l : Line) : Type 0 where
  pub verb : Verb
  pub named : w.verb ≡ verb_name verb
  pub counted : is_none (times_named w) ≡ false
  pub is : l ≡ line_or (line.Wants verb) (line_by verb w)

-- The line has the word of a command, and a count that is too great
pub record IsMiscounted (w : Texts) (l : Line) : Type 0 where
  pub verb : Verb
  pub named : w.verb ≡ verb_name verb
  pub counted : is_none (times_named w) ≡ true
  pub is : l ≡ line.Miscounted

-- The word is none of a command
pub record IsUnknown (w : Texts) (l : Line) : Type 0 where
  pub some : w.verb ≢ []
  pub none : (v : Verb) → w.verb ≢ verb_name v
  pub is : l ≡ line.Unknown

-- A line without words asks for nothing
pub record IsNothing (w : Texts) (l : Line) : Type 0 where
  pub none : w.verb ≡ []
  pub is : l ≡ line.Nothing

-- The line that these words are
abbrev pub IsLine : Texts → Line → Type 0
IsLine w l = IsNothing w l ⊎ IsUnknown w l ⊎ IsMiscounted w l ⊎ IsOfVerb w l

-- The line is a command, or asks for nothing
abbrev pub is_command : Line → Bool
is_command line.Unknown = false
is_command line.Miscounted = false
is_command (line.Wants v) = false
is_command l = true

-- The number, if there is one, and else 1
abbrev pub or_once : Option ℕ → ℕ
or_once None = 1
or_once (Some times) = times

-- How often a line is done. Of one that is no command is told once
abbrev pub times_of : Texts → Line → ℕ
times_of w l = if is_command l then or_once (times_named w) else 1

-- The command only asks
abbrev pub is_question : Command → Bool
is_question (call.Look station) = true
is_question (call.Creator register) = true
is_question call.Touched = true
is_question (call.Info station) = true
is_question (call.Operand station k) = true
is_question (call.Link station k) = true
is_question (call.Station station) = true
is_question call.Ring = true
is_question call.Report = true
is_question command = false

-- The line may change more than what was seen
abbrev pub may_change : Line → Bool
may_change (line.Asks command) = not (is_question command)
may_change (line.Turns goal) = true
may_change l = false

-- The line takes a command back
abbrev pub is_undo : Line → Bool
is_undo line.Undo = true
is_undo l = false

-- The line ends its script
abbrev pub ends_script : Line → Bool
ends_script line.Quit = true
ends_script l = false
