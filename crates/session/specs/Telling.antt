-- What is told of one line of a script.
use Rattle.std.specs.Prelude.{◌≡◌, ℕ, List, [], ◌++◌, codes, decimal}
use Rattle.isa.specs.Report.{newline}
use Rattle.session.specs.declared.commands.Command.{Command}
use Rattle.session.specs.declared.reading.Line.{Line}
use Rattle.session.specs.declared.reading.Line.TheVariants.{Asks, Help, List as AsksList, Miscounted, Nothing, Queue, Quit, Table, Turns, Undo, Unknown, Wants}
use Rattle.session.specs.declared.verbs.Verb.{Verb}
use Rattle.session.specs.declared.verbs.Verb.TheVariants as verb
use Rattle.session.specs.declared.replies.Reply.{Reply}
use Rattle.session.specs.declared.help.TheConstants.{HELP}
use Rattle.session.specs.Commands.{verb_name}
use Rattle.session.specs.Sessions.{IsReplied, OnlyLooked, TheSession}
use Rattle.session.specs.Texts.{IsLineOf}
use Rattle.session.specs.Turns.{IsTable, TurnsSay}

-- The text that names the operands of a command
abbrev pub operands_of_verb : Verb → List ℕ
operands_of_verb verb.Turn = codes "no operand, or a pc"
operands_of_verb verb.Refresh = codes "no operand, or a station"
operands_of_verb verb.Step = codes "a number of instructions"
operands_of_verb verb.Until = codes "a pc, blocked, misprediction or stale"
operands_of_verb verb.Claim = codes "a unit, A to Z or AA to BL, and a station"
operands_of_verb verb.Finish = codes "a unit, A to Z or AA to BL, and a station"
operands_of_verb verb.Look = codes "a station"
operands_of_verb verb.Info = codes "a station"
operands_of_verb verb.Station = codes "a station"
operands_of_verb verb.Operand = codes "a station and a source, 1 or 2"
operands_of_verb verb.Link = codes "a station and a source, 1 or 2"
operands_of_verb verb.Creator = codes "a register, as $t0, $8 or 8"
operands_of_verb verb.Meet = codes "two of front, back and units"
operands_of_verb _ = codes "no operand"

-- The text for a line whose first word is none of a command
abbrev pub unknown_text : ℕ → List ℕ
unknown_text number = codes "line " ++ (decimal number ++ codes ": unknown word; help lists the commands\n")

-- The text for a line whose operands are none of its command
abbrev pub wants_text : ℕ → Verb → List ℕ
wants_text number v =
    codes "line " ++ (decimal number ++ (codes ": " ++ (verb_name v ++ (codes " takes "
    ++ (operands_of_verb v ++ newline)))))

-- The text for a line whose count is too great
abbrev pub miscounted_text : ℕ → List ℕ
miscounted_text number = codes "line " ++ (decimal number ++ codes ": a count is at most 1000\n")

-- A command was answered, and this is the line of its reply
pub record IsAnswered (old new : TheSession) (number : ℕ) (command : Command) (text : List ℕ) : Type 0 where
  pub reply : Reply
  pub replied : IsReplied old new command reply
  pub text_is : IsLineOf number reply text

-- The text of the result of a line of this number. A line that makes no call changes nothing. An undo stands apart
abbrev pub LineSays : TheSession → TheSession → ℕ → Line → List ℕ → Type 0
LineSays old new number Nothing text = (text ≡ []) × (new ≡ old)
LineSays old new number Unknown text = (text ≡ unknown_text number) × (new ≡ old)
LineSays old new number Miscounted text = (text ≡ miscounted_text number) × (new ≡ old)
LineSays old new number (Wants v) text = (text ≡ wants_text number v) × (new ≡ old)
LineSays old new number (Asks command) text = IsAnswered old new number command text
LineSays old new number Table text = IsTable number old new text
LineSays old new number Queue text = OnlyLooked old new
LineSays old new number (Turns goal) text = TurnsSay goal number old new text
LineSays old new number Undo text = (text ≡ []) × (new ≡ old)
LineSays old new number Help text = (text ≡ HELP.now) × (new ≡ old)
LineSays old new number AsksList text = new ≡ old
LineSays old new number Quit text = (text ≡ []) × (new ≡ old)
