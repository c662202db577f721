-- The command line, as clap reads it.
use Rattle.std.specs.Prelude.{◌≡◌, List, [], ◌∷◌, Some, codes, true, false}
use Rattle.clap.specs.Words.{App, Rule, Text, app_of, new_app, new_rule, rule_of}
use Rattle.clap.specs.Words.{with_rule, with_subcommand}
use Rattle.clap.specs.Simple.{on_top}
use Rattle.clap.specs.declared.builder.arg.Arg.{Arg}
use Rattle.clap.specs.declared.builder.command.Command.{Command}
use Rattle.clap.specs.declared.builder.command.Command.TheViews.{out-Command}
use Rattle.clap.specs.declared.builder.action.ArgAction.TheVariants.{SetTrue}
use Rattle.command_line.specs.declared.arguments.Argument.{Argument}
use Rattle.command_line.specs.declared.arguments.Argument.TheVariants.{File, Valued, Flag}
use Rattle.command_line.specs.declared.word.Word.{Word}
use Rattle.command_line.specs.declared.word.Word.TheVariants.{Run, Chart, Commits, Check, Drive}

-- the file of the listing
abbrev pub file_rule : Rule
file_rule = record (new_rule (codes "FILE")) { required = true }

-- an option with one value
abbrev pub option_rule : Text → Rule
option_rule name = record (new_rule name) { long = Some name; value_names = 1 }

-- a flag
abbrev pub flag_rule : Text → Rule
flag_rule name = record (new_rule name) { long = Some name; action = Some SetTrue }

-- the arguments of a word
abbrev pub rules_of : Word → List Rule
rules_of Run =
    file_rule ∷ option_rule (codes "ruu-size") ∷ option_rule (codes "lsq-size") ∷ option_rule (codes "units")
    ∷ option_rule (codes "bpred") ∷ option_rule (codes "turns") ∷ option_rule (codes "limit")
    ∷ flag_rule (codes "alone") ∷ flag_rule (codes "progress") ∷ option_rule (codes "seed")
    ∷ option_rule (codes "shake") ∷ []
rules_of Chart =
    file_rule ∷ option_rule (codes "ruu-size") ∷ option_rule (codes "lsq-size") ∷ option_rule (codes "bpred")
    ∷ option_rule (codes "limit") ∷ option_rule (codes "seed") ∷ option_rule (codes "rows")
    ∷ flag_rule (codes "by-leave") ∷ option_rule (codes "trace") ∷ []
rules_of Commits =
    file_rule ∷ option_rule (codes "limit") ∷ option_rule (codes "from") ∷ option_rule (codes "hash")
    ∷ flag_rule (codes "text") ∷ []
rules_of Check = file_rule ∷ flag_rule (codes "all") ∷ []
rules_of Drive =
    file_rule ∷ option_rule (codes "ruu-size") ∷ option_rule (codes "lsq-size") ∷ option_rule (codes "bpred")
    ∷ option_rule (codes "first-tag") ∷ flag_rule (codes "quiet-prompt") ∷ flag_rule (codes "echo")
    ∷ option_rule (codes "shuffle") ∷ option_rule (codes "steps") ∷ []

-- with arguments in turn
abbrev pub with_rules : App → List Rule → App
with_rules app [] = app
with_rules app (rule ∷ rules) = with_rules (with_rule app rule) rules

-- with a version
abbrev pub with_version : App → App
with_version = on_top (λ s. record s { has_version = true })

-- the text of a word
abbrev pub spelling_of : Word → Text
spelling_of Run = codes "run"
spelling_of Chart = codes "chart"
spelling_of Commits = codes "commits"
spelling_of Check = codes "check"
spelling_of Drive = codes "drive"

-- the command of a word
abbrev pub app_of_word : Word → App
app_of_word word = with_rules (with_version (new_app (spelling_of word))) (rules_of word)

-- what clap reads of an argument
abbrev pub rule_of_argument : Argument → Rule
rule_of_argument (File help) = file_rule
rule_of_argument (Valued name value help) = option_rule name.now
rule_of_argument (Flag name help) = flag_rule name.now

-- the program of a word: `ruu`, with this command alone
abbrev pub tool : App → App
tool word = with_subcommand (with_version (new_app (codes "ruu"))) word.top

-- the argument stands for this rule, in its own command alone
pub record IsArg (rule : Rule) (arg : Arg) : Type 0 where
  pub is : rule_of arg ≡ rule
  pub local : arg.global ≡ false

-- the command stands for this one, and shares no argument with those below it
pub record IsCommand (app : App) (command : Command) : Type 0 where
  pub is : app_of command ≡ app
  pub local : (out-Command command).has_globals ≡ false
