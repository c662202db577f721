-- The result of building the command line.
use Rattle.std.proofs.Common.{◌≡◌, ◌∙◌, ◌+◌, ◌<◌, ℕ, zero, suc, List, [], ◌∷◌, ap, ap₂, true, false, ◌||◌, refl, sym, length, map, drop, slice_index_or, subst, arith, codes}
use Rattle.clap.specs.Words.{AddsArg, AddsSubcommand, App, Rule, Text, app_of, new_app, with_rule, with_subcommand}
use Rattle.clap.specs.Faults.{is_simple_and_free}
use Rattle.clap.proofs.OnLiterals.{clap_on_literals}
use Rattle.clap.specs.declared.builder.arg.Arg.{Arg}
use Rattle.clap.specs.declared.builder.command.Command.{Command}
use Rattle.clap.specs.declared.builder.command.Command.TheViews.{out-Command}
use Rattle.command_line.specs.Tool.{IsArg, IsCommand, app_of_word, spelling_of, rule_of_argument, rules_of, tool, with_rules, with_version}
use Rattle.command_line.specs.declared.arguments.Argument.{Argument}
use Rattle.command_line.specs.declared.word.Word.{Word}
use Rattle.command_line.specs.declared.word.Word.TheVariants.{Run, Chart, Commits, Check, Drive}

-- the command that is built so far becomes that of all arguments with those that are left
pub record IsBuilt (app : App) (arguments left : List Argument) (built : Command) : Type 0 where
  pub same : with_rules (app_of built) (map rule_of_argument left) ≡ with_rules app (map rule_of_argument arguments)
  pub local : (out-Command built).has_globals ≡ false

left_of : (app : App) (arguments : List Argument) (i : ℕ) (d : Argument) → i < length arguments
    → with_rules app (map rule_of_argument (drop i arguments))
    ≡ with_rules (with_rule app (rule_of_argument (slice_index_or arguments i d))) (map rule_of_argument (drop (suc i) arguments))
left_of app [] i d few = absurd (omega (arith, few))
left_of app (a ∷ rest) zero d few = refl
left_of app (a ∷ rest) (suc i) d few = left_of app rest i d (omega (arith, few))

-- one more argument
pub one_more : (app : App) (arguments : List Argument) (i : ℕ) (d : Argument) (old new : Command) (arg : Arg) → i < length arguments
    → IsBuilt app arguments (drop i arguments) old → IsArg (rule_of_argument (slice_index_or arguments i d)) arg → AddsArg old arg new
    → IsBuilt app arguments (drop (i + 1) arguments) new
one_more app arguments i d old new arg few before is adds =
    let next : i + 1 ≡ suc i = omega arith in
    let shape : app_of new ≡ with_rule (app_of old) (rule_of_argument (slice_index_or arguments i d)) =
    adds.shape is.local ∙ ap (with_rule (app_of old)) is.is in
    rw next (record {
      same = ap (λ (a : App). with_rules a (map rule_of_argument (drop (suc i) arguments))) shape
          ∙ sym (left_of (app_of old) arguments i d few) ∙ before.same;
      local = adds.globals ∙ ap₂ ◌||◌ before.local is.local;
    })

-- the program of a word
pub program_is : (word : App) (top command new : Command) → app_of top ≡ with_version (new_app (codes "ruu")) → IsCommand word command
    → AddsSubcommand top command new → app_of new ≡ tool word
program_is word top command new is built adds = adds.shape built.local ∙ ap₂ with_subcommand is (ap (λ (a : App). a.top) built.is)

-- the command of a word is built from the word's page
pub word_is : (word : Word) (name : Text) (rules : List Rule) (headed : App) (command : Command) → name ≡ spelling_of word
    → rules ≡ rules_of word → headed ≡ with_version (new_app name) → IsCommand (with_rules headed rules) command
    → IsCommand (app_of_word word) command
word_is word name rules headed command named ruled is built =
    subst (λ (app : App). IsCommand app command) (ap₂ with_rules (is ∙ ap (λ (n : Text). with_version (new_app n)) named) ruled) built

pub has_name : (word : Word) → (app_of_word word).top.name ≡ spelling_of word
has_name Run = refl
has_name Chart = refl
has_name Commits = refl
has_name Check = refl
has_name Drive = refl

-- clap's exact matches are known of each program
pub is_simple : (word : Word) → is_simple_and_free (tool (app_of_word word)) ≡ true
unfolding clap_on_literals
is_simple Run = refl
is_simple Chart = refl
is_simple Commits = refl
is_simple Check = refl
is_simple Drive = refl
