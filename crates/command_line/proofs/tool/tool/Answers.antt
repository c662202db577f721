use Rattle.std.proofs.Common.{◌∙◌, ap, map}
use Rattle.std.proofs.lemmas.Result.{IfOk-weaker}
use Rattle.clap.specs.Simple.{app_of_fields}
use Rattle.clap.specs.Words.{app_of}
use Rattle.command_line.specs.Tool.{app_of_word, rule_of_argument, with_version}
use Rattle.command_line.proofs.Building.{program_is, word_is}
use Rattle.command_line.proofs.tool.tool.Goals as goal

pub returns : goal.returns
returns c =
    let page = c.page_of-page in
    let top = ap app_of_fields c.about-top.ensures ∙ ap app_of_fields c.version.ensures ∙ ap with_version c.new-named.ensures.app in
    let word = word_is c.args.word page.result.name.now (map rule_of_argument page.result.arguments.now) (app_of c.headed.result)
    c.in_ok-command.command page.ensures.name page.ensures.arguments c.headed.ensures.is c.in_ok-command.ensures in
    IfOk-weaker c.subcommand.result _ _ (λ r adds. program_is (app_of_word c.args.word) c.about-top.result _ r top word adds)
    c.subcommand.ensures
