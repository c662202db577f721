use Rattle.std.proofs.Common.{◌∙◌, ap}
use Rattle.clap.specs.Simple.{app_of_fields}
use Rattle.command_line.specs.Tool.{with_version}
use Rattle.command_line.proofs.tool.headed.Goals as goal

pub returns : goal.returns
returns c =
    let same = c.after_help.ensures in
    record {
      is = ap app_of_fields same ∙ ap app_of_fields c.about.ensures ∙ ap app_of_fields c.version.ensures
          ∙ ap with_version c.new-command.ensures.app;
      local = ap (λ f. f.has_globals) same ∙ ap (λ f. f.has_globals) c.about.ensures
          ∙ ap (λ f. f.has_globals) c.version.ensures ∙ c.new-command.ensures.local;
    }
