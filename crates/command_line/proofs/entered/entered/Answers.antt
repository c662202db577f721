use Rattle.std.proofs.Common.{◌≡◌, ◌∙◌, sym, ap, map, List, [], Some}
use Rattle.std.proofs.lemmas.Option.{none-some}
use Rattle.clap.specs.Words.{App, Text, app_of, fault_of, found_of, rows_of}
use Rattle.clap.specs.Kinds.{HasKind}
use Rattle.command_line.specs.Tool.{app_of_word, tool}
use Rattle.command_line.proofs.Building.{has_name, is_simple}
use Rattle.command_line.proofs.Refusing.{names_no_word, refused_by_clap}
use Rattle.command_line.proofs.WordRows.{at_tool, enters_name, has_entered, is_named, is_not_named, same_text}
use Rattle.command_line.proofs.entered.entered.Goals as goal

pub returns-in-Err-clause-err : goal.returns-in-Err-clause-err
returns-in-Err-clause-err g c =
    let words : List Text = map g.S.AsStr.text c.args.words.now in
    let word : App = app_of_word c.args.word in
    let has = at_tool (λ (a : App). HasKind (fault_of a words) c.in-Err.error) (app_of c.in_ok-command.command) (tool word) c.in_ok-command.ensures
    (is_simple c.args.word) c.in-Err.ensures.kinds in
    refused_by_clap word words c.in-Err.error c.refused.result has c.refused.ensures

pub returns-in_default-clause-err : goal.returns-in_default-clause-err
returns-in_default-clause-err g c =
    let words : List Text = map g.S.AsStr.text c.args.words.now in
    let word : App = app_of_word c.args.word in
    let app = app_of c.in_ok-command.command in
    let simple = is_simple c.args.word in
    let taken = at_tool (λ (a : App). fault_of a words ≡ []) app (tool word) c.in_ok-command.ensures simple c.in-Ok.ensures.kinds in
    names_no_word word words c.usage.result c.usage.ensures taken (λ rows entered.
    let named = enters_name app (tool word) words c.in-Ok.matches word.top.name rows c.in_ok-command.ensures simple c.in-Ok.ensures.matches
    entered.matches in
    none-some word.top.name (c.in_default.ensures.name ∙ named))

pub returns-then-ne-clause-err : goal.returns-then-ne-clause-err
returns-then-ne-clause-err g c =
    let words : List Text = map g.S.AsStr.text c.args.words.now in
    let word : App = app_of_word c.args.word in
    let app = app_of c.in_ok-command.command in
    let simple = is_simple c.args.word in
    let taken = at_tool (λ (a : App). fault_of a words ≡ []) app (tool word) c.in_ok-command.ensures simple c.in-Ok.ensures.kinds in
    names_no_word word words c.usage-then-ne.result c.usage-then-ne.ensures taken (λ rows entered.
    let named = enters_name app (tool word) words c.in-Ok.matches word.top.name rows c.in_ok-command.ensures simple c.in-Ok.ensures.matches
    entered.matches in
    is_not_named c.in-Some.found.now c.page_of-page.result.name.now c.ne.result c.ne.ensures c.if-ne.true
    (same_text (c.in-Some.ensures.name ∙ named) ∙ has_name c.args.word ∙ sym c.page_of-page.ensures.name))

pub returns-clause-ok : goal.returns-clause-ok
returns-clause-ok g c =
    let words : List Text = map g.S.AsStr.text c.args.words.now in
    let word : App = app_of_word c.args.word in
    let app = app_of c.in_ok-command.command in
    let simple = is_simple c.args.word in
    let taken = at_tool (λ (a : App). fault_of a words ≡ []) app (tool word) c.in_ok-command.ensures simple c.in-Ok.ensures.kinds in
    let same = is_named c.in-Some.found.now c.page_of-page.result.name.now c.ne.result c.ne.ensures c.if-ne.false in
    let named = same ∙ c.page_of-page.ensures.name ∙ sym (has_name c.args.word) in
    record {
      taken = taken;
      matches = has_entered app (tool word) words c.in-Ok.matches word.top.name (rows_of (found_of c.in-Some.matches)) c.in_ok-command.ensures simple
          c.in-Ok.ensures.matches (sym c.in-Some.ensures.name ∙ ap (λ (t : Text). Some t) named) (sym c.in-Some.ensures.rows);
    }
