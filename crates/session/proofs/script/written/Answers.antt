use Rattle.std.proofs.Common.{◌++◌, ◌∙◌, ap, subst}
use Rattle.session.specs.Transcripts.{echo_text}
use Rattle.session.specs.Undoing.{ComesTo}
use Rattle.session.proofs.script.written.Goals as goal

pub returns : goal.returns
returns g c =
    let added = c.in_ok-push_told.ensures in
    let says = subst (λ n. ComesTo n c.args.session.now c.push_told.new.session c.args.number c.args.asked added.text) c.times_in-times.ensures added.fact in
    record {
      told = added.text;
      says = record { line = c.args.asked; line_is = c.requires; says = says };
      text_is = added.written ∙ ap (λ xs. xs ++ added.text) (c.in_ok-push_echo.ensures ∙ ap (λ xs. xs ++ echo_text c.args.echo c.args.line.now) c.new-out.ensures.items);
    }
