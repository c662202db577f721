use Rattle.std.proofs.Common.{rules, subst}
use Rattle.checker.specs.Diagnostics.{error}
use Rattle.checker.specs.Spots.{IsAdvice}
use Rattle.checker.proofs.explanation.push_line.Goals as goal

pub returns : goal.returns
returns c =
    let number = c.args.found.fault.line in
    let help = c.as_slice.result.now in
    let told = c.push_advice.new.text.items in
    record {
      part = c.marked-part.result;
      help = help;
      text = told;
      note = c.as_bytes.result.now;
      lies = search rules;
      advice =
          subst (λ t. IsAdvice c.args.source.file.now number c.marked-part.result error help t c.args.text.now.items told) c.sentence-rule.ensures
          c.in_ok-push_advice.ensures;
      is = c.in_ok-extend_from_slice.ensures.items;
    }
