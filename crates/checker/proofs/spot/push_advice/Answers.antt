use Rattle.std.proofs.Common.{◌∙◌, ◌+◌, ◌++◌, ap, codes, decimal}
use Rattle.std.specs.Prelude.{flat_map}
use Rattle.checker.specs.Spots.{headline, rule_line, shown}
use Rattle.checker.proofs.Texts.{placed}
use Rattle.checker.proofs.spot.push_advice.Goals as goal

pub returns : goal.returns
returns c =
    let spot = c.args.spot in
    let help = c.args.help.now in
    let rule = c.args.rule.now in
    let quote = c.as_slice.result.now in
    let at = c.in_ok-extend_from_slice-2.ensures.items
    ∙ ap (λ t. c.extend_from_slice.new.self.items ++ t) (c.as_bytes.ensures.value ∙ c.in_ok-place.ensures.ok) in
    let first = c.in_ok-push_shown.ensures ∙ ap (λ t. c.extend_from_slice-2.new.self.items ++ flat_map shown t) c.headline-first.ensures in (
      quote,
      placed c.args.text.now.items spot.file.now (codes ":") (decimal spot.number) (codes ":") (decimal (c.args.part.from + 1))
          (codes ": ") c.args.severity.now (flat_map shown (headline help rule)) (flat_map shown quote) (rule_line help rule)
          c.extend_from_slice.new.self.items c.extend_from_slice-2.new.self.items c.push_shown.new.text.items c.push.new.self.items
          c.push_shown-2.new.text.items c.push_rule.new.text.items c.in_ok-extend_from_slice.ensures.items at first
          c.in_ok-push.ensures.items c.in_ok-push_shown-2.ensures c.in_ok-push_rule.ensures,
    )
