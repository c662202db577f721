use Rattle.std.proofs.Common.{◌++◌, ◌∙◌, ap, string_bytes}
use Rattle.session.specs.Texts.{HasAddedText}
use Rattle.session.specs.Undoing.{LineComesTo}
use Rattle.session.proofs.Undone.{one_more_time}
use Rattle.session.proofs.undo.push_told.Goals as goal

pub loop-preserved : goal.loop-preserved
loop-preserved g c =
    let at = c.loop in
    let next = c.once.new.session in
    let before = at.out.items in
    let more : HasAddedText (LineComesTo at.session next c.args.number c.args.line) before c.extend_from_slice.new.self.items = record {
      text = string_bytes c.in_ok-text.text;
      fact = c.in_ok-text.ensures;
      written = c.in_ok-extend_from_slice.ensures.items ∙ ap (λ xs. before ++ xs) (c.as_bytes.ensures.value ∙ c.as_str.ensures.value);
    } in
    one_more_time c.args.session.now at.session next c.args.number at.counter c.args.line
    c.args.out.now.items before c.extend_from_slice.new.self.items at.invariant more
