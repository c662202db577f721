use Rattle.std.proofs.Common.{◌++◌, ◌∙◌, ap}
use Rattle.session.proofs.Scripts.{appended}
use Rattle.session.proofs.play.push_line.Goals as goal

pub returns : goal.returns
returns g c =
    let before = c.args.out.now.items in
    appended c.extend_from_slice.result before c.extend_from_slice.new.self.items c.as_slice.result.now c.extend_from_slice.ensures.items
    (λ is. record { text = c.in_ok-text.text.items; written = c.in_ok-text.ensures; is = is ∙ ap (λ xs. before ++ xs) c.as_slice.ensures.value })
