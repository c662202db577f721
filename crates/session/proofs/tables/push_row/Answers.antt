use Rattle.std.proofs.Common.{inr, ◌++◌, ◌∙◌, refl, append_assoc, string_bytes}
use Rattle.session.proofs.Scripts.{appended}
use Rattle.session.proofs.Tries.{untold}
use Rattle.session.proofs.tables.push_row.Goals as goal

pub returns-then-not-has_row : goal.returns-then-not-has_row
returns-then-not-has_row g c =
    let one = c.answer-reply in
    untold c.args.number c.args.session.now one.new.self c.args.command one.result (string_bytes c.args.out.now) one.ensures

pub returns : goal.returns
returns g c =
    let before = string_bytes c.args.out.now in
    let name = c.as_str.result.now in
    let line = string_bytes c.in_ok-line.line in
    appended c.push_str-2.result (string_bytes c.push_str.new.self) (string_bytes c.push_str-2.new.self) c.as_str-2.result.now c.push_str-2.ensures.bytes
    (λ is. record {
      reply = c.answer-reply.result;
      told = name ++ line;
      replied = c.answer-reply.ensures;
      tells = inr (line, record { before = name; is = refl }, c.in_ok-line.ensures);
      written = is ∙ ((λ i. c.in_ok-push_str.ensures.bytes i ++ c.as_str-2.ensures.value i) ∙ append_assoc before name line);
    })
