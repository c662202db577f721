use Rattle.std.proofs.Common.{inr, [], ◌++◌, ◌∙◌, ap, refl, string_bytes}
use Rattle.session.proofs.Tries.{untold}
use Rattle.session.proofs.turns.tried.Goals as goal

pub returns-then-is_quiet : goal.returns-then-is_quiet
returns-then-is_quiet g c =
    let one = c.answer-reply in
    untold c.args.number c.args.session.now one.new.self c.args.command one.result (string_bytes c.args.out.now) one.ensures

pub returns : goal.returns
returns g c =
    let before = string_bytes c.args.out.now in
    let line = string_bytes c.in_ok-line.line in
    record {
      reply = c.answer-reply.result;
      told = line;
      replied = c.answer-reply.ensures;
      tells = inr (line, record { before = []; is = refl }, c.in_ok-line.ensures);
      written = c.in_ok-push_str.ensures.bytes ∙ ap (λ xs. before ++ xs) c.as_str.ensures.value;
    }
