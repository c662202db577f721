use Rattle.std.proofs.Common.{string_bytes}
use Rattle.session.specs.declared.commands.Command.TheVariants.{Ring}
use Rattle.session.proofs.Tries.{tried_behind}
use Rattle.session.proofs.turns.advance.Goals as goal

pub returns : goal.returns
returns g c =
    let one = c.answer-reply in
    tried_behind c.args.number c.args.session.now one.new.self c.go.new.session Ring one.result (string_bytes c.args.out.now) (string_bytes c.go.new.out) c.go.result
    one.ensures c.go.ensures
