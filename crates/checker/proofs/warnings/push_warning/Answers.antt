use Rattle.std.proofs.Common.{subst}
use Rattle.checker.specs.Spots.{IsAdvice}
use Rattle.checker.specs.Warnings.{Warned, warning}
use Rattle.checker.proofs.Warned.{one_warned}
use Rattle.checker.proofs.warnings.push_warning.Goals as goal

pub returns : goal.returns
returns c =
    let spot = c.args.spot in
    let old = c.args.text.now.items in
    let new = c.push_advice.new.text.items in
    let warned : Warned =
    record { number = spot.number; line = spot.line.now; part = c.args.part; kind = c.args.warning; help = c.args.help.now } in
    let text = subst (λ t. IsAdvice spot.file.now spot.number c.args.part warning c.args.help.now t old new) c.said.ensures c.in_ok-push_advice.ensures in
    rw (← c.requires.spot.file)
    (one_warned spot.file.now c.args.good.now.bytes.now c.args.good.now.program.now warned old new
    (record { line_is = c.requires.spot.line; lies = c.requires.part; right = c.requires.right; text = text }))
