use Rattle.std.proofs.Common.{◌+◌, ◌≤◌, ◌∙◌, ap, arith, Some}
use Rattle.lsq.specs.Entries.{bytes}
use Rattle.lsq.proofs.Taken.{taken_is}
use Rattle.lsq.proofs.answer.taken_from.Goals as goal

pub returns-then-end_of : goal.returns-then-end_of
returns-then-end_of c =
    let within : c.args.address + bytes c.args.width ≤ c.in_ok-base.base + bytes c.args.store.now.width = omega arith in
    ap Some c.low_bytes.ensures
    ∙ taken_is c.args.store.now.address c.args.store.now.content _ _ _ _ _
    c.in_ok-base.was c.in_ok-content.was c.if-base-address.true within
