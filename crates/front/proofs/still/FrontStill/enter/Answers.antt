use Rattle.std.proofs.Common.{sym, ◌∙◌}
use Rattle.std.proofs.Math.Nat.{zero-mod}
use Rattle.front.proofs.still.FrontStill.enter.Goals as goal

pub enter_at-requires-clause-next : goal.enter_at-requires-clause-next
enter_at-requires-clause-next g c = c.requires.first ∙ sym (zero-mod c.args.seat.core.sizes.ring)
