use Rattle.std.proofs.Common.{arith, rules}
use Rattle.isa.proofs.HexDigits.{eight_digits}
use Rattle.commit_log.proofs.hash.DigitsDisplay.fmt.Goals as goal

pub returns-clause-writes : goal.returns-clause-writes
returns-clause-writes g c = rw (← eight_digits c.args.self.now.0 (omega arith)) (search rules)
