use Rattle.std.proofs.Common.{rules, arith}
use Rattle.counts.proofs.Cuts.{cuts}
use Rattle.counts.proofs.totals.Counts.split.Goals as goal

pub split_seat-second-requires : goal.split_seat-second-requires
split_seat-second-requires c = (search rules, (let w = c.self.invariant in omega arith), search cuts)
