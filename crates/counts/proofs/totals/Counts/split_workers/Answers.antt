use Rattle.std.proofs.Common.{rules, arith}
use Rattle.counts.proofs.Cuts.{cuts}
use Rattle.counts.proofs.totals.Counts.split_workers.Goals as goal

pub split_seat-other-requires : goal.split_seat-other-requires
split_seat-other-requires c = (search rules, (let w = c.self.invariant in omega arith), search cuts)
