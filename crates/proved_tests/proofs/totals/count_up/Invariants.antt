use Rattle.std.specs.Prelude.{◌≡◌}
use Rattle.counts.specs.Shares.{plus, share_of}
use Rattle.counts.specs.declared.tally.Total.TheVariants.{Lets}
use Rattle.proved_tests.proofs.totals.count_up.Given as goal

abbrev pub invariant-loop : goal.invariant-loop
invariant-loop l = (l.seat.of ≡ l.counts) × (share_of Lets l.seat.shares ≡ plus l.counter (share_of Lets l.initial.seat.shares))
