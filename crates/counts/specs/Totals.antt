-- The totals of a tally.
use Rattle.std.specs.Prelude.{ℕ}
use Rattle.counts.specs.declared.tally.Tally.{Tally}
use Rattle.counts.specs.declared.tally.Total.{Total}
use Rattle.counts.specs.declared.tally.Total.TheVariants.{Claims, Finishes, Hints, Lets, Loads, Mends, Renewals, Retires, Squashes, Stale}

-- The number of totals
abbrev pub total_count : ℕ
total_count = 10

-- The position of a total, from 0 on
abbrev pub position_of : Total → ℕ
position_of Lets = 0
position_of Claims = 1
position_of Finishes = 2
position_of Stale = 3
position_of Loads = 4
position_of Retires = 5
position_of Squashes = 6
position_of Mends = 7
position_of Hints = 8
position_of Renewals = 9

-- The number that a tally has for a total
abbrev pub tallied : Tally → Total → ℕ
tallied t Lets = t.lets
tallied t Claims = t.claims
tallied t Finishes = t.finishes
tallied t Stale = t.stale
tallied t Loads = t.loads
tallied t Retires = t.retires
tallied t Squashes = t.squashes
tallied t Mends = t.mends
tallied t Hints = t.hints
tallied t Renewals = t.renewals
