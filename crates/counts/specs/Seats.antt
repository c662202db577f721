-- A seat as contracts see it, and the parts that each kind of seat holds.
use Rattle.std.specs.Prelude.{⊤, ◌≡◌, ℕ, ◌<◌, false, List, []}
use Rattle.atomic_table.specs.Seated.{TableId}
use Rattle.atomic_table.specs.Table.{Me}
use Rattle.counts.specs.declared.shares.Addition.{Addition}
use Rattle.counts.specs.declared.shares.Known.{Known}
use Rattle.counts.specs.declared.shares.Shares.{Shares}
use Rattle.counts.specs.Shares.{is_kept, share}
use Rattle.counts.specs.Totals.{total_count}

-- A seat: whose totals it adds to, its shares, and the additions that it has seen
pub record Counter : Type 0 where
  pub of : TableId
  pub shares : Shares
  pub seen : List Addition

-- A count seat holds a part of each total
pub record HasParts (me : Me ⊤ Known) : Type 0 where
  pub some : (at : ℕ) → at < total_count → 0 < (share at me.0.shares).parts
  pub slots : me.1 ≡ []

-- A worker's seat holds a part of each total but the retirements and the renewals
pub record HasOtherParts (me : Me ⊤ Known) : Type 0 where
  pub some : (at : ℕ) → at < total_count → is_kept at ≡ false → 0 < (share at me.0.shares).parts
  pub slots : me.1 ≡ []
