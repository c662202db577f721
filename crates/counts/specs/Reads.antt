-- A read of a total.
use Rattle.std.specs.Prelude.{◌≡◌, ℕ, ◌%◌, ◌^◌, List}
use Rattle.counts.specs.declared.shares.Addition.{Addition}
use Rattle.counts.specs.declared.shares.Shares.{Shares}
use Rattle.counts.specs.declared.tally.Total.{Total}
use Rattle.counts.specs.Known.{total_at}
use Rattle.instructions.specs.Histories.{IsWithin}
use Rattle.counts.specs.Shares.{share}
use Rattle.counts.specs.Totals.{position_of}

-- At a moment of the call this many was added to a total, modulo 2^64
pub record WasTotal (old new : List Addition) (total : Total) (n : ℕ) : Type 0 where
  pub moment : List Addition
  pub within : IsWithin old new moment
  pub sum : n ≡ total_at (position_of total) moment % 2 ^ 64

-- All parts of the total at a position
abbrev pub HoldsAllAt : ℕ → Shares → Type 0
HoldsAllAt at v = (share at v).parts ≡ 2 ^ (share at v).halvings

-- All parts of this total
abbrev pub HoldsAll : Total → Shares → Type 0
HoldsAll total v = HoldsAllAt (position_of total) v
