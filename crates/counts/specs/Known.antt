-- The knowledge of seats: their shares, and the additions that they have seen, the last one first.
use Rattle.std.specs.Prelude.{◌≡◌, ℕ, ◌==◌, nat_lt, if◌then◌else◌, List, [], ◌∷◌, length, sum_by}
use Rattle.instructions.specs.Histories.{StartsWith}
use Rattle.counts.specs.declared.shares.Addition.{Addition}
use Rattle.counts.specs.declared.shares.Known.{Known}
use Rattle.counts.specs.declared.shares.Shares.{Shares}
use Rattle.counts.specs.declared.tally.Total.{Total}
use Rattle.counts.specs.Shares.{all_parts, merged, no_parts}
use Rattle.counts.specs.Totals.{position_of}

-- The amount that an addition adds to the total at a position
abbrev pub adds_at : ℕ → Addition → ℕ
adds_at at a = if a.at == at then a.k else 0

-- The sum of all that a history adds to the total at a position
abbrev pub total_at : ℕ → List Addition → ℕ
total_at at history = sum_by (adds_at at) history

-- The seat has added: the last entry that it has seen is its addition, after all that it had seen at the call
pub record HasAddedAt (at k : ℕ) (old new : List Addition) : Type 0 where
  pub before : List Addition
  pub behind : StartsWith before old
  pub added : new ≡ record { at = at; k = k } ∷ before

-- The seat has added this amount to this total
abbrev pub HasAdded : Total → ℕ → List Addition → List Addition → Type 0
HasAdded total k old new = HasAddedAt (position_of total) k old new

-- The first seat's knowledge: all parts of each total, and no addition
abbrev pub all_known : Known
all_known = record { shares = all_parts; seen = [] }

-- A new seat's knowledge: no part of any total, and no addition
abbrev pub nothing_known : Known
nothing_known = record { shares = no_parts; seen = [] }

-- A seat with other shares, which has seen as much
abbrev pub with_shares : (Shares → Shares) → Known → Known
with_shares f v = record { shares = f v.shares; seen = v.seen }

-- The longer one of two histories, of which one began as the other
abbrev pub longer : List Addition → List Addition → List Addition
longer h g = if nat_lt (length h) (length g) then g else h

-- The knowledge of two seats that become one
abbrev pub both_known : Known → Known → Known
both_known v w = record { shares = merged v.shares w.shares; seen = longer v.seen w.seen }
