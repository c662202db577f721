-- The shares of seats: how much each has added to a total, and the part of that total that it holds.
use Rattle.std.specs.Prelude.{ℕ, Bool, ◌||◌, ◌+◌, ◌-◌, ◌*◌, ◌^◌, ◌==◌, if◌then◌else◌, max, [], ◌∷◌, get_or}
use Rattle.counts.specs.declared.shares.Share.{Share}
use Rattle.counts.specs.declared.shares.Shares.{Shares}
use Rattle.counts.specs.declared.tally.Total.{Total}
use Rattle.counts.specs.declared.tally.Total.TheVariants.{Renewals, Retires}
use Rattle.counts.specs.Totals.{position_of}

-- No part of a total, with nothing added
abbrev pub nothing : Share
nothing = record { added = 0; parts = 0; halvings = 0 }

-- All parts of a total, with nothing added
abbrev pub everything : Share
everything = record { added = 0; parts = 1; halvings = 0 }

-- The share of the total at a position
abbrev pub share : ℕ → Shares → Share
share at v = get_or v.of at nothing

-- The share of a total
abbrev pub share_of : Total → Shares → Share
share_of total v = share (position_of total) v

-- A share of each total, by its position
abbrev pub each : (ℕ → Share) → Shares
each f = record { of = f 0 ∷ f 1 ∷ f 2 ∷ f 3 ∷ f 4 ∷ f 5 ∷ f 6 ∷ f 7 ∷ f 8 ∷ f 9 ∷ [] }

-- All parts of each total, and no part of any
abbrev pub all_parts : Shares
all_parts = each (λ _. everything)

-- No part of any total
abbrev pub no_parts : Shares
no_parts = each (λ _. nothing)

-- A share after an addition of its seat
abbrev pub plus : ℕ → Share → Share
plus k s = record { added = s.added + k; parts = s.parts; halvings = s.halvings }

-- A seat's shares after its addition to the total at a position
abbrev pub raised_at : ℕ → ℕ → Shares → Shares
raised_at at k v = each (λ i. if i == at then plus k (share i v) else share i v)

-- A seat's shares after its addition to a total
abbrev pub added_to : Total → ℕ → Shares → Shares
added_to total k v = raised_at (position_of total) k v

-- The first half of a share, which keeps the amount that was added
abbrev pub kept_half : Share → Share
kept_half s = record { added = s.added; parts = s.parts; halvings = s.halvings + 1 }

-- The second half of a share, with nothing added
abbrev pub given_half : Share → Share
given_half s = record { added = 0; parts = s.parts; halvings = s.halvings + 1 }

-- The first half of the share of each total
abbrev pub first_half : Shares → Shares
first_half v = each (λ i. kept_half (share i v))

-- The second half of the share of each total
abbrev pub second_half : Shares → Shares
second_half v = each (λ i. given_half (share i v))

-- The totals of which a worker has no part: the retirements and the renewals
abbrev pub is_kept : ℕ → Bool
is_kept at = at == position_of Retires || at == position_of Renewals

-- The first half of each share, but all of those of which a worker has no part
abbrev pub with_kept : Shares → Shares
with_kept v = each (λ i. if is_kept i then share i v else kept_half (share i v))

-- The second half of each share, without those of which a worker has no part
abbrev pub without_kept : Shares → Shares
without_kept v = each (λ i. if is_kept i then nothing else given_half (share i v))

-- Two shares of a total, joined to one
abbrev pub joined_of : Share → Share → Share
joined_of s t =
    record {
      added = s.added + t.added;
      parts = s.parts * 2 ^ (max s.halvings t.halvings - s.halvings) + t.parts * 2 ^ (max s.halvings t.halvings - t.halvings);
      halvings = max s.halvings t.halvings;
    }

-- Two seats' shares, joined for each total
abbrev pub merged : Shares → Shares → Shares
merged v w = each (λ i. joined_of (share i v) (share i w))
