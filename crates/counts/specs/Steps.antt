-- The steps on words, and how each changes the knowledge of its seat.
use Rattle.std.specs.Prelude.{⊤, ◌≡◌, ℕ, ◌*◌, ◌%◌, ◌^◌, ◌<◌}
use Rattle.atomic_table.specs.Table.{Me, Step}
use Rattle.counts.specs.declared.shares.Known.{Known}
use Rattle.counts.specs.Known.{HasAddedAt, total_at}
use Rattle.instructions.specs.Histories.{StartsWith}
use Rattle.counts.specs.Reads.{HoldsAllAt}
use Rattle.counts.specs.Shares.{raised_at, share}
use Rattle.counts.specs.Totals.{total_count}

-- An addition to the word of a total raises the seat's own share of it, and changes no other
pub record AddsAt (at : ℕ) (st : Step ⊤) (m w : Me ⊤ Known) : Type 0 where
  pub slots : w.1 ≡ m.1
  pub shares : w.0.shares ≡ raised_at at st.first m.0.shares
  pub seen : HasAddedAt at st.first m.0.seen w.0.seen

-- An addition to a word is one to the total whose word that is
abbrev pub AddsTo : Step ⊤ → Me ⊤ Known → ℕ → Me ⊤ Known → Type 0
AddsTo st m found w = (at : ℕ) → at < total_count → st.word ≡ 8 * at → AddsAt at st m w

-- A look at the word of a total finds all that was added to it until now; the seat that holds all parts of it has
-- added all of that
pub record LooksAt (at : ℕ) (m : Me ⊤ Known) (found : ℕ) (w : Me ⊤ Known) : Type 0 where
  pub slots : w.1 ≡ m.1
  pub shares : w.0.shares ≡ m.0.shares
  pub seen : StartsWith w.0.seen m.0.seen
  pub total : found ≡ total_at at w.0.seen % 2 ^ 64
  pub exact : HoldsAllAt at m.0.shares → found ≡ (share at m.0.shares).added % 2 ^ 64

-- A look at a word is one at the total whose word that is
abbrev pub Looks : Step ⊤ → Me ⊤ Known → ℕ → Me ⊤ Known → Type 0
Looks st m found w = (at : ℕ) → at < total_count → st.word ≡ 8 * at → LooksAt at m found w
