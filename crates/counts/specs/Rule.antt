-- The rule: at every moment each total is the sum of the seats' shares modulo 2^64, and the sum of the additions of one
-- history, of which each seat has seen a beginning.
use Rattle.std.specs.Prelude.{⊤, ◌≡◌, ℕ, ◌-◌, ◌*◌, ◌%◌, ◌^◌, ◌<◌, ◌≤◌, List, length, map, slice_index, sum_by}
use Rattle.atomic_table.specs.Table.{State}
use mathlib.Core.Option.{some}
use lib.ListN.{get_elem?}
use Rattle.counts.specs.declared.shares.Addition.{Addition}
use Rattle.counts.specs.declared.shares.Known.{Known}
use Rattle.counts.specs.declared.shares.Share.{Share}
use Rattle.counts.specs.declared.shares.Shares.{Shares}
use Rattle.counts.specs.Known.{total_at}
use Rattle.instructions.specs.Histories.{StartsWith}
use Rattle.counts.specs.Shares.{share}
use Rattle.counts.specs.Totals.{total_count}

-- How many parts a share has where the whole is halved so often
abbrev pub weight : ℕ → Share → ℕ
weight depth s = s.parts * 2 ^ (depth - s.halvings)

-- The seats' parts of a total are all that there are
pub record HasAllParts (at : ℕ) (views : List Shares) : Type 0 where
  pub depth : ℕ
  pub deep : (id : ℕ) (v : Shares) → get_elem? views id ≡ some v → (share at v).halvings ≤ depth
  pub all : sum_by (λ v. weight depth (share at v)) views ≡ 2 ^ depth

-- Each total's word is the sum of the shares; the seats hold all parts of it, and one that holds none
-- has added nothing
pub record Summed (s : State ⊤ Shares) : Type 0 where
  pub wide : length s.words ≡ 8 * total_count
  pub sum : (at : ℕ) → at < total_count → slice_index s.words (8 * at) ≡ sum_by (λ v. (share at v).added) s.views % 2 ^ 64
  pub whole : (at : ℕ) → at < total_count → HasAllParts at s.views
  pub idle : (at : ℕ) → at < total_count → (id : ℕ) (v : Shares) → get_elem? s.views id ≡ some v → (share at v).parts ≡ 0 → (share at v).added ≡ 0

-- The words, and the shares that the seats hold, without what they have seen
abbrev pub shares_of : State ⊤ Known → State ⊤ Shares
shares_of s = record { words = s.words; homes = s.homes; views = map (λ v. v.shares) s.views }

-- Some seat has seen the whole history
pub record HasSeenAll (history : List Addition) (views : List Known) : Type 0 where
  pub id : ℕ
  pub v : Known
  pub here : get_elem? views id ≡ some v
  pub all : v.seen ≡ history

-- The rule for one history of additions: for each total its additions are the sum of the shares, each seat has seen a
-- beginning of the history, and one has seen all of it
pub record IsAddedUp (history : List Addition) (s : State ⊤ Known) : Type 0 where
  pub sums : Summed (shares_of s)
  pub adds_up : (at : ℕ) → at < total_count → total_at at history ≡ sum_by (λ v. (share at v).added) (shares_of s).views
  pub seen : (id : ℕ) (v : Known) → get_elem? s.views id ≡ some v → StartsWith history v.seen
  pub whole : HasSeenAll history s.views

-- The rule: some history of additions is kept
pub record AddsUp (s : State ⊤ Known) : Type 0 where
  pub history : List Addition
  pub kept : IsAddedUp history s
