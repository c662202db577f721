-- Cuts and joins of seats keep the rule.
use Rattle.std.proofs.Common.{◌≡◌, ℕ, ◌+◌, ◌-◌, ◌%◌, ◌^◌, ◌<◌, ◌≤◌, Bool, true, false, List, [], ◌∷◌, ◌++◌, map, set, sum_by, if◌then◌else◌}
use Rattle.std.proofs.lemmas.List.{append-nil}
use Rattle.std.proofs.Common.{zero-mul, sym, ap, ◌∙◌, subst, ⊎_elim, arith}
use mathlib.Core.Option.{some}
use lib.ListN.{get_elem?}
use Rattle.atomic_table.specs.Table.{Joins, Splits}
use Rattle.atomic_table.proofs.Lists.{at_set}
use Rattle.counts.specs.declared.shares.Known.{Known}
use Rattle.counts.specs.declared.shares.Share.{Share}
use Rattle.counts.specs.declared.shares.Shares.{Shares}
use Rattle.counts.specs.Known.{both_known, longer, nothing_known, with_shares}
use Rattle.instructions.specs.Histories.{StartsWith}
use Rattle.counts.specs.Rule.{AddsUp, Summed, shares_of, weight}
use Rattle.counts.specs.Shares.{first_half, kept_half, merged, joined_of, no_parts, nothing, second_half, given_half, is_kept, share, with_kept, without_kept}
use Rattle.counts.specs.Totals.{total_count}
use Rattle.counts.proofs.EachShare.{share_each}
use Rattle.counts.proofs.Histories.{joined_seen, longer_begins, longer_left, longer_right, map_at, map_push, map_set, more_seats, still_seen}
use Rattle.counts.proofs.Parts.{IsCut, halves, joins, joins_idle, joins_some, next_power, twice, whole}
use Rattle.counts.proofs.Sums.{every_push, every_set, sum_push, sum_set, sum_twice}

-- a cut leaves the sum of what was added
cut_sum : (views : List Shares) (id at : ℕ) (v l r : Shares) → get_elem? views id ≡ some v → IsCut (share at v) (share at l) (share at r)
    → sum_by (λ u. (share at u).added) (set views id l ++ r ∷ []) ≡ sum_by (λ u. (share at u).added) views
cut_sum views id at v l r here cut =
    let f : Shares → ℕ = λ u. (share at u).added in
    let pushed = sum_push f (set views id l) r in
    let exchanged = sum_set f views id v l here in
    let both = cut.added in
    omega arith

-- and so does a join
join_sum : (views : List Shares) (id other at : ℕ) (v w : Shares) → at < total_count → get_elem? views id ≡ some v → get_elem? (set views id (merged v w)) other ≡ some w
    → sum_by (λ u. (share at u).added) (set (set views id (merged v w)) other no_parts) ≡ sum_by (λ u. (share at u).added) views
join_sum views id other at v w low here after =
    let f : Shares → ℕ = λ u. (share at u).added in
    let once = set views id (merged v w) in
    let own : f (merged v w) ≡ f v + f w = ap (λ t. t.added) (share_each (λ i. joined_of (share i v) (share i w)) at low) in
    let none : f no_parts ≡ 0 = ap (λ t. t.added) (share_each (λ _. nothing) at low) in
    let first = sum_set f views id v (merged v w) here in
    let second = sum_set f once other w no_parts after in
    omega arith

pub splits : (id : ℕ) (v l r : Shares) → ((at : ℕ) → at < total_count → IsCut (share at v) (share at l) (share at r)) → Splits Summed id v l r
splits id v l r cut s h here =
    record {
      wide = h.wide;
      sum = λ at low.
          let same = cut_sum s.views id at v l r here (cut at low) in
          h.sum at low ∙ ap (λ n. n % 2 ^ 64) (sym same);
      whole = λ at low.
          let w = h.whole at low in
          let c = cut at low in
          let f : Shares → ℕ = λ u. weight w.depth (share at u) in
          let g : Shares → ℕ = λ u. weight (w.depth + 1) (share at u) in
          let P : Shares → Type 0 = λ u. (share at u).halvings ≤ w.depth + 1 in
          let all = w.all in
          let pushed = sum_push g (set s.views id l) r in
          let exchanged = sum_set g s.views id v l here in
          let doubled = sum_twice f g s.views (λ j u there. twice w.depth (share at u) (w.deep j u there)) in
          let own = twice w.depth (share at v) (w.deep id v here) in
          let power = next_power w.depth in
          let both = c.weighs w.depth (w.deep id v here) in
          record {
            depth = w.depth + 1;
            deep = every_push P (set s.views id l) r (every_set P s.views id l (λ j u there.
                (let low = w.deep j u there in omega arith)) (c.deep_left w.depth (w.deep id v here))) (c.deep_right w.depth (w.deep id v here));
            all = omega arith;
          };
      idle = λ at low.
          let P : Shares → Type 0 = λ u. (share at u).parts ≡ 0 → (share at u).added ≡ 0 in
          every_push P (set s.views id l) r (every_set P s.views id l (h.idle at low) (λ none. (cut at low).idle_left none (h.idle at low id v here))) (cut at low).idle_right;
    }

pub merges : (id other : ℕ) (v w : Shares) → Joins Summed id v other w (merged v w) no_parts
merges id other v w s h here apart after =
    let there : get_elem? s.views other ≡ some w = ⊎_elim (λ e. absurd (apart e.0)) (λ e. e.1) (at_set s.views id other (merged v w) w after) in
    let once = set s.views id (merged v w) in
    record {
      wide = h.wide;
      sum = λ at low.
          let same = join_sum s.views id other at v w low here after in
          h.sum at low ∙ ap (λ n. n % 2 ^ 64) (sym same);
      whole = λ at low.
          let z = h.whole at low in
          let f : Shares → ℕ = λ u. weight z.depth (share at u) in
          let P : Shares → Type 0 = λ u. (share at u).halvings ≤ z.depth in
          let one = share_each (λ i. joined_of (share i v) (share i w)) at low in
          let zeroth = share_each (λ _. nothing) at low in
          let deep_v = z.deep id v here in
          let deep_w = z.deep other w there in
          let own : f (merged v w) ≡ f v + f w = ap (weight z.depth) one ∙ joins z.depth (share at v) (share at w) deep_v deep_w in
          let none : f no_parts ≡ 0 = ap (weight z.depth) zeroth ∙ zero-mul (2 ^ (z.depth - 0)) in
          let first = sum_set f s.views id v (merged v w) here in
          let second = sum_set f once other w no_parts after in
          let all = z.all in
          let halvings_one : (share at (merged v w)).halvings ≡ (joined_of (share at v) (share at w)).halvings = ap (λ t. t.halvings) one in
          let halvings_none : (share at no_parts).halvings ≡ 0 = ap (λ t. t.halvings) zeroth in
          record {
            depth = z.depth;
            deep = every_set P once other no_parts (every_set P s.views id (merged v w) z.deep (omega arith)) (omega arith);
            all = omega arith;
          };
      idle = λ at low.
          let P : Shares → Type 0 = λ u. (share at u).parts ≡ 0 → (share at u).added ≡ 0 in
          let one = share_each (λ i. joined_of (share i v) (share i w)) at low in
          let both : P (merged v w) = λ none. ap (λ t. t.added) one ∙ joins_idle (share at v) (share at w) (h.idle at low id v here) (h.idle at low other w there) (ap (λ t. t.parts) (sym one) ∙ none)
          in
          every_set P once other no_parts (every_set P s.views id (merged v w) (h.idle at low) both) (λ _. ap (λ t. t.added) (share_each (λ _. nothing) at low));
    }

abbrev held : Known → Shares
held v = v.shares

-- a cut of the shares is one of what a seat knows: both have seen the same
knows_both : (id : ℕ) (v : Known) (f g : Shares → Shares) → ((at : ℕ) → at < total_count → IsCut (share at v.shares) (share at (f v.shares)) (share at (g v.shares)))
    → Splits AddsUp id v (with_shares f v) (with_shares g v)
knows_both id v f g cut s h here =
    let l = with_shares f v in
    let r = with_shares g v in
    let there = map_at held s.views id v here in
    let views : map held (set s.views id l ++ r ∷ []) ≡ set (map held s.views) id l.shares ++ r.shares ∷ [] =
    map_push held (set s.views id l) r ∙ ap (λ z. z ++ r.shares ∷ []) (map_set held s.views id l) in
    let own = h.kept.seen id v here in
    record {
      history = h.history;
      kept = record {
        sums = subst (λ (z : List Shares). Summed (record { words = s.words; homes = s.homes; views = z })) (sym views) (splits id v.shares l.shares r.shares cut (shares_of s) h.kept.sums there);
        adds_up = λ at low. h.kept.adds_up at low ∙ sym (ap (λ z. sum_by (λ u. (share at u).added) z) views ∙ cut_sum (shares_of s).views id at v.shares l.shares r.shares there (cut at low));
        seen = every_push (λ (u : Known). StartsWith h.history u.seen) (set s.views id l) r (every_set (λ (u : Known). StartsWith h.history u.seen) s.views id l h.kept.seen own) own;
        whole = more_seats h.history (set s.views id l) r (still_seen h.history s.views id v l here (λ all. all) h.kept.whole);
      };
    }

pub halved : (id : ℕ) (v : Known) → Splits AddsUp id v (with_shares first_half v) (with_shares second_half v)
halved id v = knows_both id v first_half second_half
    (λ at low. subst (λ (z : Share × Share). IsCut (share at v.shares) z.0 z.1)
    (λ j. (sym (share_each (λ i. kept_half (share i v.shares)) at low) j, sym (share_each (λ i. given_half (share i v.shares)) at low) j)) (halves (share at v.shares)))

pub hired : (id : ℕ) (v : Known) → Splits AddsUp id v (with_shares with_kept v) (with_shares without_kept v)
hired id v =
    let kept : ℕ → Share = λ i. if is_kept i then share i v.shares else kept_half (share i v.shares) in
    let given : ℕ → Share = λ i. if is_kept i then nothing else given_half (share i v.shares) in
    knows_both id v with_kept without_kept
    (λ at low. subst (λ (z : Share × Share). IsCut (share at v.shares) z.0 z.1)
    (λ j. (sym (share_each kept at low) j, sym (share_each given at low) j))
    (one (is_kept at) (share at v.shares)))
  where
    one : (b : Bool) (s : Share) → IsCut s (if b then s else kept_half s) (if b then nothing else given_half s)
    one true s = whole s
    one false s = halves s

-- a join of what two seats know: the longer one of what they have seen
pub merges_known : (id other : ℕ) (v w : Known) → Joins AddsUp id v other w (both_known v w) nothing_known
merges_known id other v w s h here apart after =
    let b = both_known v w in
    let there = map_at held s.views id v here in
    let once : map held (set s.views id b) ≡ set (map held s.views) id b.shares = map_set held s.views id b in
    let after_shares : get_elem? (set (map held s.views) id b.shares) other ≡ some w.shares =
    subst (λ (z : List Shares). get_elem? z other ≡ some w.shares) once (map_at held (set s.views id b) other w after) in
    let views : map held (set (set s.views id b) other nothing_known) ≡ set (set (map held s.views) id b.shares) other no_parts =
    map_set held (set s.views id b) other nothing_known ∙ ap (λ z. set z other no_parts) once in
    let was : get_elem? s.views other ≡ some w = ⊎_elim (λ e. absurd (apart e.0)) (λ e. e.1) (at_set s.views id other b w after) in
    let P : Known → Type 0 = λ u. StartsWith h.history u.seen in
    record {
      history = h.history;
      kept = record {
        sums = subst (λ (z : List Shares). Summed (record { words = s.words; homes = s.homes; views = z })) (sym views)
            (merges id other v.shares w.shares (shares_of s) h.kept.sums there apart after_shares);
        adds_up = λ at low. h.kept.adds_up at low ∙ sym (ap (λ z. sum_by (λ u. (share at u).added) z) views ∙ join_sum (shares_of s).views id other at v.shares w.shares low there after_shares);
        seen = every_set P (set s.views id b) other nothing_known
            (every_set P s.views id b h.kept.seen (longer_begins v.seen w.seen (h.kept.seen id v here) (h.kept.seen other w was)))
            (record { more = h.history; is = sym (append-nil h.history) });
        whole = joined_seen h.history s.views id other v w b nothing_known here was (λ e. apart (sym e))
            (λ all. ap (λ l. longer l w.seen) all ∙ longer_left h.history w.seen (h.kept.seen other w was))
            (λ all. ap (λ l. longer v.seen l) all ∙ longer_right v.seen h.history (h.kept.seen id v here)) h.kept.whole;
      };
    }

-- a join of two seats that hold parts holds parts
pub joined_parts : (v w : Shares) → ((at : ℕ) → at < total_count → 0 < (share at v).parts) → (at : ℕ) → at < total_count → 0 < (share at (merged v w)).parts
joined_parts v w all at low = subst (λ (s : Share). 0 < s.parts) (sym (share_each (λ i. joined_of (share i v) (share i w)) at low)) (joins_some (share at v) (share at w) (all at low))

-- the ways to cut a seat in two
pub ruleset cuts = (halved, hired)
