-- An addition keeps the sums, and who holds all parts of a total has added all of it.
use Rattle.std.proofs.Common.{◌≡◌, ℕ, ◌+◌, ◌-◌, ◌*◌, ◌%◌, ◌^◌, ◌<◌, ◌≤◌, [], set, sum_by, slice_index, replicate}
use Rattle.std.proofs.Common.{length-set, sym, refl, ap, ◌∙◌, subst, ⊎_elim, arith}
use mathlib.Core.Option.{some}
use lib.ListN.{get_elem?}
use Rattle.atomic_table.specs.Table.{State, opening}
use Rattle.counts.specs.declared.shares.Shares.{Shares}
use Rattle.counts.specs.Reads.{HoldsAllAt}
use Rattle.counts.specs.Rule.{Summed, weight}
use Rattle.counts.specs.Shares.{all_parts, everything, raised_at, share}
use Rattle.counts.proofs.EachShare.{raised_here, raised_off, raised_parts, same_or_not, share_each, word_off, word_set, zeros}
use Rattle.counts.proofs.Parts.{all_weight, no_weight}
use Rattle.counts.proofs.Sums.{every_one, every_set, sum_held, sum_one, sum_set}
use Rattle.counts.specs.Totals.{total_count}

pub begins : Summed (opening (replicate 80 0) [] all_parts)
begins =
    record {
      wide = refl;
      sum = λ at low.
          let own : (share at all_parts).added ≡ 0 = ap (λ s. s.added) (share_each (λ _. everything) at low) in
          zeros 80 (8 * at) ∙ ap (λ n. n % 2 ^ 64) (sym (sum_one (λ v. (share at v).added) all_parts ∙ own));
      whole = λ at low.
          let own = share_each (λ _. everything) at low in
          record {
            depth = 0;
            deep = every_one (λ v. (share at v).halvings ≤ 0) all_parts (let h : (share at all_parts).halvings ≡ 0 = ap (λ s. s.halvings) own in omega arith);
            all = sum_one (λ v. weight 0 (share at v)) all_parts ∙ ap (weight 0) own;
          };
      idle = λ at low. every_one (λ v. (share at v).parts ≡ 0 → (share at v).added ≡ 0) all_parts (λ none. ap (λ s. s.added) (share_each (λ _. everything) at low));
    }

mod-add : (a k : ℕ) → (a % 2 ^ 64 + k) % 2 ^ 64 ≡ (a + k) % 2 ^ 64
mod-add a k = omega arith

-- an addition keeps the sums
pub raises : (s : State (Unit {0}) Shares) → Summed s → (id at k : ℕ) (v : Shares) → get_elem? s.views id ≡ some v → at < total_count → 0 < (share at v).parts →
    Summed (record { words = set s.words (8 * at) ((slice_index s.words (8 * at) + k) % 2 ^ 64); homes = s.homes; views = set s.views id (raised_at at k v) })
raises s h id at k v here low some_part =
    let w = raised_at at k v in
    let word = (slice_index s.words (8 * at) + k) % 2 ^ 64 in
    record {
      wide = length-set s.words (8 * at) word ∙ h.wide;
      sum = λ i below.
          let f : Shares → ℕ = λ u. (share i u).added in
          let exchanged = sum_set f s.views id v w here in
          ⊎_elim
          (λ (e : i ≡ at).
          let own : f w ≡ f v + k = subst (λ z. (share i (raised_at z k v)).added ≡ (share i v).added + k) e (ap (λ t. t.added) (raised_here i k v below)) in
          let more : sum_by f (set s.views id w) ≡ sum_by f s.views + k = omega arith in
          let here_word = word_set s.words (8 * at) word (let l = h.wide in omega arith) in
          let total = h.sum i below in
          subst (λ z. slice_index (set s.words (8 * at) word) (8 * z) ≡ (slice_index s.words (8 * z) + k) % 2 ^ 64) (sym e) here_word
          ∙ ap (λ n. (n + k) % 2 ^ 64) total ∙ mod-add (sum_by f s.views) k ∙ ap (λ n. n % 2 ^ 64) (sym more))
          (λ apart.
          let own : f w ≡ f v = ap (λ t. t.added) (raised_off at i k v below apart) in
          let same : sum_by f (set s.views id w) ≡ sum_by f s.views = omega arith in
          word_off s.words (8 * at) (8 * i) word (λ e. apart (omega arith)) ∙ h.sum i below ∙ ap (λ n. n % 2 ^ 64) (sym same))
          (same_or_not i at);
      whole = λ i below.
          let z = h.whole i below in
          let f : Shares → ℕ = λ u. weight z.depth (share i u) in
          let parts = raised_parts at i k v below in
          let own : f w ≡ f v = λ j. parts.0 j * 2 ^ (z.depth - parts.1 j) in
          let exchanged = sum_set f s.views id v w here in
          let all = z.all in
          record {
            depth = z.depth;
            deep = every_set (λ u. (share i u).halvings ≤ z.depth) s.views id w z.deep (let l = z.deep id v here in let e = parts.1 in omega arith);
            all = omega arith;
          };
      idle = λ i below.
          every_set (λ u. (share i u).parts ≡ 0 → (share i u).added ≡ 0) s.views id w (h.idle i below)
          (λ nought.
          let parts = raised_parts at i k v below in
          ⊎_elim
          (λ (e : i ≡ at). absurd (let p = subst (λ z. 0 < (share z v).parts) (sym e) some_part in let q = parts.0 in omega arith))
          (λ apart. ap (λ t. t.added) (raised_off at i k v below apart) ∙ h.idle i below id v here (sym parts.0 ∙ nought)) (same_or_not i at));
    }

-- who holds all parts of a total has added all of it
pub holds_sum : (s : State (Unit {0}) Shares) → Summed s → (at : ℕ) → at < total_count → (id : ℕ) (v : Shares) → get_elem? s.views id ≡ some v → HoldsAllAt at v →
    sum_by (λ u. (share at u).added) s.views ≡ (share at v).added
holds_sum s h at low id v here all =
    let z = h.whole at low in
    let own = all_weight z.depth (share at v) (z.deep id v here) all in
    sum_held (λ u. weight z.depth (share at u)) (λ u. (share at u).added) s.views id v here
    (λ j u there none. h.idle at low j u there (no_weight z.depth (share at u) none)) (z.all ∙ sym own)
