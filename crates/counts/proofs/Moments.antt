-- Additions and looks keep the rule, and what they find.
use Rattle.std.proofs.Common.{◌≡◌, ℕ, ◌+◌, ◌*◌, ◌%◌, ◌^◌, ◌<◌, List, [], ◌∷◌, map, set, sum_by, slice_index, replicate, sym, refl, ap, ◌∙◌, subst, arith}
use Rattle.std.proofs.lemmas.List.{set-get_or}
use mathlib.Core.Option.{none}
use Rattle.atomic_table.specs.Table.{Me, step, keeps, Allows, opening}
use Rattle.atomic_table.proofs.Lists.{set_again}
use Rattle.counts.specs.declared.shares.Addition.{Addition}
use Rattle.counts.specs.declared.shares.Known.{Known}
use Rattle.counts.specs.declared.shares.Shares.{Shares}
use Rattle.counts.specs.Known.{all_known, total_at}
use Rattle.instructions.specs.Histories.{StartsWith}
use Rattle.counts.specs.Rule.{AddsUp, Summed, shares_of}
use Rattle.counts.specs.Shares.{all_parts, everything, raised_at, share}
use Rattle.counts.specs.Steps.{AddsAt, AddsTo, Looks, LooksAt}
use Rattle.counts.specs.Totals.{total_count}
use Rattle.counts.proofs.EachShare.{share_each}
use Rattle.instructions.proofs.Histories.{starts_same}
use Rattle.counts.proofs.Histories.{map_at, map_set, one_more, sees_all, told_more}
use Rattle.counts.proofs.Kept.{begins, holds_sum, raises}
use Rattle.counts.proofs.Sums.{every_one, every_set, sum_one}

abbrev held : Known → Shares
held v = v.shares

pub begins_known : AddsUp (opening (replicate 80 0) [] all_known)
begins_known =
    record {
      history = [];
      kept = record {
        sums = begins;
        adds_up = λ at low. sym (sum_one (λ v. (share at v).added) all_parts ∙ ap (λ s. s.added) (share_each (λ _. everything) at low));
        seen = every_one (λ (v : Known). StartsWith [] v.seen) all_known (starts_same []);
        whole = record { id = 0; v = all_known; here = refl; all = refl };
      };
    }

pub adds : (slots id : ℕ) (m : Me (Unit {0}) Known) (at k : ℕ) → at < total_count → 0 < (share at m.0.shares).parts →
    Allows AddsUp slots id m (8 * at) (λ n. (n + k) % 2 ^ 64) (AddsTo (step slots (8 * at) k 0 none) m)
adds slots id m at k low some_part s h wide here small =
    let v = m.0 in
    let a : Addition = record { at = at; k = k } in
    let w : Known = record { shares = raised_at at k v.shares; seen = a ∷ h.history } in
    let views = map_set held s.views id w in
    let there = map_at held s.views id v here in
    let words = set s.words (8 * at) ((slice_index s.words (8 * at) + k) % 2 ^ 64) in (
      w,
      keeps,
      tt,
      record {
        history = a ∷ h.history;
        kept = record {
          sums = subst (λ (z : List Shares). Summed (record { words = words; homes = s.homes; views = z })) (sym views) (raises (shares_of s) h.kept.sums id at k v.shares there low some_part);
          adds_up = λ i below. subst (λ (z : List Shares). total_at i (a ∷ h.history) ≡ sum_by (λ u. (share i u).added) z) (sym views)
              (told_more (shares_of s).views id at k v.shares h.history there i below (h.kept.adds_up i below));
          seen = every_set (λ (u : Known). StartsWith (a ∷ h.history) u.seen) s.views id w (λ j u e. one_more a (h.kept.seen j u e)) (starts_same (a ∷ h.history));
          whole = sees_all (a ∷ h.history) s.views id v w here refl;
        };
      },
      λ i below e.
          let same : at ≡ i = omega arith in
          subst (λ z. AddsAt z (step slots (8 * at) k 0 none) m (w, m.1)) same
          (record { slots = refl; shares = refl; seen = record { before = h.history; behind = h.kept.seen id v here; added = refl } }),
    )

pub looks : (slots id : ℕ) (m : Me (Unit {0}) Known) (at : ℕ) → at < total_count → Allows AddsUp slots id m (8 * at) (λ n. n) (Looks (step slots (8 * at) 0 0 none) m)
looks slots id m at low s h wide here small =
    let v = m.0 in
    let w : Known = record { shares = v.shares; seen = h.history } in
    let there = map_at held s.views id v here in
    let views : map held (set s.views id w) ≡ map held s.views = map_set held s.views id w ∙ set_again (map held s.views) id v.shares there in
    let words : set s.words (8 * at) (slice_index s.words (8 * at)) ≡ s.words = set-get_or s.words (8 * at) 0 in
    let sum = h.kept.sums.sum at low in
    let told = h.kept.adds_up at low in (
      w,
      keeps,
      tt,
      record {
        history = h.history;
        kept = record {
          sums = subst (λ (z : List ℕ × List Shares). Summed (record { words = z.0; homes = s.homes; views = z.1 })) (λ j. (sym words j, sym views j)) h.kept.sums;
          adds_up = λ i below. subst (λ (z : List Shares). total_at i h.history ≡ sum_by (λ u. (share i u).added) z) (sym views) (h.kept.adds_up i below);
          seen = every_set (λ (u : Known). StartsWith h.history u.seen) s.views id w h.kept.seen (starts_same h.history);
          whole = sees_all h.history s.views id v w here refl;
        };
      },
      λ i below e.
          let same : at ≡ i = omega arith in
          subst (λ z. LooksAt z m (slice_index s.words (8 * at)) (w, m.1)) same (record {
            slots = refl;
            shares = refl;
            seen = h.kept.seen id v here;
            total = sum ∙ ap (λ n. n % 2 ^ 64) (sym told);
            exact = λ all. sum ∙ ap (λ n. n % 2 ^ 64) (holds_sum (shares_of s) h.kept.sums at low id v.shares there all);
          }),
    )

-- the same at a word that is a total's
pub adds_word : (slots id : ℕ) (m : Me (Unit {0}) Known) (word at k : ℕ) → word ≡ 8 * at → at < total_count → 0 < (share at m.0.shares).parts →
    Allows AddsUp slots id m word (λ n. (n + k) % 2 ^ 64) (AddsTo (step slots word k 0 none) m)
adds_word slots id m word at k is low some_part = subst (λ z. Allows AddsUp slots id m z (λ n. (n + k) % 2 ^ 64) (AddsTo (step slots z k 0 none) m)) (sym is) (adds slots id m at k low some_part)

pub looks_word : (slots id : ℕ) (m : Me (Unit {0}) Known) (word at : ℕ) → word ≡ 8 * at → at < total_count → Allows AddsUp slots id m word (λ n. n) (Looks (step slots word 0 0 none) m)
looks_word slots id m word at is low = subst (λ z. Allows AddsUp slots id m z (λ n. n) (Looks (step slots z 0 0 none) m)) (sym is) (looks slots id m at low)
