-- A step that does not go back keeps the rule.
use Rattle.std.proofs.Common.{◌≡◌, ℕ, ◌≤◌, ◌≢◌, List, [], ◌∷◌, ◌++◌, refl, ap, sym, ◌∙◌, subst, fold, ⊎_elim, le_refl, le_trans, zero-le}
use mathlib.Core.Option.{some}
use lib.ListN.{get_elem?}
use Rattle.left_right.specs.Register.{Admits, TurnsAt}
use Rattle.atomic_table.proofs.Lists.{at_set, at_snoc}
use Rattle.instructions.specs.Programs.{Program}
use Rattle.snapshots.specs.Snapshots.{IsSnapshotOf}
use Rattle.snapshots.specs.Rules.{NobodyIsAhead, Told}
use Rattle.snapshots.specs.declared.snap.Snap.{Snap}

-- A new snapper has seen nothing
pub admits : (P : Program) → Admits (NobodyIsAhead P) 0
admits P published views kept =
    record {
      snapshot = kept.snapshot;
      seen = λ seat seen at. ⊎_elim
          (kept.seen seat seen)
          (λ (is : 0 ≡ seen). subst (λ (n : ℕ). n ≤ published.n) is zero-le)
          (at_snoc views 0 seen seat at);
    }

-- Somebody steps to a snapshot that is no older
pub rises : (P : Program) (seat had_seen : ℕ) (before next : Snap) →
    IsSnapshotOf P next → before.n ≤ next.n → TurnsAt (NobodyIsAhead P) seat had_seen before next (Told P)
rises P seat had_seen before next is later views kept at = (
  next.n,
  record {
    snapshot = is;
    seen = λ other seen there. ⊎_elim
        (λ (own : (other ≡ seat) × (next.n ≡ seen)).
        subst (λ (n : ℕ). n ≤ next.n) own.1 (le_refl next.n))
        (λ (foreign : (other ≢ seat) × (get_elem? views other ≡ some seen)).
        le_trans (kept.seen other seen foreign.1) later)
        (at_set views seat other next.n seen there);
  },
  record { snapshot = is; later = kept.seen seat had_seen at; seen = refl },
)

-- Somebody looks at what is published
pub looks : (P : Program) (seat had_seen : ℕ) (published : Snap) →
    TurnsAt (NobodyIsAhead P) seat had_seen published published (Told P)
looks P seat had_seen published views kept at =
    rises P seat had_seen published published kept.snapshot (le_refl published.n) views kept at

-- The newest of what waits
abbrev pub newest : Snap → List Snap → Snap
newest = fold (λ (published next : Snap). next)

-- The one snapshot that waits is published
pub publishes : (P : Program) (seat had_seen : ℕ) (published next snap : Snap) (before waits : List Snap) →
    before ≡ [] → waits ≡ before ++ snap ∷ [] → next ≡ newest published waits →
    IsSnapshotOf P snap → published.n ≤ snap.n → TurnsAt (NobodyIsAhead P) seat had_seen published next (Told P)
publishes P seat had_seen published next snap before waits empty one is of_program later =
    let alone : waits ≡ snap ∷ [] = one ∙ ap (λ earlier. earlier ++ snap ∷ []) empty in
    let same : next ≡ snap = is ∙ ap (newest published) alone in
    let no_older : published.n ≤ next.n = rw (same) later in
    rises P seat had_seen published next (subst (IsSnapshotOf P) (sym same) of_program) no_older
