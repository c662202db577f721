-- One entry of a list changed.
use Rattle.std.proofs.Common.{◌≡◌, ℕ, zero, suc, ◌<◌, List, [], ◌∷◌, length, get_or, refl, ap, ◌∙◌, arith, slice_set}
use Rattle.std.specs.List.{refill}
use Rattle.std.proofs.Math.ListN.{length-set}
use Rattle.arrayvec.specs.ArrayVec.{ArrayVec}
use Rattle.arrayvec.proofs.ArrayVecLemmas.{items-with_items}
use Rattle.lsq.specs.declared.entry.Entry.{Entry}
use Rattle.lsq.specs.Entries.{changed_at}

pub set-changed : (change : Entry → Entry) (es : List Entry) (i : ℕ) (d : Entry) → i < length es
    → slice_set es i (change (get_or es i d)) ≡ changed_at change es i
set-changed change [] i d h = absurd (omega arith)
set-changed change (e ∷ es) zero d h = refl
set-changed change (e ∷ es) (suc i) d h = ap (λ (xs : List Entry). e ∷ xs) (set-changed change es i d (omega arith))

-- what a write through a slice leaves
pub refill-changed : (change : Entry → Entry) (es : List Entry) (i : ℕ) (d : Entry) → i < length es
    → refill (length es) es (slice_set es i (change (get_or es i d))) ≡ changed_at change es i
refill-changed change es i d h =
    let set : List Entry = slice_set es i (change (get_or es i d)) in
    let v : ArrayVec Entry = record { items = es } in
    items-with_items v set (length-set es i (change (get_or es i d))) ∙ set-changed change es i d h
