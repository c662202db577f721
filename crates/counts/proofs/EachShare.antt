-- The share of each total by its position, and words at places.
use Rattle.std.proofs.Common.{◌≡◌, ◌≢◌, ◌⊎◌, ℕ, zero, suc, ◌<◌, List, [], ◌∷◌, length, set, slice_index, replicate, if◌then◌else◌, ◌==◌}
use Rattle.std.proofs.Common.{eq-eqb, ne_eqb, refl, ap, ◌∙◌, subst, ⊎_elim, inl, inr, arith}
use Rattle.counts.specs.declared.shares.Share.{Share}
use Rattle.counts.specs.declared.shares.Shares.{Shares}
use Rattle.counts.specs.declared.tally.Total.{Total}
use Rattle.counts.specs.declared.tally.Total.TheVariants.{Claims, Finishes, Hints, Lets, Loads, Mends, Renewals, Retires, Squashes, Stale}
use Rattle.counts.specs.Shares.{each, plus, raised_at, share}
use Rattle.counts.specs.Totals.{position_of, total_count}

pub share_each : (f : ℕ → Share) (at : ℕ) → at < total_count → share at (each f) ≡ f at
share_each f zero low = refl
share_each f (suc zero) low = refl
share_each f (suc (suc zero)) low = refl
share_each f (suc (suc (suc zero))) low = refl
share_each f (suc (suc (suc (suc zero)))) low = refl
share_each f (suc (suc (suc (suc (suc zero))))) low = refl
share_each f (suc (suc (suc (suc (suc (suc zero)))))) low = refl
share_each f (suc (suc (suc (suc (suc (suc (suc zero))))))) low = refl
share_each f (suc (suc (suc (suc (suc (suc (suc (suc zero)))))))) low = refl
share_each f (suc (suc (suc (suc (suc (suc (suc (suc (suc zero))))))))) low = refl
share_each f (suc (suc (suc (suc (suc (suc (suc (suc (suc (suc at)))))))))) low = absurd (omega arith)

pub position_small : (t : Total) → position_of t < total_count
position_small Lets = omega arith
position_small Claims = omega arith
position_small Finishes = omega arith
position_small Stale = omega arith
position_small Loads = omega arith
position_small Retires = omega arith
position_small Squashes = omega arith
position_small Mends = omega arith
position_small Hints = omega arith
position_small Renewals = omega arith

pub same_or_not : (a b : ℕ) → (a ≡ b) ⊎ (a ≢ b)
same_or_not zero zero = inl refl
same_or_not zero (suc b) = inr (λ e. omega arith)
same_or_not (suc a) zero = inr (λ e. omega arith)
same_or_not (suc a) (suc b) = ⊎_elim (λ e. inl (ap suc e)) (λ n. inr (λ e. n (omega arith))) (same_or_not a b)

-- an addition raises its own share and no other
pub raised_here : (at k : ℕ) (v : Shares) → at < total_count → share at (raised_at at k v) ≡ plus k (share at v)
raised_here at k v low = share_each (λ x. if x == at then plus k (share x v) else share x v) at low ∙ ap (λ b. if b then plus k (share at v) else share at v) (eq-eqb at at refl)

pub raised_off : (at i k : ℕ) (v : Shares) → i < total_count → i ≢ at → share i (raised_at at k v) ≡ share i v
raised_off at i k v low apart = share_each (λ x. if x == at then plus k (share x v) else share x v) i low ∙ ap (λ b. if b then plus k (share i v) else share i v) (ne_eqb i at apart)

-- parts stay at an addition
pub raised_parts : (at i k : ℕ) (v : Shares) → i < total_count → ((share i (raised_at at k v)).parts ≡ (share i v).parts) × ((share i (raised_at at k v)).halvings ≡ (share i v).halvings)
raised_parts at i k v low =
    ⊎_elim (λ (e : i ≡ at). subst (λ (z : ℕ). ((share i (raised_at z k v)).parts ≡ (share i v).parts) × ((share i (raised_at z k v)).halvings ≡ (share i v).halvings)) e
    (let h = raised_here i k v low in (ap (λ s. s.parts) h, ap (λ s. s.halvings) h)))
    (λ apart. (let h = raised_off at i k v low apart in (ap (λ s. s.parts) h, ap (λ s. s.halvings) h))) (same_or_not i at)

pub word_set : (xs : List ℕ) (i x : ℕ) → i < length xs → slice_index (set xs i x) i ≡ x
word_set [] i x low = absurd (omega arith)
word_set (y ∷ ys) zero x low = refl
word_set (y ∷ ys) (suc i) x low = word_set ys i x (omega arith)

pub word_off : (xs : List ℕ) (i j x : ℕ) → i ≢ j → slice_index (set xs i x) j ≡ slice_index xs j
word_off [] i j x apart = refl
word_off (y ∷ ys) zero zero x apart = absurd (apart refl)
word_off (y ∷ ys) zero (suc j) x apart = refl
word_off (y ∷ ys) (suc i) zero x apart = refl
word_off (y ∷ ys) (suc i) (suc j) x apart = word_off ys i j x (λ e. apart (ap suc e))

pub zeros : (n i : ℕ) → slice_index (replicate n 0) i ≡ 0
zeros zero i = refl
zeros (suc n) zero = refl
zeros (suc n) (suc i) = zeros n i
