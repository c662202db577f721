-- The numbers of the units after the first split.
use Rattle.std.proofs.Common.{◌≡◌, ℕ, sym, ◌∙◌, subst, inl, inr, ⊎_elim}
use Rattle.inorder.specs.History.{IsUnit}
use Rattle.ruu_words.specs.Views.{IsSpare, half, other_half}
use Rattle.station.specs.Making.{first_unit, other_units}
use Rattle.station.specs.Quiet.{SplitsShareNumbers, UnitsAreNumbered}
use Rattle.client.specs.declared.seats.Seats.{Seats}
use Rattle.client.specs.ByHand.{IsUnits}

pub no_third : UnitsAreNumbered → SplitsShareNumbers → (s : Seats) → s.one.by ≡ first_unit → s.one.spare ≡ half other_units → s.other.by ≡ other_units.first
    → s.other.spare ≡ other_half other_units → (n : ℕ) → IsUnit n → IsUnits s n
no_third numbered share s one one_spare other other_spare n unit = ⊎_elim
    (λ e. inl (e ∙ sym one))
    (λ spare. ⊎_elim
    (λ e. inr (inl (e ∙ sym other)))
    (λ rest. inr (inr (⊎_elim
    (λ h. inl (subst (λ z. IsSpare z n) (sym one_spare) h))
    (λ h. inr (subst (λ z. IsSpare z n) (sym other_spare) h))
    rest)))
    (share other_units n spare))
    (numbered n unit)
