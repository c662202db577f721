use Rattle.std.proofs.Common.{arith}
use Rattle.std.proofs.lemmas.Grind.{common_steps}
use Rattle.std.proofs.Common.{◌≡◌, ℕ, zero, suc, List, [], ◌∷◌, set, None, refl, ap}
use Rattle.std.specs.Prelude.{slice_get}
use Rattle.one_thread.specs.declared.station.Station.{Station}
use Rattle.one_thread.proofs.window.replace.Goals as goal

unset : (xs : List Station) (i : ℕ) (x : Station) → slice_get xs i ≡ None → xs ≡ set xs i x
unset [] i x e = refl
unset (y ∷ ys) zero x e = absurd (cc e)
unset (y ∷ ys) (suc i) x e = ap (λ l. y ∷ l) (unset ys i x e)

pub returns-in_default : goal.returns-in_default
returns-in_default c = grind (arith, common_steps, unset)
