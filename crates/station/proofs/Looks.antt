-- A look at any word.
use Rattle.std.proofs.Common.{ℕ, ◌++◌, refl, sym}
use Rattle.instructions.specs.Programs.{Program}
use Rattle.inorder.specs.Unit.{Sizes}
use Rattle.ruu_words.specs.declared.place.Place.{Place}
use Rattle.ruu_words.specs.declared.rule.View.{View}
use Rattle.ruu_words.proofs.Building.{looks}
use Rattle.ruu_words.specs.Plans.{Plans}
use Rattle.station.specs.Steps.{Sees}

module _ (P : Program) (C : Sizes) where
  pub sees_plan : (id : ℕ) (v : View) (x : Place) → Plans P C id v x (λ n. n) (Sees P C id v x)
  sees_plan id v x between d legal same apart caller mine draft n small content =
      looks P C id (between ++ v.seen) d legal draft x n content (Sees P C id v x n)
      (record { none = refl; caller = caller; mine = λ e. sym (mine e); proper = draft; content = content })
