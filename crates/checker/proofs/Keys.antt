-- Keys of a map as a list.
use Rattle.std.proofs.Common.{◌≡◌, ℕ, Bool, true, false, cond, Option, Some, refl}
use Rattle.std.specs.Prelude.{is_some, ◌||◌}

-- a key that is put, or one that was there
pub some_or : (is : Bool) (x : ℕ) (o : Option ℕ) → is_some (cond is (Some x) o) ≡ (is || is_some o)
some_or true x o = refl
some_or false x o = refl
