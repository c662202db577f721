-- A list of whose first items only proofs know.
use Rattle.std.specs.Prelude.{ℕ, List}

-- The items, and how many of the first ones were dropped
pub record Numbered (T : Type 0) : Type 0 where
  pub items : List T
  pub from : ℕ
