-- The items that were dropped.
use Rattle.std.specs.Prelude.{List, [], ◌∷◌, ◌++◌}
use Rattle.replay.specs.declared.tail.Past.{Past, Nothing, After'}

-- The items that were dropped, in their order
abbrev pub dropped : {T : Type 0} → Past T → List T
dropped Nothing = []
dropped (After' x p before) = dropped before ++ x ∷ []
