-- The sizes of the unit of a table, and the history that a table opens with.
use Rattle.std.specs.Prelude.{◌≡◌, List, [], ◌∷◌}
use Rattle.instructions.specs.Programs.{Program}
use Rattle.inorder.specs.declared.history.Entry.{Entry}
use Rattle.inorder.specs.declared.history.Event.TheVariants.{Does}
use Rattle.inorder.specs.declared.history.Step.TheVariants.{Renew}
use Rattle.inorder.specs.History.{IsLegal, entry, front, unit_of}
use Rattle.inorder.specs.Steps.{MayRenew}
use Rattle.inorder.specs.Unit.{Sizes}
use Rattle.ruu_words.specs.declared.rule.Setup.{Setup}
use Rattle.ruu_words.specs.declared.rule.View.{View}

-- The sizes of the unit of a table
abbrev pub sizes_of : Setup → Sizes
sizes_of c = record { ring = c.ring; queue = c.queue; first_tag = c.first_tag }

-- The history that a table opens with: that of the seat it goes on from and a renewal, or none

-- A history, with a renewal after it
abbrev pub renewed : List Entry → List Entry
renewed h = entry front (Does Renew) ∷ h

-- What the seat has seen whose view this is, if there is one, with a renewal after it
abbrev pub renewed_of : List View → List Entry
renewed_of [] = []
renewed_of (v ∷ vs) = renewed v.seen

-- The history that a table opens with
abbrev pub opening_of : Setup → List Entry
opening_of c = renewed_of c.opening.views

-- A table may open with this history: it is legal, nobody is live, no stop has retired, and nobody
-- was let since its last renewal
pub record IsOpening (P : Program) (C : Sizes) (h : List Entry) : Type 0 where
  pub legal : IsLegal P C h
  pub may : MayRenew (unit_of P C h)
  pub begun : (unit_of P C h).fresh ≡ 0
