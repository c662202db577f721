-- Recovery: squashing what is younger than a miss, and mending it.
use Rattle.std.specs.Prelude.{◌≡◌, ℕ, List, [], ◌∷◌}
use Rattle.instructions.specs.Programs.{Program}
use Rattle.inorder.specs.declared.history.Act.TheVariants.{Mend, Squash}
use Rattle.inorder.specs.declared.history.Entry.{Entry}
use Rattle.inorder.specs.declared.history.Event.{Event}
use Rattle.inorder.specs.declared.history.Event.TheVariants.{Does}
use Rattle.inorder.specs.declared.history.Step.TheVariants.{On}
use Rattle.inorder.specs.Callers.{CanMend, CanSquash}
use Rattle.inorder.specs.History.{unit_of}
use Rattle.inorder.specs.OneHistory.{Adds}
use Rattle.inorder.specs.Unit.{Sizes}
use Rattle.ruu_words.specs.declared.rule.Draft.{Draft}
use Rattle.ruu_words.specs.declared.rule.Draft.TheVariants.{Nothing}
use Rattle.ruu_words.specs.Kinds.{IsNamed}

-- In what was seen the station's tenant with this tag is a miss that goes on at `next`, and the
-- youngest live tenant
pub record HasMiss (P : Program) (C : Sizes) (seen : List Entry) (station tag next : ℕ) : Type 0 where
  pub p : ℕ
  pub named : IsNamed (unit_of P C seen) p station tag
  pub can : CanMend (unit_of P C seen) p next

-- In what was seen the station's tenant is such a miss
pub record SeesMiss (P : Program) (C : Sizes) (seen : List Entry) (station : ℕ) : Type 0 where
  pub tag : ℕ
  pub next : ℕ
  pub miss : HasMiss P C seen station tag next

-- The write of a mending tells that the miss was mended, and no let is in progress
pub record Mends (P : Program) (C : Sizes) (s : ℕ) (h : List Entry) (d : Draft) (events : List Event) : Type 0 where
  pub tag : ℕ
  pub next : ℕ
  pub miss : HasMiss P C h s tag next
  pub added : events ≡ Does (On miss.p Mend) ∷ []
  pub draft : d ≡ Nothing

-- The live miss at this station, the youngest live tenant, was mended
pub record IsMended (P : Program) (C : Sizes) (by station : ℕ) (old new : List Entry) : Type 0 where
  pub p : ℕ
  pub tag : ℕ
  pub next : ℕ
  pub named : IsNamed (unit_of P C new) p station tag
  pub can : CanMend (unit_of P C old) p next
  pub adds : Adds P C by old new (Does (On p Mend) ∷ [])

-- In what was seen there is a youngest live tenant, and an older live miss
pub record SeesWrongPath (P : Program) (C : Sizes) (seen : List Entry) : Type 0 where
  pub p : ℕ
  pub can : CanSquash (unit_of P C seen) p

-- In what was seen the youngest live tenant, after a live miss, is of this station and tag
pub record HasYoungest (P : Program) (C : Sizes) (seen : List Entry) (station tag : ℕ) : Type 0 where
  pub p : ℕ
  pub named : IsNamed (unit_of P C seen) p station tag
  pub can : CanSquash (unit_of P C seen) p

-- The write of a squash tells that the youngest live tenant was squashed, and no let is in progress
pub record Squashes (P : Program) (C : Sizes) (s g : ℕ) (h : List Entry) (d : Draft) (events : List Event) : Type 0 where
  pub youngest : HasYoungest P C h s g
  pub added : events ≡ Does (On youngest.p Squash) ∷ []
  pub draft : d ≡ Nothing

-- The tenant of this station and tag, the youngest live one after a live miss, was squashed
pub record WasSquashed (P : Program) (C : Sizes) (by station tag : ℕ) (old new : List Entry) : Type 0 where
  pub p : ℕ
  pub named : IsNamed (unit_of P C new) p station tag
  pub can : CanSquash (unit_of P C old) p
  pub adds : Adds P C by old new (Does (On p Squash) ∷ [])
