-- A session whose core is renewed.
use Rattle.std.specs.Prelude.{◌≡◌, ℕ, List, ◌∷◌, length, None}
use Rattle.inorder.specs.declared.history.Entry.{Entry}
use Rattle.inorder.specs.declared.history.Event.TheVariants.{Does}
use Rattle.inorder.specs.declared.history.Step.TheVariants.{Renew}
use Rattle.inorder.specs.History.{MayAdd, back, entry, front, unit_of}
use Rattle.instructions.specs.Histories.{StartsWith}
use Rattle.back.specs.Backs.{TheBack, back_state}
use Rattle.station.specs.Seats.{Caller, TheCore}

-- The seat that has seen all, the front and the back are of this core
pub record SeatsAreAt (core : TheCore) (all : Caller) (front_core : TheCore) (commits : TheBack) :
    Type 0 where
  pub all_core : all.core ≡ core
  pub front_is : front_core ≡ core
  pub back_core : commits.core ≡ core
  pub back_by : commits.by ≡ back

-- A core with the same program and sizes
pub record IsSameKind (old new : TheCore) : Type 0 where
  pub program : new.program ≡ old.program
  pub sizes : new.sizes ≡ old.sizes

-- The history goes on with a renewal, which is allowed there. What was committed stays
pub record HasBegunAgain (old new : TheCore) (seen new_seen : List Entry) (commits new_commits : TheBack)
    (new_told : ℕ) : Type 0 where
  pub kind : IsSameKind old new
  pub last : List Entry
  pub begins : StartsWith last seen
  pub may : MayAdd old.program old.sizes last front (Does Renew)
  pub seen_is : new_seen ≡ entry front (Does Renew) ∷ last
  pub ended : new_commits.ended ≡ None
  pub shown : new_commits.shown ≡ commits.shown
  pub state : back_state new_commits ≡ back_state commits
  pub told : new_told ≡ length (unit_of old.program old.sizes last).tenants

-- There was no memory for another core: it is the old one, more of whose history was seen, and what was committed stays
pub record HasStayed (old new : TheCore) (seen new_seen : List Entry) (commits new_commits : TheBack) :
    Type 0 where
  pub core_is : new ≡ old
  pub begins : StartsWith new_seen seen
  pub ended : new_commits.ended ≡ None
  pub shown : new_commits.shown ≡ commits.shown
  pub state : back_state new_commits ≡ back_state commits
