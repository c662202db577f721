-- What a step tells its caller.
use Rattle.std.specs.Prelude.{◌≡◌, ℕ, List, [], ◌++◌, map}
use Rattle.atomic_table.specs.Table.{Me, Step}
use Rattle.instructions.specs.Programs.{Program}
use Rattle.inorder.specs.declared.history.Entry.{Entry}
use Rattle.inorder.specs.declared.history.Event.{Event}
use Rattle.inorder.specs.History.{IsLegal, entry, own, renewals}
use Rattle.instructions.specs.Histories.{StartsWith}
use Rattle.inorder.specs.Unit.{Sizes}
use Rattle.ruu_words.specs.declared.rule.Draft.{Draft}
use Rattle.ruu_words.specs.declared.rule.View.{View}
use Rattle.ruu_words.specs.Views.{Unborn}

-- What a step tells: its caller has seen the history before the step, with no renewal, added these
-- events, and `Kind` says which, for the history before them and the let in progress after them
pub record Grows (P : Program) (C : Sizes) (by : ℕ) (v w : View)
    (Kind : List Entry → Draft → List Event → Type 0) : Type 0 where
  pub between : List Entry
  pub events : List Event
  pub not_own : own by between ≡ []
  pub is : w.seen ≡ map (entry by) events ++ (between ++ v.seen)
  pub legal : IsLegal P C w.seen
  pub same : renewals w.seen ≡ renewals v.seen
  pub role : w.role ≡ v.role
  pub by_is : w.by ≡ v.by
  pub spare_is : w.spare ≡ v.spare
  pub told : StartsWith w.seen v.told
  pub kind : Kind (between ++ v.seen) w.draft events

-- Of a step in a table with this opening: the number found, or at a store the number stored, is n
pub record Tells (P : Program) (C : Sizes) (opening : List Entry) (by : ℕ)
    (Kind : ℕ → List Entry → Draft → List Event → Type 0) (s : Step ℕ) (me : Me ℕ View) (n : ℕ)
    (found : Me ℕ View) : Type 0 where
  pub grows : Grows P C by me.0 found.0 (Kind n)
  pub unborn : Unborn opening found.0
  pub slots : found.1 ≡ me.1
