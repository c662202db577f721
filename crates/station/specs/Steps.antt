-- What the steps ask and tell.
use Rattle.std.specs.Prelude.{◌≡◌, ℕ, List, []}
use Rattle.instructions.specs.Programs.{Program}
use Rattle.inorder.specs.declared.history.Entry.{Entry}
use Rattle.inorder.specs.declared.history.Event.{Event}
use Rattle.inorder.specs.History.{front, unit_of}
use Rattle.inorder.specs.Unit.{Sizes}
use Rattle.ruu_words.specs.declared.place.Place.{Place}
use Rattle.ruu_words.specs.declared.rule.Draft.{Draft}
use Rattle.ruu_words.specs.declared.rule.View.{View}
use Rattle.ruu_words.specs.Content.{Content, IsDraft}
use Rattle.ruu_words.specs.Views.{IsCaller}

-- A word as it is at its point, with the let in progress there, which is the front's own
pub record Sees (P : Program) (C : Sizes) (by : ℕ) (v : View) (x : Place) (n : ℕ) (h : List Entry) (d : Draft) (events : List Event) : Type 0 where
  pub none : events ≡ []
  pub caller : IsCaller v.role by
  pub mine : by ≡ front → d ≡ v.draft
  pub proper : IsDraft P C (unit_of P C h) d
  pub content : Content P C (unit_of P C h) d x n
