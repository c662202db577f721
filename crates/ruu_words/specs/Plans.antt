-- What a kind of step owes, so that it keeps the rule.
use Rattle.std.specs.Prelude.{◌≡◌, ◌≢◌, ℕ, ◌<◌, List, [], ◌++◌, map}
use Rattle.instructions.specs.Programs.{Program}
use Rattle.inorder.specs.declared.history.Entry.{Entry}
use Rattle.inorder.specs.declared.history.Event.{Event}
use Rattle.inorder.specs.History.{IsLegal, entry, front, own, renewals, unit_of}
use Rattle.inorder.specs.Unit.{Sizes}
use Rattle.ruu_words.specs.declared.place.Place.{Place}
use Rattle.ruu_words.specs.declared.rule.Draft.{Draft}
use Rattle.ruu_words.specs.declared.rule.View.{View}
use Rattle.ruu_words.specs.Content.{Content, IsDraft}
use Rattle.ruu_words.specs.Places.{IsPlace}
use Rattle.ruu_words.specs.Views.{IsCaller}

-- What a step on place x shows, where history h and the let in progress d may be there: the events
-- that it adds, and that the words are then those of the unit after them
pub record Plan (P : Program) (C : Sizes) (id : ℕ) (h : List Entry) (d : Draft) (x : Place) (new : ℕ)
    (Kind : List Entry → Draft → List Event → Type 0) : Type 0 where
  pub events : List Event
  pub draft : Draft
  pub mine : id ≢ front → draft ≡ d
  pub legal : IsLegal P C (map (entry id) events ++ h)
  pub same : renewals (map (entry id) events ++ h) ≡ renewals h
  pub proper : IsDraft P C (unit_of P C (map (entry id) events ++ h)) draft
  pub here : Content P C (unit_of P C (map (entry id) events ++ h)) draft x new
  pub else : (y : Place) (n : ℕ) → IsPlace C.ring y → y ≢ x → Content P C (unit_of P C h) d y n →
      Content P C (unit_of P C (map (entry id) events ++ h)) draft y n
  pub kind : Kind h draft events

-- The one obligation of each kind of step: a plan at each history that goes on from what was seen,
-- with no entry of the caller in between
abbrev pub Plans : Program → Sizes → ℕ → View → Place → (ℕ → ℕ) → (ℕ → List Entry → Draft → List Event → Type 0) → Type 0
Plans P C id v x f Kind =
    (between : List Entry) (d : Draft) → IsLegal P C (between ++ v.seen)
    → renewals (between ++ v.seen) ≡ renewals v.seen → own id between ≡ [] → IsCaller v.role id
    → (id ≡ front → v.draft ≡ d) → IsDraft P C (unit_of P C (between ++ v.seen)) d
    → (n : ℕ) → n < 18446744073709551616 → Content P C (unit_of P C (between ++ v.seen)) d x n
    → Plan P C id (between ++ v.seen) d x (f n) (Kind n)
