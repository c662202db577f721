-- Events of a log with their places, which are judged in turn or wait.
use Rattle.std.specs.Prelude.{◌≡◌, ◌⊎◌, List, ◌∷◌, ◌++◌, map}
use Rattle.replay.specs.declared.unit.Unit.{Unit as Held}
use Rattle.events.specs.declared.event.Event.{Event}
use Rattle.events.specs.declared.item.Item.{Item}
use Rattle.events.specs.declared.log_judge.LogJudge.{LogJudge}
use Rattle.events.specs.declared.verdict.Refused.{Refused}
use Rattle.events.specs.declared.verdict.Verdict.{Verdict}
use Rattle.events.specs.declared.verdict.Verdict.TheVariants.{Refused as IsRefusal}
use Rattle.events.specs.Logs.{AreTaken}
use Rattle.events.specs.Told.{Begins, Refuses}

-- The events, without their places
abbrev pub events_of : List Item → List Event
events_of items = map (λ (item : Item). item.event) items

-- The events before one of these are taken in turn from a unit, and that one is refused there
pub record IsRefusedAmong (u : Held) (items : List Item) (refused : Refused) (v : Held) : Type 0 where
  pub before : List Item
  pub after : List Item
  pub are : items ≡ before ++ refused.item ∷ after
  pub at : Held
  pub taken : AreTaken u (events_of before) at
  pub refuses : Refuses at (Begins refused.item.event) refused.why v

-- A judge is told these events: of those that have waited and these, the first ones are taken in turn, and the others wait
pub record Judges (old : LogJudge) (told : List Item) (new : LogJudge) : Type 0 where
  pub judged : List Item
  pub are : old.waiting.items ++ told ≡ judged ++ new.waiting.items
  pub taken : AreTaken old.judge.unit (events_of judged) new.judge.unit

-- A log ends with a verdict, once the events that have waited are taken in turn; or one of these is refused
abbrev pub IsClosed : LogJudge → Verdict → LogJudge → Verdict → Type 0
IsClosed old verdict new answer =
    ((answer ≡ verdict) × AreTaken old.judge.unit (events_of old.waiting.items) new.judge.unit)
    ⊎ ((refused : Refused) × (answer ≡ IsRefusal refused)
    × IsRefusedAmong old.judge.unit old.waiting.items refused new.judge.unit)
