-- What a judge answers to a line.
use Rattle.std.specs.Prelude.{⊤, ◌≡◌, ℕ, List, Option, None, Some, Result, Ok, Err}
use Rattle.events.specs.declared.event.Event.{Event}
use Rattle.events.specs.declared.event.Issue.{Issue}
use Rattle.events.specs.declared.item.Item.{Item}
use Rattle.events.specs.declared.unread.Unread.{Unread as Fault}
use Rattle.events.specs.declared.why.Why.{Why}
use Rattle.events.specs.Lines.{event_in}
use Rattle.ruu_judge.specs.declared.owned.OwnedUnit.{OwnedUnit}
use Rattle.ruu_judge.specs.declared.held.Found.{Found}
use Rattle.ruu_judge.specs.declared.held.Found.TheVariants.{Legal, Refused, NoMemory}
use Rattle.ruu_judge.specs.declared.held.Answer.{Answer}
use Rattle.ruu_judge.specs.declared.held.Answer.TheVariants.{Legal as IsRight, Refused as IsWrong, Unread, NoMemory as NoRoom, Ended}
use Rattle.ruu_judge.specs.Units.{IsLegal, IsRefused, IsSame}

-- An event is legal
abbrev pub GoesOn : OwnedUnit → Event → Found → Type 0
GoesOn o event (Legal p) = IsLegal o event p
GoesOn o event _ = ⊥

-- An event is refused
abbrev pub IsStopped : OwnedUnit → Event → Found → Type 0
IsStopped o event (Refused p item why) = (item.event ≡ event) × IsRefused o event why p
IsStopped o event _ = ⊥

-- The answer to an event
abbrev pub IsAnswerToEvent : OwnedUnit → Event → Answer → Found → Type 0
IsAnswerToEvent o event IsRight g = GoesOn o event g
IsAnswerToEvent o event IsWrong g = IsStopped o event g
IsAnswerToEvent o event NoRoom g = g ≡ NoMemory
IsAnswerToEvent o event _ g = ⊥

-- The answer to a line that has an event or none, or is not read
abbrev pub IsAnswerToLine : OwnedUnit → Result (Option Event) Fault → Answer → Found → Type 0
IsAnswerToLine o (Ok None) answer g = (answer ≡ IsRight) × (g ≡ Legal o)
IsAnswerToLine o (Ok (Some event)) answer g = IsAnswerToEvent o event answer g
IsAnswerToLine o (Err why) answer g = (answer ≡ Unread) × (g ≡ Legal o)

-- The answer to a line: a judge that has ended reads none
abbrev pub IsAnswer : Issue → Found → (line : List ℕ) → Answer → Found → Type 0
IsAnswer issue (Legal o) line answer g = IsAnswerToLine o (event_in issue line) answer g
IsAnswer issue f line answer g = (answer ≡ Ended) × (g ≡ f)

-- A judge has found the same
abbrev pub IsAsBefore : Found → Found → Type 0
IsAsBefore (Legal o) (Legal p) = IsSame o p
IsAsBefore (Refused o item why) (Refused p item' why') = IsSame o p × (item' ≡ item) × (why' ≡ why)
IsAsBefore NoMemory NoMemory = ⊤
IsAsBefore _ _ = ⊥
