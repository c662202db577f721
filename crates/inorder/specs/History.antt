-- Legal histories of a shared unit. A history is a list of entries, the last one first, so that
-- what was there before an entry is what is after it in the list.
use Rattle.std.specs.Prelude.{⊤, ◌≡◌, ◌⊎◌, ℕ, suc, ◌<◌, ◌≤◌, true, List, [], ◌∷◌, Some, ◌==◌, if◌then◌else◌}
use Rattle.instructions.specs.Histories.{StartsWith}
use Rattle.instructions.specs.Programs.{Program}
use Rattle.inorder.specs.declared.history.Act.{Act}
use Rattle.inorder.specs.declared.history.Act.TheVariants.{Claim, Deliver, Finish, Link, Load, Mend, Retire, Speculate, Squash}
use Rattle.inorder.specs.declared.history.Entry.{Entry}
use Rattle.inorder.specs.declared.history.Event.{Event}
use Rattle.inorder.specs.declared.history.Event.TheVariants.{Does, Marks, Refuses}
use Rattle.inorder.specs.declared.history.Mark.{Mark}
use Rattle.inorder.specs.declared.history.Mark.TheVariants.{Asked, Walked}
use Rattle.inorder.specs.declared.history.Refusal.{Refusal}
use Rattle.inorder.specs.declared.history.Refusal.TheVariants.{Empty, Moved, NotDone, NotOpen, Over, Stale, Waiting}
use Rattle.inorder.specs.declared.history.Source.{Source}
use Rattle.inorder.specs.declared.history.Step.{Step}
use Rattle.inorder.specs.declared.history.Step.TheVariants.{Let, On, Renew}
use Rattle.inorder.specs.Legal.{Allowed, Taken, reached}
use Rattle.inorder.specs.Replies.{Has, HasMoved, HasNoOpen, IsAskedInTime, IsDelivered, IsEmpty, IsNotDone, IsOpen, IsOver, IsStale, IsWaiting, last_tag}
use Rattle.inorder.specs.Tenants.{IsNotLive, IsThere, Linked, Tenant, operand}
use Rattle.inorder.specs.Unit.{Sizes, UpdateUnit, at, next_tag, recent}

-- The callers: one front, one back, and any number of units

-- The front's number
abbrev pub front : ℕ
front = 0

-- The back's number
abbrev pub back : ℕ
back = 1

-- The number is that of a unit
abbrev pub IsUnit : ℕ → Type 0
IsUnit by = 2 ≤ by

-- The number is that of a unit or of the back
abbrev pub IsUnitOrBack : ℕ → Type 0
IsUnitOrBack by = 1 ≤ by

-- One entry of a history: its caller, and what happened
abbrev pub entry : ℕ → Event → Entry
entry by event = record { by = by; event = event }

-- The unit of a history: refusals and marks change nothing

-- The steps, with that of an event if it is one
abbrev pub with_event : ℕ → Event → List Taken → List Taken
with_event by (Does s) ss = record { by = by; step = s } ∷ ss
with_event by (Refuses r) ss = ss
with_event by (Marks m) ss = ss

-- The steps of a history, each with its caller
abbrev pub taken_of : List Entry → List Taken
taken_of [] = []
taken_of (e ∷ h) = with_event e.by e.event (taken_of h)

-- The unit that they reach
abbrev pub unit_of : Program → Sizes → List Entry → UpdateUnit
unit_of P C h = reached P C (taken_of h)

-- How many renewals there were, with that of an event if it is one
abbrev pub renewed_by : Event → ℕ → ℕ
renewed_by (Does Renew) n = suc n
renewed_by _ n = n

-- How many renewals a history has
abbrev pub renewals : List Entry → ℕ
renewals [] = 0
renewals (e ∷ h) = renewed_by e.event (renewals h)

-- The tenant was open at an earlier point
pub record WasOpen (P : Program) (C : Sizes) (h : List Entry) (p : ℕ) : Type 0 where
  pub point : List Entry
  pub starts : StartsWith h point
  pub opened : Has (unit_of P C point) p IsOpen

-- Who may do what

-- This caller may act so, if the unit allows it: anybody delivers, and nobody speculates
abbrev pub IsTheirAct : ℕ → Act → Type 0
IsTheirAct by (Link k) = by ≡ front
IsTheirAct by (Deliver k) = ⊤
IsTheirAct by Claim = IsUnit by
IsTheirAct by Finish = IsUnit by
IsTheirAct by Load = by ≡ back
IsTheirAct by (Retire n) = by ≡ back
IsTheirAct by Squash = by ≡ front
IsTheirAct by Mend = by ≡ front
IsTheirAct by (Speculate s) = ⊥

-- The front lets no tenant with a spent tag, and it renews
abbrev pub IsTheirs : Sizes → UpdateUnit → ℕ → Step → Type 0
IsTheirs C U by (Let index predicted first second) =
    (by ≡ front) × (next_tag C (recent U) < last_tag)
IsTheirs C U by (On p act) = IsTheirAct by act
IsTheirs C U by Renew = by ≡ front

-- A refusal is true at this point, and this caller is one that is told so
abbrev pub MayRefuse : Program → Sizes → List Entry → ℕ → Refusal → Type 0
MayRefuse P C h by (NotOpen s) = IsUnit by × HasNoOpen (unit_of P C h) s
MayRefuse P C h by (Waiting p k) = IsUnit by × WasOpen P C h p × IsWaiting P (unit_of P C h) p k
MayRefuse P C h by (Moved p) = IsUnit by × WasOpen P C h p × HasMoved (unit_of P C h) p
MayRefuse P C h by (Stale p) = IsUnitOrBack by × IsStale (unit_of P C h) p
MayRefuse P C h by NotDone = (by ≡ back) × IsNotDone P (unit_of P C h)
MayRefuse P C h by Empty = (by ≡ back) × IsEmpty (unit_of P C h)
MayRefuse P C h by Over = (by ≡ back) × IsOver (unit_of P C h)

-- Each source that was linked to q in time, before q made its value, is delivered, or its tenant
-- has left
abbrev pub IsWalked : UpdateUnit → ℕ → Type 0
IsWalked U q =
    (p : ℕ) (t : Tenant) (k : Source) → at U.tenants p ≡ Some t → (operand k t).creator ≡ Some q →
    (operand k t).way ≡ Linked true → IsThere (operand k t).value ⊎ IsNotLive t

-- The source is delivered, or was asked for in time
abbrev pub WasAskedFor : UpdateUnit → ℕ → Source → Type 0
WasAskedFor U p k = IsDelivered U p k ⊎ IsAskedInTime U p k

-- A mark is true at this point, and this caller is one that makes it
abbrev pub MayMark : UpdateUnit → ℕ → Mark → Type 0
MayMark U by (Walked q) = IsUnitOrBack by × IsWalked U q
MayMark U by (Asked p k) = (by ≡ front) × WasAskedFor U p k

-- An event of a caller is allowed after this history
abbrev pub MayAdd : Program → Sizes → List Entry → ℕ → Event → Type 0
MayAdd P C h by (Does s) = IsTheirs C (unit_of P C h) by s × Allowed P C (unit_of P C h) by s
MayAdd P C h by (Refuses r) = MayRefuse P C h by r
MayAdd P C h by (Marks m) = MayMark (unit_of P C h) by m

-- Each entry was allowed after those before it
abbrev pub IsLegal : Program → Sizes → List Entry → Type 0
IsLegal P C [] = ⊤
IsLegal P C (e ∷ h) = IsLegal P C h × MayAdd P C h e.by e.event

-- The entries of one caller
abbrev pub own : ℕ → List Entry → List Entry
own by [] = []
own by (e ∷ h) = if e.by == by then e ∷ own by h else own by h
