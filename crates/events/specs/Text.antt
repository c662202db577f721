-- A verdict on the bytes of a log.
use Rattle.std.specs.Prelude.{◌≡◌, ◌≢◌, ◌==◌, ℕ, ◌+◌, List, [], ◌∷◌, ◌++◌, length, Option, Some, None, Result, Ok, Err, if◌then◌else◌, IfSome}
use Rattle.std.specs.Io.BufRead.{drop_through, take_through}
use Rattle.std.specs.Io.KnownBytes.{IsAtEnd}
use Rattle.replay.specs.declared.unit.Unit.{Unit as Held}
use Rattle.replay.specs.Lets.{sizes_of, unit_of}
use Rattle.events.specs.declared.event.Event.{Event}
use Rattle.events.specs.declared.event.Issue.{Issue}
use Rattle.events.specs.declared.text.Said.{Said}
use Rattle.events.specs.declared.text.Said.TheVariants as saying
use Rattle.events.specs.declared.unread.Unread.{Unread as Reason}
use Rattle.events.specs.declared.verdict.Refused.{Refused as Refusal}
use Rattle.events.specs.declared.verdict.Verdict.{Verdict}
use Rattle.events.specs.declared.verdict.Verdict.TheVariants.{Legal, Refused, Unread}
use Rattle.events.specs.Lines.{event_in}
use Rattle.events.specs.Logs.{AreTaken, IsHistoryOf}
use Rattle.events.specs.Told.{Begins, Refuses}

-- A byte before others, in their first line
abbrev pub onto_line : ℕ → List (List ℕ) → List (List ℕ)
onto_line byte [] = (byte ∷ []) ∷ []
onto_line byte (line ∷ lines) = (byte ∷ line) ∷ lines

-- The lines of a text, each with its line feed, which the last one may lack
abbrev pub lines_of : List ℕ → List (List ℕ)
lines_of [] = []
lines_of (byte ∷ text) = if byte == 10 then (byte ∷ []) ∷ lines_of text else onto_line byte (lines_of text)

-- A line that is read, before others that say these events, says these: one more, or none where it is blank
abbrev pub SaysBefore : Result (Option Event) Reason → (others events : List Event) → Type 0
SaysBefore (Ok None) others events = events ≡ others
SaysBefore (Ok (Some event)) others events = events ≡ event ∷ others
SaysBefore (Err why) others events = ⊥

-- Each of the lines is read, and they say these events in turn
abbrev pub AreRead : Issue → List (List ℕ) → List Event → Type 0
AreRead meant [] events = events ≡ []
AreRead meant (line ∷ lines) events =
    (others : List Event) × AreRead meant lines others × SaysBefore (event_in meant line) others events

-- Each of the lines is read, and their events are taken in turn from one unit to a later one
pub record AreLegal (meant : Issue) (u : Held) (lines : List (List ℕ)) (v : Held) : Type 0 where
  pub events : List Event
  pub say : AreRead meant lines events
  pub taken : AreTaken u events v

-- The line of a text after those before it; its number is from 1 on
pub record IsLine (text : List ℕ) (before : List (List ℕ)) (line : List ℕ) (number : ℕ) : Type 0 where
  pub after : List (List ℕ)
  pub are : lines_of text ≡ before ++ line ∷ after
  pub counts : number ≡ length before + 1

-- The lines before one are legal, and its event is refused for this reason
pub record IsRefused (meant : Issue) (u : Held) (text : List ℕ) (refused : Refusal) (v : Held) : Type 0 where
  pub before : List (List ℕ)
  pub line : List ℕ
  pub is : IsLine text before line refused.item.line
  pub says : event_in meant line ≡ Ok (Some refused.item.event)
  pub at : Held
  pub legal : AreLegal meant u before at
  pub refuses : Refuses at (Begins refused.item.event) refused.why v

-- The lines before one are legal, and it is not read for this reason
pub record IsUnread (meant : Issue) (u : Held) (text : List ℕ) (number : ℕ) (why : Reason) (v : Held) : Type 0 where
  pub before : List (List ℕ)
  pub line : List ℕ
  pub is : IsLine text before line number
  pub unread : event_in meant line ≡ Err why
  pub legal : AreLegal meant u before v

-- The verdict on a text whose events begin at a unit
abbrev pub IsVerdict : Issue → Held → (text : List ℕ) → Verdict → Held → Type 0
IsVerdict meant u text Legal v = AreLegal meant u (lines_of text) v
IsVerdict meant u text (Refused refused) v = IsRefused meant u text refused v
IsVerdict meant u text (Unread number why) v = IsUnread meant u text number why v

-- The first line of what is known of a reader was read
pub record IsFirst (text line : List ℕ) (left : Option (List ℕ)) : Type 0 where
  pub some : text ≢ []
  pub is : line ≡ take_through 10 text
  pub leaves : left ≡ Some (drop_through 10 text)

-- This line was read, from a reader whose bytes may be known
abbrev pub IsLineRead : Option (List ℕ) → (line : List ℕ) → Option (List ℕ) → Type 0
IsLineRead from line left = IfSome from (λ text. IsFirst text line left)

-- What a line of this number says
abbrev pub said : ℕ → Result (Option Event) Reason → Said
said number (Ok None) = saying.Nothing
said number (Ok (Some event)) = saying.Event (record { line = number; cycle = None; event = event })
said number (Err why) = saying.Unread number why

-- A line of this number was read that says this
pub record Reads (meant : Issue) (number : ℕ) (from : Option (List ℕ)) (answer : Said) (left : Option (List ℕ)) : Type 0 where
  pub line : List ℕ
  pub read : IsLineRead from line left
  pub says : answer ≡ said number (event_in meant line)

-- What the next line of a reader says, of this number: nothing is left, or the line was read and says this
abbrev pub IsRead : Issue → (number : ℕ) → Option (List ℕ) → Said → Option (List ℕ) → Type 0
IsRead meant number from saying.End left = IsAtEnd from
IsRead meant number from answer left = Reads meant number from answer left

-- A text whose verdict is legal, from a unit before its first let on, says a legal history
pub record IsHistoryText (meant : Issue) (u v : Held) (text : List ℕ) : Type 0 where
  pub events : List Event
  pub say : AreRead meant (lines_of text) events
  pub history : IsHistoryOf u.program.now (sizes_of u) events (unit_of v)

-- Each text whose verdict is legal says a legal history
abbrev pub EachLegalTextIsAHistory : Type 0
EachLegalTextIsAHistory =
    (meant : Issue) (u v : Held) (text : List ℕ) → u.tenants.items ≡ [] → IsVerdict meant u text Legal v →
    IsHistoryText meant u v text
