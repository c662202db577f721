-- The event that a line of a log says, or why the line is not read.
use Rattle.std.specs.Prelude.{ℕ, zero, suc, ◌==◌, ◌||◌, Bool, true, List, [], ◌∷◌, codes, length, Option, Some, None, Result, Ok, Err, if◌then◌else◌}
use Rattle.std.specs.List.{after_first, before_first}
use Rattle.std.specs.Option.{ok_or}
use Rattle.std.specs.Str.{bytes_eq}
use Rattle.lexical.specs.Blank.{is_blank, trim}
use Rattle.lexical.specs.Cut.{after_byte}
use Rattle.lexical.specs.Line.{before_comment}
use Rattle.lexical.specs.Number.{decimal_in, number_in}
use Rattle.events.specs.declared.event.Event.{Event}
use Rattle.events.specs.declared.event.Event.TheVariants as event
use Rattle.events.specs.declared.event.Issue.{Issue}
use Rattle.events.specs.declared.event.Issue.TheVariants as issue
use Rattle.events.specs.declared.grammar.Rest.{Rest}
use Rattle.events.specs.declared.grammar.Rest.TheVariants as rest
use Rattle.events.specs.declared.grammar.Valued.{Valued}
use Rattle.events.specs.declared.grammar.Valued.TheVariants.{Complete, End, Execute, Load, Read}
use Rattle.events.specs.declared.grammar.Verb.{Verb}
use Rattle.events.specs.declared.grammar.Verb.TheVariants as verb
use Rattle.events.specs.declared.unread.Unread.{Unread}
use Rattle.events.specs.declared.unread.Unread.TheVariants.{Ambiguous, More, NoEvent, NoNumber}

-- ---- words

-- Nothing stands there
abbrev pub is_end : Option (List ℕ) → Bool
is_end None = true
is_end (Some text) = length text == 0

-- A line before its end and its comment; none where more than a line stands there
abbrev pub code_of : List ℕ → Option (List ℕ)
code_of line =
    if is_end (after_byte 10 line)
    then Some (before_comment (before_first (λ b. b == 13) (before_first (λ b. b == 10) line))) else None

-- The first word of a text, between blanks, and the text after it; none where it is blank
abbrev pub next_word : List ℕ → Option (List ℕ × List ℕ)
next_word text =
    if length (trim text) == 0 then None
    else Some (before_first is_blank (trim text), after_first is_blank (trim text))

-- A word before others, if there is one
abbrev pub onto : (List ℕ → List (List ℕ)) → Option (List ℕ × List ℕ) → List (List ℕ)
onto others None = []
onto others (Some found) = found.0 ∷ others found.1

-- The first words of a text, at most n
abbrev pub words : ℕ → List ℕ → List (List ℕ)
words zero text = []
words (suc n) text = onto (words n) (next_word text)

-- A pc or a value, as listings write numbers: -2147483648 to 4294967295
abbrev pub number : List ℕ → Result ℕ Unread
number word = ok_or (number_in 2147483648 4294967295 word) NoNumber

-- A position: a decimal number, to 4294967295
abbrev pub position : List ℕ → Result ℕ Unread
position word = ok_or (decimal_in 4294967295 word) NoNumber

-- ---- the first word

-- What `issue` means
abbrev pub issued : Issue → Result Verb Unread
issued issue.Ambiguous = Err Ambiguous
issued issue.Dispatch = Ok verb.Let
issued issue.Execute = Ok verb.Begin

-- What the first word of an event that may state a value says
abbrev pub valued_of : List ℕ → Option Valued
valued_of word =
    if bytes_eq word (codes "end") || (bytes_eq word (codes "finish") || bytes_eq word (codes "write")) then Some End
    else if bytes_eq word (codes "writeback") || bytes_eq word (codes "broadcast") then Some End
    else if bytes_eq word (codes "address") || bytes_eq word (codes "execute") then Some Execute
    else if bytes_eq word (codes "read") then Some Read
    else if bytes_eq word (codes "load") then Some Load
    else if bytes_eq word (codes "complete") then Some Complete else None

-- What the first word of another event says
abbrev pub other_verb_of : Issue → List ℕ → Result Verb Unread
other_verb_of meant word =
    if bytes_eq word (codes "let") || bytes_eq word (codes "dispatch") then Ok verb.Let
    else if bytes_eq word (codes "from") then Ok verb.From
    else if bytes_eq word (codes "begin") then Ok verb.Begin
    else if bytes_eq word (codes "retire") || bytes_eq word (codes "commit") then Ok verb.Retire
    else if bytes_eq word (codes "squash") || bytes_eq word (codes "flush") then Ok verb.Squash
    else if bytes_eq word (codes "mend") then Ok verb.Mend
    else if bytes_eq word (codes "recover") then Ok verb.Recover
    else if bytes_eq word (codes "issue") then issued meant else Err NoEvent

-- What a word says, if that is not an event that may state a value
abbrev pub verb_if : Issue → List ℕ → Option Valued → Result Verb Unread
verb_if meant word None = other_verb_of meant word
verb_if meant word (Some v) = Ok (verb.Valued v)

-- What the first word says
abbrev pub verb_of : Issue → List ℕ → Result Verb Unread
verb_of meant word = verb_if meant word (valued_of word)

-- ---- the words after it

-- What is made of what was read
abbrev pub and_then : {A B : Type 0} → Result A Unread → (A → Result B Unread) → Result B Unread
and_then (Ok a) more = more a
and_then (Err why) more = Err why

-- `[PC] [-> NEXT]`
abbrev pub let_of : List (List ℕ) → Result Event Unread
let_of [] = Ok (event.Let None None)
let_of (pc ∷ []) = and_then (number pc) (λ at. Ok (event.Let (Some at) None))
let_of (arrow ∷ next ∷ []) =
    if bytes_eq arrow (codes "->") then and_then (number next) (λ to. Ok (event.Let None (Some to)))
    else if bytes_eq next (codes "->") then Err NoNumber else Err More
let_of (pc ∷ arrow ∷ next ∷ []) =
    if bytes_eq arrow (codes "->")
    then and_then (number pc) (λ at. and_then (number next) (λ to. Ok (event.Let (Some at) (Some to)))) else Err More
let_of _ = Err More

-- `WHO`
abbrev pub alone : List (List ℕ) → Result ℕ Unread
alone [] = Err NoNumber
alone (who ∷ []) = position who
alone _ = Err More

-- `[WHO]`
abbrev pub perhaps_alone : List (List ℕ) → Result (Option ℕ) Unread
perhaps_alone [] = Ok None
perhaps_alone words = and_then (alone words) (λ who. Ok (Some who))

-- `WHO PRODUCER`
abbrev pub from_of : List (List ℕ) → Result Event Unread
from_of [] = Err NoNumber
from_of (who ∷ []) = Err NoNumber
from_of (who ∷ producer ∷ []) = and_then (position who) (λ n. and_then (position producer) (λ p. Ok (event.From n p)))
from_of _ = Err More

-- `WHO [= VALUE]`
abbrev pub who_and_value : List (List ℕ) → Result (ℕ × Option ℕ) Unread
who_and_value (who ∷ sign ∷ []) = if bytes_eq sign (codes "=") then Err NoNumber else Err More
who_and_value (who ∷ sign ∷ value ∷ []) =
    if bytes_eq sign (codes "=")
    then and_then (position who) (λ n. and_then (number value) (λ v. Ok (n, Some v))) else Err More
who_and_value words = and_then (alone words) (λ n. Ok (n, None))

-- `WHO [= VALUE]` of a retirement
abbrev pub retire_by : List (List ℕ) → Result Event Unread
retire_by words = and_then (who_and_value words) (λ p. Ok (event.Retire (Some p.0) p.1))

-- `[WHO] [= VALUE]`
abbrev pub retire_of : List (List ℕ) → Result Event Unread
retire_of [] = Ok (event.Retire None None)
retire_of (sign ∷ value ∷ []) =
    if bytes_eq sign (codes "=") then and_then (number value) (λ v. Ok (event.Retire None (Some v)))
    else retire_by (sign ∷ value ∷ [])
retire_of words = retire_by words

-- ---- the event

-- An event that may state a value
abbrev pub valued_event : Valued → ℕ → Option ℕ → Event
valued_event End who value = event.End who value
valued_event Execute who value = event.Execute who value
valued_event Read who value = event.Read who value
valued_event Load who value = event.Load who value
valued_event Complete who value = event.Complete who value

-- The event of what the first word says and the words after it
abbrev pub event_of : Verb → List (List ℕ) → Result Event Unread
event_of verb.Let words = let_of words
event_of verb.From words = from_of words
event_of verb.Begin words = and_then (alone words) (λ who. Ok (event.Begin who))
event_of (verb.Valued v) words = and_then (who_and_value words) (λ p. Ok (valued_event v p.0 p.1))
event_of verb.Retire words = retire_of words
event_of verb.Squash words = and_then (perhaps_alone words) (λ who. Ok (event.Squash who))
event_of verb.Mend words = and_then (alone words) (λ who. Ok (event.Mend who))
event_of verb.Recover words = and_then (alone words) (λ who. Ok (event.Recover who))

-- The event of a word and the text after it, if there is a word
abbrev pub event_if : Issue → Option (List ℕ × List ℕ) → Result (Option Event) Unread
event_if meant None = Ok None
event_if meant (Some found) =
    and_then (verb_of meant found.0) (λ v. and_then (event_of v (words 4 found.1)) (λ e. Ok (Some e)))

-- The event of the code of a line, if that is one line
abbrev pub event_on : Issue → Option (List ℕ) → Result (Option Event) Unread
event_on meant None = Err More
event_on meant (Some code) = event_if meant (next_word code)

-- The event of a line, which may have its end: none where it is blank before its comment
unfoldable pub event_in : Issue → List ℕ → Result (Option Event) Unread
event_in meant line = event_on meant (code_of line)

-- The words after the first one that were read
abbrev pub words_of : Rest → List (List ℕ)
words_of rest.None = []
words_of (rest.One first) = first.now ∷ []
words_of (rest.Two first second) = first.now ∷ second.now ∷ []
words_of (rest.Three first second third) = first.now ∷ second.now ∷ third.now ∷ []
words_of (rest.More first second third fourth) = first.now ∷ second.now ∷ third.now ∷ fourth.now ∷ []
