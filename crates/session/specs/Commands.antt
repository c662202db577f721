-- The commands that make one call, and the texts that stand for them.
use Rattle.std.specs.Prelude.{◌==◌, ◌&&◌, ℕ, Bool, not, List, codes, Option, Some, None, Result, Ok, Err, if◌then◌else◌}
use Rattle.std.specs.Option.{option_map, option_or}
use Rattle.std.specs.Str.{bytes_eq}
use Rattle.isa.specs.RegisterNames.{register}
use Rattle.isa.specs.declared.listing.fault.FaultKind.{FaultKind}
use Rattle.lexical.specs.Number.{decimal_in, number_in}
use Rattle.session.specs.declared.commands.Command.{Command}
use Rattle.session.specs.declared.commands.Command.TheVariants as call
use Rattle.session.specs.declared.events.Event.{Event}
use Rattle.session.specs.declared.events.Event.TheVariants as event
use Rattle.session.specs.declared.verbs.Verb.{Verb}
use Rattle.session.specs.declared.verbs.Verb.TheVariants.{Claim, Commit, Creator, Finish, Help, Info, Learn, Link, List as Listing, Look, Meet, Operand, Queue, Quit, Recover, Refresh, Renew, Report, Rest, Ring, Show, Station, Step, Table, Take, Touched, Turn, Undo, Until}
use Rattle.inorder.specs.declared.history.Source.{Source}
use Rattle.inorder.specs.declared.history.Source.TheVariants.{First, Second}
use Rattle.session.specs.declared.names.Party.{Party}
use Rattle.session.specs.declared.names.Party.TheVariants as party
use Rattle.session.specs.Units.{unit_named}
use Rattle.session.specs.Tokens.{Texts, is_empty}

-- The word of a command
abbrev pub verb_name : Verb → List ℕ
verb_name Turn = codes "turn"
verb_name Recover = codes "recover"
verb_name Claim = codes "claim"
verb_name Finish = codes "finish"
verb_name Refresh = codes "refresh"
verb_name Commit = codes "commit"
verb_name Show = codes "show"
verb_name Take = codes "take"
verb_name Learn = codes "learn"
verb_name Look = codes "look"
verb_name Creator = codes "creator"
verb_name Touched = codes "touched"
verb_name Info = codes "info"
verb_name Operand = codes "operand"
verb_name Link = codes "link"
verb_name Station = codes "station"
verb_name Ring = codes "ring"
verb_name Rest = codes "rest"
verb_name Meet = codes "meet"
verb_name Report = codes "report"
verb_name Renew = codes "renew"
verb_name Table = codes "table"
verb_name Queue = codes "queue"
verb_name Step = codes "step"
verb_name Until = codes "until"
verb_name Undo = codes "undo"
verb_name Help = codes "help"
verb_name Listing = codes "list"
verb_name Quit = codes "quit"

-- The line has one operand
abbrev pub has_one : Texts → Bool
has_one w = not (is_empty w.first) && is_empty w.second

-- The line has two operands
abbrev pub has_two : Texts → Bool
has_two w = not (is_empty w.second) && is_empty w.rest

-- What a word without operands asks for
abbrev pub without_operands : {A : Type 0} → Texts → A → Option A
without_operands w asked = if is_empty w.first then Some asked else None

-- The number of a station or a register
abbrev pub whole_number : List ℕ → Option ℕ
whole_number text = decimal_in 4294967295 text

-- The number that is the only operand
abbrev pub only_number : Texts → Option ℕ
only_number w = if has_one w then whole_number w.first else None

-- The number that was read, if there is one
abbrev pub read_number : Result ℕ FaultKind → Option ℕ
read_number (Ok n) = Some n
read_number (Err fault) = None

-- A register by its number, or as a listing names it
abbrev pub register_of : List ℕ → Option ℕ
register_of text = option_or (whole_number text) (read_number (register text))

-- The register that is the only operand
abbrev pub only_register : Texts → Option ℕ
only_register w = if has_one w then register_of w.first else None

-- The pc that is the only operand
abbrev pub only_pc : Texts → Option ℕ
only_pc w = if has_one w then number_in 0 4294967295 w.first else None

-- The event of this name
abbrev pub event_named : List ℕ → Option Event
event_named name =
    if bytes_eq name (codes "blocked") then Some event.Blocked
    else if bytes_eq name (codes "misprediction") then Some event.Misprediction
    else if bytes_eq name (codes "stale") then Some event.Stale else None

-- The event that is the only operand
abbrev pub only_event : Texts → Option Event
only_event w = if has_one w then event_named w.first else None

-- A turn, and its guess where one is given
abbrev pub turn_of : Texts → Option Command
turn_of w =
    if is_empty w.first then Some (call.Turn None) else option_map (λ next. call.Turn (Some next)) (only_pc w)

-- A refresh, of one station where that is given
abbrev pub refresh_of : Texts → Option Command
refresh_of w = if is_empty w.first then Some call.Refresh else option_map (λ s. call.RefreshAt s) (only_number w)

-- Both, where both are there
abbrev pub both : {A B : Type 0} → Option A → Option B → Option (A × B)
both None second = None
both (Some a) None = None
both (Some a) (Some b) = Some (a, b)

-- A unit and the number of a station
abbrev pub unit_and_number : Texts → Option (ℕ × ℕ)
unit_and_number w = if has_two w then both (unit_named w.first) (whole_number w.second) else None

-- The source with this number, 1 or 2
abbrev pub source_numbered : Option ℕ → Option Source
source_numbered None = None
source_numbered (Some n) = if n == 1 then Some First else if n == 2 then Some Second else None

-- The source that an operand names
abbrev pub source_of : List ℕ → Option Source
source_of text = source_numbered (whole_number text)

-- The number of a station, and one of its two sources
abbrev pub station_and_source : Texts → Option (ℕ × Source)
station_and_source w = if has_two w then both (whole_number w.first) (source_of w.second) else None

-- The one with this name: the front, the back, or a unit
abbrev pub party_of : List ℕ → Option Party
party_of name =
    if bytes_eq name (codes "front") then Some party.Front
    else if bytes_eq name (codes "back") then Some party.Back
    else option_map (λ u. party.Unit u) (unit_named name)

-- Two that meet
abbrev pub two_parties : Texts → Option (Party × Party)
two_parties w = if has_two w then both (party_of w.first) (party_of w.second) else None

-- The command of a word and its operands
abbrev pub command_of : Verb → Texts → Option Command
command_of Turn w = turn_of w
command_of Recover w = without_operands w call.Recover
command_of Claim w = option_map (λ p. call.Claim p.0 p.1) (unit_and_number w)
command_of Finish w = option_map (λ p. call.Finish p.0 p.1) (unit_and_number w)
command_of Refresh w = refresh_of w
command_of Commit w = without_operands w call.Commit
command_of Show w = without_operands w call.Show
command_of Take w = without_operands w call.Take
command_of Learn w = without_operands w call.Learn
command_of Look w = option_map (λ s. call.Look s) (only_number w)
command_of Creator w = option_map (λ r. call.Creator r) (only_register w)
command_of Touched w = without_operands w call.Touched
command_of Info w = option_map (λ s. call.Info s) (only_number w)
command_of Operand w = option_map (λ p. call.Operand p.0 p.1) (station_and_source w)
command_of Link w = option_map (λ p. call.Link p.0 p.1) (station_and_source w)
command_of Station w = option_map (λ s. call.Station s) (only_number w)
command_of Ring w = without_operands w call.Ring
command_of Rest w = without_operands w call.Rest
command_of Meet w = option_map (λ p. call.Meet p.0 p.1) (two_parties w)
command_of Report w = without_operands w call.Report
command_of Renew w = without_operands w call.Renew
command_of Table w = None
command_of Queue w = None
command_of Step w = None
command_of Until w = None
command_of Undo w = None
command_of Help w = None
command_of Listing w = None
command_of Quit w = None
