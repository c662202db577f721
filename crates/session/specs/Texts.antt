-- The words and numbers of answers, with which their lines begin. What stands after them is compared by transcripts alone.
use Rattle.std.specs.Prelude.{◌≡◌, ℕ, List, [], ◌++◌, Option, None, Some, codes, decimal}
use Rattle.isa.specs.Report.{hexadecimal, newline, report_of}
use Rattle.instructions.specs.Endings.{stop_word}
use Rattle.instructions.specs.declared.op.Half.{Half}
use Rattle.instructions.specs.declared.op.Half.TheVariants.{High, Low}
use Rattle.inorder.specs.declared.history.Source.{Source}
use Rattle.inorder.specs.declared.history.Source.TheVariants.{First, Second}
use Rattle.back.specs.declared.answers.Commit.TheVariants as commit
use Rattle.back.specs.declared.answers.Refresh.{Refresh}
use Rattle.back.specs.declared.answers.Refresh.TheVariants as refresh
use Rattle.front.specs.declared.answers.Made.TheVariants as made
use Rattle.front.specs.declared.answers.Recovery.TheVariants as recovery
use Rattle.front.specs.declared.answers.Rest.{Rest}
use Rattle.front.specs.declared.answers.Rest.TheVariants as rest
use Rattle.front.specs.declared.answers.Turn.TheVariants as turn
use Rattle.ruu_words.specs.declared.station.StationState.{StationState}
use Rattle.ruu_words.specs.declared.station.StationState.TheVariants as state
use Rattle.station.specs.declared.answers.Finish.{Finish}
use Rattle.station.specs.declared.answers.Finish.TheVariants as finish
use Rattle.station.specs.declared.answers.Seen.{Seen}
use Rattle.session.specs.declared.replies.NextFetch.{NextFetch}
use Rattle.session.specs.declared.replies.Finished.{Finished}
use Rattle.session.specs.declared.replies.Head.{Head}
use Rattle.session.specs.declared.replies.Info.{Info}
use Rattle.session.specs.declared.replies.Refusal.{Refusal}
use Rattle.session.specs.declared.replies.Refusal.TheVariants as no
use Rattle.session.specs.declared.replies.Reply.{Reply}
use Rattle.session.specs.declared.replies.Reply.TheVariants as say
use Rattle.session.specs.declared.units.Claimed.TheVariants as claimed
use Rattle.session.specs.declared.units.Held.{Held}

-- The name of a half
abbrev pub half_text : Half → List ℕ
half_text Low = codes "Low"
half_text High = codes "High"

-- The text of a source
abbrev pub source_text : Source → List ℕ
source_text First = codes "1"
source_text Second = codes "2"

-- The state that a station shows
abbrev pub state_text : StationState → List ℕ
state_text state.Free = codes "FREE"
state_text state.Open = codes "OPEN"
state_text state.Busy = codes "BUSY"
state_text state.Addr = codes "ADDR"
state_text state.Done = codes "DONE"
state_text state.Miss = codes "MISS"
state_text state.Stop = codes "STOP"

-- A job: its tenant, and the first value that it computes with. A store's has no other
abbrev pub job_words : Held → List ℕ
job_words h =
    codes "Job station " ++ (decimal h.station ++ (codes " tag " ++ (decimal h.tag
    ++ (codes " index " ++ (decimal h.index ++ (codes " half " ++ (half_text h.half
    ++ (codes " pc " ++ (hexadecimal h.pc ++ (codes " predicted " ++ (hexadecimal h.predicted
    ++ (codes " a " ++ hexadecimal h.a))))))))))))

-- A finish, and behind it the word of the station
abbrev pub finish_words : Finish → Finished → List ℕ
finish_words finish.Finished f =
    codes "Finished station " ++ (decimal f.station ++ (codes " tag " ++ (decimal f.tag
    ++ (codes " " ++ (state_text f.seen.state ++ (codes " value " ++ hexadecimal f.seen.value))))))
finish_words finish.Stale f = codes "Stale station " ++ (decimal f.station ++ (codes " tag " ++ decimal f.tag))

-- A refresh
abbrev pub refresh_words : Refresh → List ℕ
refresh_words (refresh.Loaded station tag value) =
    codes "Loaded station " ++ (decimal station ++ (codes " tag " ++ (decimal tag
    ++ (codes " value " ++ hexadecimal value))))
refresh_words (refresh.Blocked load store) =
    codes "Blocked load " ++ (decimal load ++ (codes " store " ++ decimal store))
refresh_words refresh.Idle = codes "Idle"

-- The word of a station
abbrev pub seen_words : Seen StationState → List ℕ
seen_words seen =
    codes "tag " ++ (decimal seen.tag ++ (codes " state " ++ (state_text seen.state
    ++ (codes " value " ++ hexadecimal seen.value))))

-- An info word
abbrev pub info_words : Info → List ℕ
info_words info =
    codes " index " ++ (decimal info.index ++ (codes " half " ++ (half_text info.half
    ++ (codes " predicted " ++ hexadecimal info.predicted))))

-- A station, or that there is none
abbrev pub some_station : Option ℕ → List ℕ
some_station None = codes "none"
some_station (Some s) = decimal s

-- The ring
abbrev pub ring_words : Head → NextFetch → List ℕ
ring_words head ahead =
    codes "head " ++ (some_station head.station ++ (codes " tail " ++ (decimal ahead.station
    ++ (codes " next " ++ (hexadecimal ahead.pc ++ (codes " free " ++ decimal head.free))))))

-- The text of the answer of a rest
abbrev pub rest_text : Rest → List ℕ
rest_text rest.Idle = codes "Idle"
rest_text rest.Live = codes "Live"

-- Why a line was refused
abbrev pub refusal_text : Refusal → List ℕ
refusal_text no.NoUnit = codes "there is no such unit"
refusal_text no.NoStation = codes "there is no such station"
refusal_text no.NoRegister = codes "there is no such register"
refusal_text no.HoldsJob = codes "this unit holds a job"
refusal_text no.HoldsNone = codes "this unit holds no job of that station"
refusal_text no.NoMark = codes "no snapshot was shown yet"
refusal_text no.NoCount = codes "no more can be counted"
refusal_text no.NoRest = codes "the front has not rested"
refusal_text no.HasEnded = codes "the run has ended"
refusal_text no.NoOther = codes "a seat does not meet itself"

-- The words and numbers of an answer. A report has lines of its own
abbrev pub reply_words : Reply → List ℕ
reply_words (say.Turn turn.Full info) = codes "Full"
reply_words (say.Turn turn.NoInstr info) = codes "NoInstr"
reply_words (say.Turn turn.QueueFull info) = codes "QueueFull"
reply_words (say.Turn turn.Spent info) = codes "Spent"
reply_words (say.Turn (turn.Let station tag pc) info) =
    codes "Let station " ++ (decimal station ++ (codes " tag " ++ (decimal tag ++ (codes " pc " ++ hexadecimal pc))))
reply_words (say.Recovery (recovery.Mended station squashed)) =
    codes "Mended station " ++ (decimal station ++ (codes " squashed " ++ decimal squashed))
reply_words (say.Recovery recovery.NoMiss) = codes "NoMiss"
reply_words (say.Claim (claimed.Job h) from) = job_words h
reply_words (say.Claim claimed.NotOpen from) = codes "NotOpen"
reply_words (say.Claim (claimed.Waiting tag k) from) =
    codes "Waiting tag " ++ (decimal tag ++ (codes " source " ++ source_text k))
reply_words (say.Claim (claimed.Moved tag) from) = codes "Moved tag " ++ decimal tag
reply_words (say.Finish f) = finish_words f.answer f
reply_words (say.Refresh r) = refresh_words r.answer
reply_words (say.Commit (commit.Retired pc n) oldest) =
    codes "Retired pc " ++ (hexadecimal pc ++ (codes " n " ++ decimal n))
reply_words (say.Commit (commit.Half pc) oldest) = codes "Half pc " ++ hexadecimal pc
reply_words (say.Commit commit.NotDone oldest) = codes "NotDone"
reply_words (say.Commit commit.Empty oldest) = codes "Empty"
reply_words (say.Commit (commit.Ended code) oldest) = codes "Ended " ++ stop_word code
reply_words (say.Shown mark) = codes "Mark n " ++ decimal mark.n
reply_words say.Memory = codes "Memory"
reply_words (say.Taken snap) = codes "Snap n " ++ (decimal snap.n ++ (codes " pc " ++ hexadecimal snap.pc))
reply_words say.Gone = codes "Gone"
reply_words say.Learnt = codes "Learnt"
reply_words (say.Look seen) = codes "Seen " ++ seen_words seen
reply_words (say.Creator (made.Made station tag)) =
    codes "Made station " ++ (decimal station ++ (codes " tag " ++ decimal tag))
reply_words (say.Creator (made.Base value)) = codes "Base " ++ hexadecimal value
reply_words (say.Touched count) = decimal count
reply_words (say.Info info) = codes "Info" ++ info_words info
reply_words (say.Operand k operand) = codes "Seen tag " ++ (decimal operand.seen.tag ++ codes " state ")
reply_words (say.Link (Some from)) =
    codes "Link from station " ++ (decimal from.station ++ (codes " tag " ++ decimal from.tag))
reply_words (say.Link None) = codes "NoLink"
reply_words (say.Station row) = seen_words row.seen
reply_words (say.Ring head ahead) = ring_words head ahead
reply_words (say.Rest rest) = rest_text rest
reply_words say.Met = codes "Met"
reply_words (say.Report end) = []
reply_words say.Renewed = codes "Renewed"
reply_words (say.Refused refusal) = refusal_text refusal

-- A text begins with these words
pub record BeginsWith (text words : List ℕ) : Type 0 where
  pub more : List ℕ
  pub is : text ≡ words ++ more

-- A text was added of which this is true
pub record HasAddedText (Fact : List ℕ → Type 0) (before after : List ℕ) : Type 0 where
  pub text : List ℕ
  pub fact : Fact text
  pub written : after ≡ before ++ text

-- The line of a refusal, by the number of the line of the script
abbrev pub refused_line : ℕ → Refusal → List ℕ
refused_line number refusal =
    codes "line " ++ (decimal number ++ (codes ": " ++ (refusal_text refusal ++ newline)))

-- The line of an answer to the line of a script with this number
abbrev pub IsLineOf : (number : ℕ) → Reply → List ℕ → Type 0
IsLineOf number (say.Refused refusal) text = text ≡ refused_line number refusal
IsLineOf number (say.Report end) text = text ≡ report_of end
IsLineOf number reply text = BeginsWith text (reply_words reply)
