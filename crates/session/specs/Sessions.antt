-- What contracts see of a session, and what it answers.
use Rattle.std.specs.Prelude.{⊤, ◌≡◌, ◌≢◌, ℕ, ◌<◌, ◌≤◌, ◌-◌, ◌^◌, ◌⊎◌, max, Bool, true, false, List, [], Option, Some, None, IsSome}
use Rattle.instructions.specs.Programs.{Program}
use Rattle.instructions.specs.declared.end.End.{End}
use Rattle.instructions.specs.Settings.{Settings}
use Rattle.instructions.specs.Registers.{register_count}
use Rattle.inorder.specs.declared.history.Entry.{Entry}
use Rattle.inorder.specs.History.{IsLegal, back}
use Rattle.instructions.specs.Histories.{StartsWith}
use Rattle.inorder.specs.Machine.{start}
use Rattle.inorder.specs.Runs.{state_in}
use Rattle.back.specs.Backs.{IsSameBack, TheBack, back_state}
use Rattle.back.specs.Ends.{ending_of}
use Rattle.front.specs.declared.answers.Rest.{Rest}
use Rattle.front.specs.Rests.{rested_after}
use Rattle.snapshots.specs.declared.mark.Mark.{Mark}
use Rattle.snapshots.specs.declared.snap.Snap.{Snap}
use Rattle.snapshots.specs.Snapshots.{IsSnapshotOf, snapshot}
use Rattle.station.specs.Seats.{Caller, TheCore}
use Rattle.session.specs.declared.commands.Command.{Command}
use Rattle.session.specs.declared.commands.Command.TheVariants as ask
use Rattle.session.specs.declared.names.Party.{Party}
use Rattle.session.specs.declared.names.Party.TheVariants as party
use Rattle.session.specs.declared.reading.Line.{Line}
use Rattle.session.specs.declared.replies.Refusal.{Refusal}
use Rattle.session.specs.declared.replies.Refusal.TheVariants as no
use Rattle.session.specs.declared.replies.Reply.{Reply}
use Rattle.session.specs.declared.replies.Reply.TheVariants as say
use Rattle.session.specs.declared.units.UnitJob.{UnitJob}
use Rattle.session.specs.Units.{unit_count}
use Rattle.session.specs.Accounts.{HasTurned, IsLinkTold, IsOperandTold}
use Rattle.session.specs.Rows.{HasCommittedTold, IsRingTold, IsRowSeen}
use Rattle.session.specs.Replies.{IsCreatorNow, IsInfoSeen, IsLook, IsRecovery, IsRefresh, IsRefreshAt, IsRest, IsShown}
use Rattle.session.specs.Moments.{GrowsLegally}
use Rattle.session.specs.Renewals.{HasBegunAgain, HasStayed}
use Rattle.session.specs.Workers.{AreWorkers, HasClaimedTold, UnitHasFinished, HasNone, StaySeen, job_at, seen_at, station_held}

-- A session: its core, the one history that its seats have seen together, its units, its back, the
-- greatest count of its snapper, the mark that was shown last, what the front has seen, what its create
-- vector has touched, how many tenants there were when it last rested, whether it has not turned or
-- recovered since, what it began with, and the lines since that may have changed something
pub record TheSession : Type 0 where
  pub core : TheCore
  pub seen : List Entry
  pub units : List (Option UnitJob)
  pub commits : TheBack
  pub snapper : ℕ
  pub mark : Option Mark
  pub fronts : List Entry
  pub touched : ℕ
  pub trained_upto : ℕ
  pub rested : Bool
  pub config : Settings
  pub lines : List Line

-- Its parts are of one core, and it knows when its front is at a rest
pub record IsOneCore (P : Program) (core : TheCore) (program : Program) (all : Caller)
    (front_core : TheCore) (front_rested rested : Bool) (commits : TheBack) (units : List (Option UnitJob)) (count : ℕ) : Type 0 where
  pub named : core.program ≡ P
  pub program_is : program ≡ core.program
  pub all_core : all.core ≡ core
  pub front_is : front_core ≡ core
  pub rests : rested ≡ true → front_rested ≡ true
  pub back_core : commits.core ≡ core
  pub back_by : commits.by ≡ back
  pub workers : AreWorkers core units
  pub places : count ≡ unit_count
  pub legal : IsLegal core.program core.sizes all.seen

-- A session at the start of a program: nothing was done, and no unit was made
pub record IsStartOfSession (P : Program) (config : Settings) (s : TheSession) : Type 0 where
  pub program : s.core.program ≡ P
  pub sizes : s.core.sizes ≡
      record { ring = config.ring; queue = config.queue; first_tag = config.first_tag }
  pub seen : s.seen ≡ []
  pub units : HasNone s.units
  pub snapper : s.snapper ≡ 0
  pub mark : s.mark ≡ None
  pub trained_upto : s.trained_upto ≡ 0
  pub touched : s.touched ≡ 0
  pub rested : s.rested ≡ false
  pub going : s.commits.ended ≡ None
  pub state : back_state s.commits ≡ start P
  pub config_is : s.config ≡ config
  pub lines : s.lines ≡ []

-- A snapshot of the machine in order, behind every mark and every snapshot before it
pub record HasTaken (old new : TheSession) (snap : Snap) : Type 0 where
  pub is : IsSnapshotOf old.core.program snap
  pub later : old.snapper ≤ snap.n
  pub seen : new ≡ record old { snapper = snap.n }

-- The mark that was shown last was learnt
pub record HasLearnt (old new : TheSession) : Type 0 where
  pub mark : Mark
  pub shown : old.mark ≡ Some mark
  pub seen : new ≡ record old { snapper = max old.snapper mark.n }

-- What was committed is as it was
abbrev pub KeepsCommits : TheSession → TheSession → Type 0
KeepsCommits old new = IsSameBack old.commits new.commits

-- What was committed is as it was, and another snapshot may have been shown
abbrev pub ShowsCommits : TheSession → TheSession → Type 0
ShowsCommits old new = IsSameBack (record old.commits { shown = new.commits.shown }) new.commits

-- A session whose words were looked at: its seats have seen more, and all else is as it was
pub record OnlyLooked (old new : TheSession) : Type 0 where
  pub grows : GrowsLegally old.core old.seen new.seen
  pub kept : new ≡ record old { seen = new.seen; commits = new.commits; fronts = new.fronts }
  pub commits : KeepsCommits old new

-- The front has made a step that is no rest: all but the front is as it was
pub record FrontHasStepped (old new : TheSession) : Type 0 where
  pub grows : GrowsLegally old.core old.seen new.seen
  pub kept : new ≡ record old { seen = new.seen; fronts = new.fronts; touched = new.touched; rested = false }

-- A unit has made a step
pub record UnitHasStepped (old new : TheSession) : Type 0 where
  pub grows : GrowsLegally old.core old.seen new.seen
  pub kept : new ≡ record old { seen = new.seen; units = new.units }

-- The back has made a step
pub record BackHasStepped (old new : TheSession) : Type 0 where
  pub grows : GrowsLegally old.core old.seen new.seen
  pub kept : new ≡ record old { seen = new.seen; commits = new.commits }

-- The words may have been looked at
abbrev pub MayHaveLooked : TheSession → TheSession → Type 0
MayHaveLooked old new = (new ≡ old) ⊎ OnlyLooked old new

-- A snapshot of what was committed was shown
pub record HasShown (old new : TheSession) (mark : Mark) : Type 0 where
  pub says : IsShown old.core old.seen new.seen mark
  pub count : mark.n ≡ (back_state old.commits).count
  pub shown : new.commits.shown ≡ snapshot (back_state old.commits)
  pub kept : new.mark ≡ Some mark
  pub commits : ShowsCommits old new

-- There was no memory to show a snapshot: the one that was shown last stays so, and its mark
pub record WasNotShown (old new : TheSession) : Type 0 where
  pub mark : new.mark ≡ old.mark
  pub commits : KeepsCommits old new

-- The front has rested, if nobody was live
pub record SessionHasRested (old new : TheSession) (rest : Rest) : Type 0 where
  pub says : IsRest old.core old.seen new.seen old.trained_upto new.trained_upto rest
  pub rested : new.rested ≡ rested_after old.rested rest

-- What one of those that can meet has seen
abbrev pub seen_by : Party → TheSession → List Entry
seen_by party.Front s = s.fronts
seen_by party.Back s = s.commits.seen
seen_by (party.Unit unit) s = seen_at s.units unit

-- Nobody has forgotten what it had seen, each unit has the job that it had, and the back is the same
pub record StaysAsSeen (old new : TheSession) : Type 0 where
  pub keeps : (p : Party) → StartsWith (seen_by p new) (seen_by p old)
  pub units : StaySeen old.units new.units
  pub commits : IsSameBack old.commits new.commits

-- One of them has seen all that was seen before, and its own is part of what is seen now
pub record HasToldAll (old new : TheSession) (p : Party) : Type 0 where
  pub stays : StaysAsSeen old new
  pub learns : StartsWith (seen_by p new) old.seen
  pub tells : StartsWith new.seen (seen_by p new)

-- Nothing can be of this name
abbrev pub IsNobody : Party → Type 0
IsNobody (party.Unit unit) = unit_count ≤ unit
IsNobody p = ⊥

-- A seat can be of this name
abbrev pub IsSomebody : Party → Type 0
IsSomebody (party.Unit unit) = unit < unit_count
IsSomebody p = ⊤

-- Two have met: each has seen what either had seen
pub record TwoHaveMet (old new : TheSession) (one other : Party) : Type 0 where
  pub one_is : IsSomebody one
  pub other_is : IsSomebody other
  pub two : one ≢ other
  pub stays : StaysAsSeen old new
  pub one_told : StartsWith (seen_by one new) (seen_by other old)
  pub other_told : StartsWith (seen_by other new) (seen_by one old)

-- The committed state, and how the run has ended, if it has
pub record HasReported (old new : TheSession) (end : End) : Type 0 where
  pub state : state_in end ≡ back_state old.commits
  pub outcome : end.outcome ≡ ending_of old.commits.ended
  pub commits : KeepsCommits old new

-- The core was renewed, where the front had rested. Units are made anew
pub record HasRenewed (old new : TheSession) : Type 0 where
  pub rested : old.rested ≡ true
  pub begins : HasBegunAgain old.core new.core old.seen new.seen old.commits new.commits new.trained_upto
  pub rests_no_more : new.rested ≡ false
  pub units : HasNone new.units

-- There was no memory to renew the core
pub record WasNotRenewed (old new : TheSession) : Type 0 where
  pub rested : old.rested ≡ true
  pub stays : HasStayed old.core new.core old.seen new.seen old.commits new.commits
  pub rests_no_more : new.rested ≡ false
  pub units : new.units ≡ old.units

-- The ring has this station
abbrev pub IsStationOf : TheSession → (station : ℕ) → Type 0
IsStationOf s station = station < s.core.sizes.ring

-- Why a command is refused
abbrev pub MayRefuseCommand : TheSession → Command → Refusal → Type 0
MayRefuseCommand s (ask.Claim unit station) no.NoUnit = unit_count ≤ unit
MayRefuseCommand s (ask.Claim unit station) no.NoStation = s.core.sizes.ring ≤ station
MayRefuseCommand s (ask.Claim unit station) no.HoldsJob = IsSome (job_at s.units unit)
MayRefuseCommand s (ask.Finish unit station) no.NoUnit = unit_count ≤ unit
MayRefuseCommand s (ask.Finish unit station) no.NoStation = s.core.sizes.ring ≤ station
MayRefuseCommand s (ask.Finish unit station) no.HoldsNone =
    (held : ℕ) → station_held s.units unit ≡ Some held → held ≢ station
MayRefuseCommand s (ask.RefreshAt station) no.NoStation = s.core.sizes.ring ≤ station
MayRefuseCommand s (ask.Look station) no.NoStation = s.core.sizes.ring ≤ station
MayRefuseCommand s (ask.Info station) no.NoStation = s.core.sizes.ring ≤ station
MayRefuseCommand s (ask.Operand station k) no.NoStation = s.core.sizes.ring ≤ station
MayRefuseCommand s (ask.Link station k) no.NoStation = s.core.sizes.ring ≤ station
MayRefuseCommand s (ask.Station station) no.NoStation = s.core.sizes.ring ≤ station
MayRefuseCommand s (ask.Creator register) no.NoRegister = register_count ≤ register
MayRefuseCommand s ask.Learn no.NoMark = s.mark ≡ None
MayRefuseCommand s ask.Commit no.NoCount = 2 ^ 64 - 1 ≤ (back_state s.commits).count
MayRefuseCommand s (ask.Meet one other) no.NoUnit = IsNobody one ⊎ IsNobody other
MayRefuseCommand s (ask.Meet one other) no.NoOther = one ≡ other
MayRefuseCommand s ask.Renew no.NoRest = s.rested ≡ false
MayRefuseCommand s ask.Renew no.HasEnded = IsSome s.commits.ended
MayRefuseCommand s command refusal = ⊥

-- The answer to a command: it is allowed between the two histories, or it is a refusal that changes
-- nothing
abbrev pub Answers : TheSession → TheSession → Command → Reply → Type 0
Answers old new (ask.Turn given) (say.Turn turn info) =
    HasTurned old.core given old.seen new.seen turn info × KeepsCommits old new
Answers old new ask.Recover (say.Recovery recovery) = IsRecovery old.core old.seen new.seen recovery
Answers old new (ask.Claim unit station) (say.Claim answer from) =
    HasClaimedTold old.core old.seen new.seen old.units new.units unit station answer from
    × KeepsCommits old new
Answers old new (ask.Finish unit station) (say.Finish answer) =
    UnitHasFinished old.core old.seen new.seen old.units new.units unit station answer
Answers old new ask.Refresh (say.Refresh refresh) =
    IsRefresh old.core back old.seen new.seen refresh × KeepsCommits old new
Answers old new (ask.RefreshAt station) (say.Refresh refresh) =
    IsStationOf old station
    × IsRefreshAt old.core back old.seen new.seen station refresh × KeepsCommits old new
Answers old new ask.Commit (say.Commit commit oldest) =
    HasCommittedTold old.core old.commits new.commits old.seen new.seen old.units commit oldest
Answers old new ask.Show (say.Shown mark) = HasShown old new mark
Answers old new ask.Show say.Memory = WasNotShown old new
Answers old new ask.Take (say.Taken snap) = HasTaken old new snap
Answers old new ask.Take say.Gone = new ≡ old
Answers old new ask.Learn say.Learnt = HasLearnt old new
Answers old new (ask.Look station) (say.Look seen) =
    IsStationOf old station × IsLook old.core old.seen new.seen station seen × KeepsCommits old new
Answers old new (ask.Creator register) (say.Creator made) =
    (register < register_count)
    × IsCreatorNow old.core old.seen new.seen old.trained_upto register made × KeepsCommits old new
Answers old new ask.Touched (say.Touched count) = (count ≡ old.touched) × (new ≡ old)
Answers old new (ask.Info station) (say.Info info) =
    IsStationOf old station
    × IsInfoSeen old.core old.seen new.seen station info × KeepsCommits old new
Answers old new (ask.Operand station k) (say.Operand told operand) =
    IsStationOf old station × (told ≡ k)
    × IsOperandTold old.core old.seen new.seen station k operand × KeepsCommits old new
Answers old new (ask.Link station k) (say.Link from) =
    IsStationOf old station
    × IsLinkTold old.core old.seen new.seen station k from × KeepsCommits old new
Answers old new (ask.Station station) (say.Station row) =
    IsStationOf old station
    × IsRowSeen old.core old.seen new.seen old.units station row × KeepsCommits old new
Answers old new ask.Ring (say.Ring head ahead) =
    IsRingTold old.core old.seen new.seen head ahead × KeepsCommits old new
Answers old new ask.Rest (say.Rest rest) = SessionHasRested old new rest
Answers old new (ask.Meet one other) say.Met = TwoHaveMet old new one other
Answers old new ask.Report (say.Report end) = HasReported old new end
Answers old new ask.Report say.Memory = KeepsCommits old new
Answers old new ask.Renew say.Renewed = HasRenewed old new
Answers old new ask.Renew say.Memory = WasNotRenewed old new
Answers old new command (say.Refused refusal) = MayRefuseCommand old command refusal × (new ≡ old)
Answers old new command reply = ⊥

-- The session with what a command may change
abbrev pub after_command : Command → TheSession → TheSession → TheSession
after_command (ask.Turn given) old new =
    record old {
      seen = new.seen;
      commits = new.commits;
      fronts = new.fronts;
      touched = new.touched;
      rested = false;
    }
after_command ask.Recover old new =
    record old { seen = new.seen; fronts = new.fronts; touched = new.touched; rested = false }
after_command (ask.Claim unit station) old new =
    record old { seen = new.seen; commits = new.commits; fronts = new.fronts; units = new.units }
after_command (ask.Finish unit station) old new = record old { seen = new.seen; units = new.units }
after_command ask.Show old new =
    record old { seen = new.seen; commits = new.commits; mark = new.mark }
after_command ask.Take old new = record old { snapper = new.snapper }
after_command ask.Learn old new = record old { snapper = new.snapper }
after_command ask.Touched old new = old
after_command ask.Rest old new =
    record old { seen = new.seen; fronts = new.fronts; trained_upto = new.trained_upto; rested = new.rested }
after_command (ask.Meet one other) old new =
    record old {
      seen = new.seen;
      units = new.units;
      commits = new.commits;
      fronts = new.fronts;
    }
after_command ask.Renew old new =
    record old {
      core = new.core;
      seen = new.seen;
      units = new.units;
      commits = new.commits;
      fronts = new.fronts;
      trained_upto = new.trained_upto;
      rested = new.rested;
    }
after_command command old new = record old { seen = new.seen; commits = new.commits; fronts = new.fronts }

-- A command was answered so
pub record IsReplied (old new : TheSession) (command : Command) (reply : Reply) : Type 0 where
  pub grows : GrowsLegally old.core old.seen new.seen
  pub says : Answers old new command reply
  pub kept : new ≡ after_command command old new
