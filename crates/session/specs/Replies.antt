-- What the calls of a session answer.
use Rattle.std.specs.Prelude.{⊤, ◌≡◌, ℕ, List, [], length, Option, Some, None}
use Rattle.instructions.specs.Instruction.{fixed_next}
use Rattle.instructions.specs.Programs.{Program, instr_of}
use Rattle.inorder.specs.declared.history.Entry.{Entry}
use Rattle.inorder.specs.declared.history.Source.{Source}
use Rattle.inorder.specs.History.{front, unit_of}
use Rattle.inorder.specs.OneHistory.{Adds}
use Rattle.inorder.specs.Unit.{Sizes, front_half}
use Rattle.back.specs.Backs.{TheBack, back_state, committed_in, unit_in}
use Rattle.back.specs.Commits.{CommitAnswers}
use Rattle.back.specs.declared.answers.Commit.{Commit}
use Rattle.back.specs.Refreshes.{RefreshAnswers}
use Rattle.back.specs.Trials.{RefreshAtAnswers}
use Rattle.back.specs.Wakings.{RefreshWakes}
use Rattle.front.specs.Creating.{IsCreatorAnswer}
use Rattle.front.specs.declared.answers.Made.{Made}
use Rattle.front.specs.declared.answers.Recovery.{Recovery}
use Rattle.front.specs.declared.answers.Rest.{Rest}
use Rattle.front.specs.declared.answers.Rest.TheVariants.{Idle, Live}
use Rattle.front.specs.declared.answers.Turn.{Turn}
use Rattle.front.specs.declared.answers.Turn.TheVariants.{Let}
use Rattle.front.specs.Recoveries.{RecoverAnswers}
use Rattle.front.specs.Turns.{LetsOut, Refuses}
use Rattle.ruu_words.specs.declared.station.StationState.{StationState}
use Rattle.snapshots.specs.declared.mark.Mark.{Mark}
use Rattle.station.specs.declared.answers.Claim.{Claim}
use Rattle.station.specs.declared.answers.Claim.TheVariants.{Job as Claimed}
use Rattle.station.specs.declared.answers.Seen.{Seen}
use Rattle.station.specs.declared.answers.SourceState.{SourceState}
use Rattle.station.specs.Looking.{SeesInfo, SeesLink, SeesOperand, SeesStation}
use Rattle.station.specs.Moments.{WasOnce}
use Rattle.station.specs.Claiming.{ClaimAnswers, Holds}
use Rattle.station.specs.Seats.{Caller, TheCore}
use Rattle.session.specs.declared.replies.Info.{Info}
use Rattle.session.specs.declared.replies.Refreshed.{Refreshed}
use Rattle.ruu_words.specs.declared.link.LinkWord.{LinkWord}
use Rattle.session.specs.Moments.{IsBetween}
use Rattle.station.specs.Renewals.{HasNobody}

-- Where a guess is given, that is the predicted next pc, unless the next pc is fixed
abbrev pub IsGuess : (given fixed : Option ℕ) → (predicted : ℕ) → Type 0
IsGuess None fixed predicted = ⊤
IsGuess (Some next) None predicted = predicted ≡ next
IsGuess (Some next) (Some x) predicted = predicted ≡ x

-- A tenant was let, with some predicted next pc
pub record HasLet (P : Program) (C : Sizes) (given : Option ℕ) (before behind : List Entry)
    (station tag pc : ℕ) : Type 0 where
  pub predicted : ℕ
  pub lets : LetsOut P C before behind station tag pc predicted
  pub guess : IsGuess given
      (fixed_next (instr_of P lets.index) (front_half P (unit_of P C lets.point).tenants) pc) predicted

-- A refusal is true at its moment of the call, and adds nothing
pub record IsTurnRefusal (P : Program) (C : Sizes) (before behind : List Entry) (turn : Turn) :
    Type 0 where
  pub adds : Adds P C front before behind []
  pub was : Refuses P C before behind turn

-- A turn of the front
abbrev pub TurnSays : Program → Sizes → Option ℕ → List Entry → List Entry → Turn → Type 0
TurnSays P C given before behind (Let station tag pc) = HasLet P C given before behind station tag pc
TurnSays P C given before behind turn = IsTurnRefusal P C before behind turn

-- The answer of a turn of the front, and what the turn has added to the history
abbrev pub IsTurn : TheCore → Option ℕ → List Entry → List Entry → Turn → Type 0
IsTurn core given old new turn =
    IsBetween old new (λ before behind. TurnSays core.program core.sizes given before behind turn)

-- A recovery by the front
abbrev pub IsRecovery : TheCore → List Entry → List Entry → Recovery → Type 0
IsRecovery core old new recovery =
    IsBetween old new (λ before behind.
    RecoverAnswers core.program core.sizes before behind recovery)

-- A claim by this unit
abbrev pub IsClaim : TheCore → ℕ → List Entry → List Entry → ℕ → Claim → Type 0
IsClaim core by old new station claim =
    IsBetween old new (λ before behind.
    ClaimAnswers core.program core.sizes by before behind station claim)

-- A refresh, and whom a load that got its value has woken
pub record RefreshSays (core : TheCore) (by : ℕ) (before behind : List Entry) (r : Refreshed) : Type 0 where
  pub says : RefreshAnswers core by before behind r.answer
  pub was : ℕ
  pub woken : RefreshWakes core by before behind was r.woken r.answer

-- A refresh by the back
abbrev pub IsRefresh : TheCore → ℕ → List Entry → List Entry → Refreshed → Type 0
IsRefresh core by old new refreshed =
    IsBetween old new (λ before behind. RefreshSays core by before behind refreshed)

-- A refresh of the load of one station, and whom it has woken
pub record RefreshAtSays (core : TheCore) (by : ℕ) (before behind : List Entry) (station : ℕ) (r : Refreshed) :
    Type 0 where
  pub says : RefreshAtAnswers core by before behind station r.answer
  pub was : ℕ
  pub woken : RefreshWakes core by before behind was r.woken r.answer

-- A refresh of one station by the back
abbrev pub IsRefreshAt : TheCore → ℕ → List Entry → List Entry → ℕ → Refreshed → Type 0
IsRefreshAt core by old new station refreshed =
    IsBetween old new (λ before behind. RefreshAtSays core by before behind station refreshed)

-- The job of a claim is its caller's
abbrev pub HoldsWhatIs : TheCore → Caller → Claim → Type 0
HoldsWhatIs core seat (Claimed job) = Holds core.program core.sizes seat.by seat.seen job
HoldsWhatIs core seat claim = ⊤

-- A commit, and after it the state that the back keeps
pub record CommitSays (from to : TheBack) (before behind : List Entry) (commit : Commit) : Type 0 where
  pub says : CommitAnswers (record from { seen = before }) (record to { seen = behind }) commit
  pub state : back_state to ≡ committed_in to.core behind

-- A commit by the back
abbrev pub IsCommit : TheBack → TheBack → List Entry → List Entry → Commit → Type 0
IsCommit from to old new commit =
    IsBetween old new (λ before behind. CommitSays from to before behind commit)

-- A mark of what was committed at a moment
abbrev pub IsShown : TheCore → List Entry → List Entry → Mark → Type 0
IsShown core old new mark =
    IsBetween old new (λ before behind. mark.n ≡ (committed_in core behind).count)

-- The word of a station
abbrev pub IsLook : TheCore → List Entry → List Entry → ℕ → Seen StationState → Type 0
IsLook core old new station seen =
    IsBetween old new (λ before behind. SeesStation core.program core.sizes behind station seen)

-- The creator of a register, or its value
abbrev pub IsCreatorNow : TheCore → List Entry → List Entry → (told register : ℕ) → Made → Type 0
IsCreatorNow core old new told register made =
    IsBetween old new (λ before behind.
    IsCreatorAnswer core.program (unit_in core behind) told register made)

-- The info word of a station
abbrev pub IsInfoSeen : TheCore → List Entry → List Entry → ℕ → Info → Type 0
IsInfoSeen core old new station info =
    IsBetween old new (λ before behind.
    SeesInfo core.program core.sizes behind station info.index info.half info.predicted)

-- The operand word of a source of a station
abbrev pub IsOperandSeen : TheCore → List Entry → List Entry → ℕ → Source → Seen SourceState → Type 0
IsOperandSeen core old new station k seen =
    IsBetween old new (λ before behind.
    SeesOperand core.program core.sizes behind station k seen)

-- The link word from a station to a source of another one
abbrev pub IsLinkSeen : TheCore → List Entry → List Entry → (producer consumer : ℕ) → Source → Option LinkWord
    → Type 0
IsLinkSeen core old new producer consumer k seen =
    IsBetween old new (λ before behind.
    SeesLink core.program core.sizes behind producer consumer k seen)

-- Nobody is live, and all that the path's tenants have made stands apart from them now
pub record HasIdled (P : Program) (C : Sizes) (before behind : List Entry) (new_told : ℕ) : Type 0 where
  pub adds : Adds P C front before behind []
  pub nobody : HasNobody (unit_of P C behind)
  pub told : new_told ≡ length (unit_of P C behind).tenants

-- Somebody was live at a moment of the call, and nothing changed
pub record SomebodyWasLive (P : Program) (C : Sizes) (before behind : List Entry) (told new_told : ℕ) :
    Type 0 where
  pub adds : Adds P C front before behind []
  pub live : WasOnce P C before behind (λ U. ¬ HasNobody U)
  pub told_is : new_told ≡ told

-- A rest of the front
abbrev pub RestSays : Program → Sizes → List Entry → List Entry → (told new_told : ℕ) → Rest → Type 0
RestSays P C before behind told new_told Idle = HasIdled P C before behind new_told
RestSays P C before behind told new_told Live = SomebodyWasLive P C before behind told new_told

-- The answer of a rest, and of how many tenants nobody is told any more before it and behind it
abbrev pub IsRest : TheCore → List Entry → List Entry → (told new_told : ℕ) → Rest → Type 0
IsRest core old new told new_told rest =
    IsBetween old new (λ before behind.
    RestSays core.program core.sizes before behind told new_told rest)
