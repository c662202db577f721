-- The answers of the calls of a core, of a seat before the call and after it.
use Rattle.std.specs.Prelude.{ℕ}
use Rattle.inorder.specs.declared.history.Source.{Source}
use Rattle.station.specs.declared.answers.Ask.{Ask}
use Rattle.station.specs.declared.answers.Claim.{Claim}
use Rattle.station.specs.declared.answers.Finish.{Finish}
use Rattle.station.specs.declared.job.Job.{Job}
use Rattle.station.specs.declared.answers.Retire.{Retire}
use Rattle.station.specs.declared.answers.Settle.{Settle}
use Rattle.station.specs.declared.answers.Tenant.{Tenant as Letting}
use Rattle.station.specs.Asking.{AskAnswers}
use Rattle.station.specs.Claiming.{ClaimAnswers}
use Rattle.station.specs.Letting.{IsLetOut, MayLetOut}
use Rattle.station.specs.Recovery.{IsMended, WasSquashed}
use Rattle.station.specs.Retirement.{RetireAnswers}
use Rattle.station.specs.Seats.{Caller, TheCore, unit_seen}
use Rattle.station.specs.Waking.{Wakes}
use Rattle.station.specs.Writeback.{FinishAnswers, SettleAnswers}

-- A statement on a seat before a call and after it, at a core
abbrev pub Reply : Type 1
Reply = TheCore → Caller → Caller → Type 0

-- The front may let this tenant out
abbrev pub MayLetNow : Letting → TheCore → Caller → Type 0
MayLetNow t core v = MayLetOut core.program core.sizes (unit_seen core v) t

-- The tenant was let
abbrev pub IsLetNow : Letting → Reply
IsLetNow t core v w = IsLetOut core.program core.sizes v.by t v.seen w.seen

-- A question for source k of the tenant of this station and tag is answered so
abbrev pub AnswersAsk : ℕ × ℕ → Source → ℕ × ℕ → Ask → Reply
AnswersAsk of k from r core v w =
    AskAnswers core.program core.sizes v.by v.seen w.seen of.0 of.1 k from.0 from.1 r

-- A claim is answered so
abbrev pub AnswersClaim : ℕ → Claim → Reply
AnswersClaim station r core v w =
    ClaimAnswers core.program core.sizes v.by v.seen w.seen station r

-- The writeback of a job is answered so
abbrev pub AnswersFinish : Job → Finish → Reply
AnswersFinish job r core v w = FinishAnswers core.program core.sizes v.by v.seen w.seen job r

-- The settling of a load is answered so
abbrev pub AnswersSettle : ℕ → ℕ → Settle → Reply
AnswersSettle station tag r core v w =
    SettleAnswers core.program core.sizes v.by v.seen w.seen station tag r

-- Values were taken to tenants of these stations
abbrev pub Woke : (ℕ → Type 0) → Reply
Woke Station core v w = Wakes core.program core.sizes v.by v.seen w.seen Station

-- A retirement is answered so
abbrev pub AnswersRetire : Retire → Reply
AnswersRetire r core v w = RetireAnswers core.program core.sizes v.by v.seen w.seen r

-- The miss of this station was mended
abbrev pub MendsAt : ℕ → Reply
MendsAt station core v w = IsMended core.program core.sizes v.by station v.seen w.seen

-- The tenant of this station and tag was squashed
abbrev pub SquashesAt : ℕ → ℕ → Reply
SquashesAt station tag core v w =
    WasSquashed core.program core.sizes v.by station tag v.seen w.seen
