-- What is told beside the answer of a call, from words that were read behind it.
use Rattle.std.specs.Prelude.{◌≡◌, ◌==◌, ℕ, ◌<◌, ◌≤◌, List, Option, Some, None, if◌then◌else◌}
use Rattle.inorder.specs.declared.history.Entry.{Entry}
use Rattle.inorder.specs.declared.history.Source.{Source}
use Rattle.instructions.specs.Histories.{StartsWith}
use Rattle.front.specs.declared.answers.Turn.{Turn}
use Rattle.front.specs.declared.answers.Turn.TheVariants.{Let}
use Rattle.ruu_words.specs.declared.link.LinkWord.{LinkWord}
use Rattle.station.specs.declared.answers.Seen.{Seen}
use Rattle.station.specs.declared.answers.SourceState.{SourceState}
use Rattle.station.specs.declared.answers.SourceState.TheVariants.{Wait}
use Rattle.station.specs.declared.job.Job.{Job}
use Rattle.station.specs.Looking.{SeesStation}
use Rattle.station.specs.Seats.{TheCore}
use Rattle.station.specs.Waking.{HasWoken}
use Rattle.station.specs.Writeback.{FinishAnswers}
use Rattle.session.specs.declared.replies.Producer.{Producer}
use Rattle.session.specs.declared.replies.Finished.{Finished}
use Rattle.session.specs.declared.replies.Info.{Info}
use Rattle.session.specs.declared.replies.Operand.{Operand}
use Rattle.session.specs.declared.units.Claimed.{Claimed}
use Rattle.session.specs.declared.units.Claimed.TheVariants as claimed
use Rattle.session.specs.Moments.{IsBetween}
use Rattle.session.specs.Replies.{IsInfoSeen, IsLinkSeen, IsOperandSeen, IsTurn}

-- The producer at a station that its link word names for the tenant with this tag
abbrev pub producer_named : Option LinkWord → (station tag : ℕ) → Option Producer
producer_named None station tag = None
producer_named (Some link) station tag =
    if link.consumer == tag then Some (record { station = station; tag = link.producer }) else None

-- The link word from station p to source k of station c was seen, and it names no producer for this tag
pub record IsNotFrom (core : TheCore) (old new : List Entry) (p c tag : ℕ) (k : Source) : Type 0 where
  pub seen : Option LinkWord
  pub is : IsLinkSeen core old new p c k seen
  pub other : producer_named seen p tag ≡ None

-- A link word was seen that names this producer for the tenant of this tag at station c
pub record IsFrom (core : TheCore) (old new : List Entry) (c tag : ℕ) (k : Source) (from : Producer) :
    Type 0 where
  pub at : ℕ
  pub seen : Option LinkWord
  pub is : IsLinkSeen core old new at c k seen
  pub names : producer_named seen at tag ≡ Some from

-- The producer of source k of the tenant of this tag at station c, by the link words
abbrev pub IsProducerSeen : TheCore → List Entry → List Entry → ℕ → ℕ → Source → Option Producer → Type 0
IsProducerSeen core old new c tag k None =
    (p : ℕ) → p < core.sizes.ring → IsNotFrom core old new p c tag k
IsProducerSeen core old new c tag k (Some from) = IsFrom core old new c tag k from

-- The info word of the tenant that a turn has let
abbrev pub IsOfLet : TheCore → List Entry → List Entry → Turn → Option Info → Type 0
IsOfLet core old new (Let station tag pc) (Some info) = IsInfoSeen core old new station info
IsOfLet core old new (Let station tag pc) None = core.sizes.ring ≤ station
IsOfLet core old new turn info = info ≡ None

-- A turn, and behind it the info word of the tenant that was let
pub record HasTurned (core : TheCore) (given : Option ℕ) (old new : List Entry) (turn : Turn)
    (info : Option Info) : Type 0 where
  pub middle : List Entry
  pub says : IsTurn core given old middle turn
  pub info_is : IsOfLet core middle new turn info

-- The producer that a refused claim waits for
abbrev pub IsAwaited : TheCore → List Entry → List Entry → ℕ → Claimed → Option Producer → Type 0
IsAwaited core old new station (claimed.Waiting tag k) from = IsProducerSeen core old new station tag k from
IsAwaited core old new station answer from = from ≡ None

-- The producer of an operand in this state
abbrev pub IsOfOperand : TheCore → List Entry → List Entry → (station tag : ℕ) → Source → SourceState
    → Option Producer → Type 0
IsOfOperand core old new station tag k Wait from = IsProducerSeen core old new station tag k from
IsOfOperand core old new station tag k state from = from ≡ None

-- An operand word, the info word beside it, and the producer that it waits for
pub record IsOperandTold (core : TheCore) (old new : List Entry) (station : ℕ) (k : Source) (o : Operand) :
    Type 0 where
  pub info : IsInfoSeen core old new station o.info
  pub seen : IsOperandSeen core old new station k o.seen
  pub from : IsOfOperand core old new station o.seen.tag k o.seen.state o.from

-- An operand word, and behind it the producer of the source by the link words
pub record IsLinkTold (core : TheCore) (old new : List Entry) (station : ℕ) (k : Source)
    (from : Option Producer) : Type 0 where
  pub middle : List Entry
  pub seen : Seen SourceState
  pub operand : IsOperandSeen core old middle station k seen
  pub from_is : IsProducerSeen core middle new station seen.tag k from

-- A finish, whom it has woken, and behind it the word of its station
pub record FinishSays (core : TheCore) (by : ℕ) (before behind : List Entry) (job : Job) (f : Finished) :
    Type 0 where
  pub point : List Entry
  pub says : FinishAnswers core.program core.sizes by before point job f.answer
  pub woken : HasWoken core.program core.sizes by before point f.woken
  pub later : StartsWith behind point
  pub sees : SeesStation core.program core.sizes behind f.station f.seen
  pub station_is : f.station ≡ job.station
  pub tag_is : f.tag ≡ job.tag

-- The finish of a job by this unit
abbrev pub IsFinish : TheCore → ℕ → List Entry → List Entry → Job → Finished → Type 0
IsFinish core by old new job finished =
    IsBetween old new (λ before behind. FinishSays core by before behind job finished)
