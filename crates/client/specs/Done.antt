-- A caller with all seats of a core in one hand knows what was done, to the letter.
use Rattle.std.specs.Prelude.{◌≡◌, ◌≢◌, ℕ, List, [], ◌∷◌}
use Rattle.inorder.specs.declared.history.Entry.{Entry}
use Rattle.inorder.specs.declared.history.Source.{Source}
use Rattle.inorder.specs.History.{front, own, unit_of}
use Rattle.instructions.specs.Histories.{StartsWith}
use Rattle.inorder.specs.OneHistory.{Adds}
use Rattle.inorder.specs.Unit.{UpdateUnit, next_tag, recent}
use Rattle.ruu_words.specs.Kinds.{IsTenant}
use Rattle.station.specs.declared.answers.Ask.{Ask}
use Rattle.station.specs.declared.answers.Claim.{Claim}
use Rattle.station.specs.declared.answers.Finish.{Finish}
use Rattle.station.specs.declared.job.Job.{Job}
use Rattle.station.specs.declared.answers.Tenant.{Tenant}
use Rattle.station.specs.Asking.{AskAnswers, MayAsk}
use Rattle.station.specs.Claiming.{ClaimAnswers, Holds}
use Rattle.station.specs.Letting.{MayLetOut, let_of}
use Rattle.station.specs.Quiet.{IsClaimable}
use Rattle.station.specs.Seats.{TheCore}
use Rattle.station.specs.Writeback.{FinishAnswers}
use Rattle.client.specs.declared.seats.Seats.{Seats}

-- This is all that was done, after that with which the core opened: each caller has seen it, and has
-- done nothing since
pub record HaveDone (core : TheCore) (s : Seats) (all : List Entry) : Type 0 where
  pub opened : StartsWith all core.opening
  pub front : Adds core.program core.sizes s.front.by all s.front.seen []
  pub back : Adds core.program core.sizes s.back.by all s.back.seen []
  pub one : Adds core.program core.sizes s.one.by all s.one.seen []
  pub other : Adds core.program core.sizes s.other.by all s.other.seen []

-- This is true of all that was done
pub record InAll (core : TheCore) (s : Seats) (Fact : List Entry → Type 0) : Type 0 where
  pub all : List Entry
  pub done : HaveDone core s all
  pub fact : Fact all

-- One caller has gone on from there, with this reply, and nobody else has done anything
pub record GoesOnAlone (core : TheCore) (s : Seats) (by : ℕ) (old : List Entry)
    (Reply : List Entry → List Entry → Type 0) : Type 0 where
  pub all : List Entry
  pub done : HaveDone core s all
  pub alone : (n : ℕ) → n ≢ by → own n all ≡ own n old
  pub reply : Reply old all

-- What a call leads to, whatever was done before
abbrev pub CallLeads : TheCore → Seats → Seats → ℕ → (List Entry → List Entry → Type 0) → Type 0
CallLeads core s t by Reply = (all : List Entry) → HaveDone core s all → GoesOnAlone core t by all Reply

-- The unit after all of it
abbrev pub unit_after : TheCore → List Entry → UpdateUnit
unit_after core all = unit_of core.program core.sizes all

-- What each call asks for there, and what it answers

-- The front may let this tenant
abbrev pub MayLetNext : TheCore → Tenant → List Entry → Type 0
MayLetNext core t all = MayLetOut core.program core.sizes (unit_after core all) t

-- The tenant t was let, with the next tag
pub record IsLetNext (core : TheCore) (t : Tenant) (tag : ℕ) (old new : List Entry) : Type 0 where
  pub adds : Adds core.program core.sizes front old new (let_of t ∷ [])
  pub tag_is : tag ≡ next_tag core.sizes (recent (unit_after core old))

-- The front may ask for this source
abbrev pub MayAskNext : TheCore → (station tag : ℕ) → Source → (ℕ × ℕ) → List Entry → Type 0
MayAskNext core station tag k from all =
    MayAsk core.program core.sizes all station tag k from.0 from.1

-- The question has this answer
abbrev pub IsAskedNext : TheCore → (station tag : ℕ) → Source → (ℕ × ℕ) → Ask →
    List Entry → List Entry → Type 0
IsAskedNext core station tag k from answer old new =
    AskAnswers core.program core.sizes front old new station tag k from.0 from.1 answer

-- The claim has this answer
abbrev pub IsClaimedNext : TheCore → ℕ → ℕ → Claim → List Entry → List Entry → Type 0
IsClaimedNext core by station answer old new =
    ClaimAnswers core.program core.sizes by old new station answer

-- The unit holds this job
abbrev pub HoldsNext : TheCore → ℕ → Job → List Entry → Type 0
HoldsNext core by j all = Holds core.program core.sizes by all j

-- The finish has this answer
abbrev pub IsFinishedNext : TheCore → ℕ → Job → Finish → List Entry → List Entry → Type 0
IsFinishedNext core by j answer old new =
    FinishAnswers core.program core.sizes by old new j answer

-- The tenant of this station is open, and has all that it needs
pub record HasReady (core : TheCore) (station : ℕ) (all : List Entry) : Type 0 where
  pub p : ℕ
  pub tag : ℕ
  pub tenant : IsTenant (unit_after core all) p station tag (IsClaimable core.program)
