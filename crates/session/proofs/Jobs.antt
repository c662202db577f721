-- The job that a unit holds stays its own.
use Rattle.std.proofs.Common.{◌≡◌, ℕ, List, [], sym, subst}
use Rattle.inorder.specs.declared.history.Entry.{Entry}
use Rattle.inorder.specs.OneHistory.{Adds}
use Rattle.station.specs.declared.answers.Claim.{Claim}
use Rattle.station.specs.declared.answers.Claim.TheVariants.{Job as Claimed, Moved, NotOpen, Waiting}
use Rattle.station.specs.declared.job.Job.{Job}
use Rattle.station.specs.Claiming.{ClaimAnswers, Holds}
use Rattle.station.specs.Laws.{JobsStaySeen}
use Rattle.station.specs.Seats.{Caller, TheCore}
use Rattle.session.specs.Replies.{HoldsWhatIs}

module _ (core : TheCore) (stay : JobsStaySeen) (v w : Caller) where
  pub job_later : (j : Job) → Holds core.program core.sizes v.by v.seen j → w.by ≡ v.by → Adds core.program core.sizes v.by v.seen w.seen [] → Holds core.program core.sizes w.by w.seen j
  job_later j h e a = subst (λ n. Holds core.program core.sizes n w.seen j) (sym e) (stay core.program core.sizes v.by v.seen w.seen j h a)

  pub holds_later : (before : List Entry) (s : ℕ) (answer : Claim) → ClaimAnswers core.program core.sizes v.by before v.seen s answer →
      w.by ≡ v.by → Adds core.program core.sizes v.by v.seen w.seen [] → HoldsWhatIs core w answer
  holds_later before s (Claimed j) h e a = job_later j h.holds e a
  holds_later before s NotOpen h e a = tt
  holds_later before s (Waiting tag k) h e a = tt
  holds_later before s (Moved tag) h e a = tt
