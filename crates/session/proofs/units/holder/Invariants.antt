use Rattle.std.proofs.Common.{◌≡◌, ℕ, ◌<◌, Some}
use Rattle.station.specs.declared.job.Job.{Job}
use Rattle.session.specs.Rows.{IsJobAt}
use Rattle.session.specs.Workers.{job_at}
use Rattle.session.proofs.units.holder.Given as goal

-- none of n units holds the job
abbrev pub invariant-loop-at : goal.invariant-loop-at
invariant-loop-at l = (at : ℕ) (job : Job) → at < l.at → job_at l.units.items at ≡ Some job → ¬ IsJobAt l.station l.tag job
