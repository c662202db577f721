-- A unit claims the tenant that is ready at a station, and finishes its job.
use Rattle.std.proofs.Common.{◌≡◌, ℕ, List, sym, ◌∙◌, subst}
use Rattle.instructions.specs.declared.stop.Outcome.{Outcome}
use Rattle.inorder.specs.declared.history.Entry.{Entry}
use Rattle.inorder.specs.History.{IsUnit}
use Rattle.ruu_words.specs.Kinds.{IsTenant}
use Rattle.station.specs.declared.answers.Claim.{Claim}
use Rattle.station.specs.declared.answers.Claim.TheVariants.{Job as Claimed}
use Rattle.station.specs.declared.answers.Finish.{Finish}
use Rattle.station.specs.declared.job.Job.{Job}
use Rattle.station.specs.Quiet.{ClaimsGiveJobs, IsClaimable, IsJobOf}
use Rattle.station.specs.Seats.{TheCore}
use Rattle.station.specs.Writeback.{job_outcome}
use Rattle.inorder.specs.Replies.{job_of}
use Rattle.client.specs.declared.seats.Seats.{Seats}
use Rattle.client.specs.Chains.{WorksOut}
use Rattle.client.specs.Done.{GoesOnAlone, IsClaimedNext, IsFinishedNext, unit_after}

module _ (core : TheCore) (t : Seats) (by : ℕ) (unit : IsUnit by) (station : ℕ) where
  -- the claim is a job
  pub is_job : (answer : Claim) (old : List Entry) (claimed : GoesOnAlone core t by old (IsClaimedNext core by station answer)) (p tag : ℕ)
      → (x : IsTenant (unit_after core old) p station tag (IsClaimable core.program))
      → ClaimsGiveJobs → IsJobOf core.program answer x.tenant
  is_job answer old claimed p tag x law = law core.program core.sizes by old claimed.all station tag p answer unit x (λ n ne other. claimed.alone n ne) claimed.reply

same_job : (a b : Job) → Claimed a ≡ Claimed b → a ≡ b
same_job a b e = cc e

pub works_out : (core : TheCore) (t u : Seats) (by : ℕ) (unit : IsUnit by) (station : ℕ) (job : Job) (outcome : Outcome) → outcome ≡ job_outcome core.program job → (old : List Entry)
    → (claimed : GoesOnAlone core t by old (IsClaimedNext core by station (Claimed job))) → t.one.by ≡ by → (answer : Finish) →
    GoesOnAlone core u t.one.by claimed.all (IsFinishedNext core t.one.by job answer)
    → ClaimsGiveJobs → GoesOnAlone core u by old (WorksOut core by station outcome)
works_out core t u by unit station job outcome is old claimed same answer there law =
    let finished : GoesOnAlone core u by claimed.all (IsFinishedNext core by job answer) = subst (λ n. GoesOnAlone core u n claimed.all (IsFinishedNext core n job answer)) same there in
    record {
      all = finished.all;
      done = finished.done;
      alone = λ n ne. finished.alone n ne ∙ claimed.alone n ne;
      reply = λ p tag x.
          let j = is_job core t by unit station (Claimed job) old claimed p tag x law in
          record {
            job = job;
            fields_are = subst (λ i. i ≡ job_of core.program x.tenant) (same_job j.job job (sym j.is)) j.fields_are;
            outcome_is = is;
            mid = claimed.all;
            claimed = claimed.reply;
            alone = claimed.alone;
            answer = answer;
            finished = finished.reply;
          };
    }
