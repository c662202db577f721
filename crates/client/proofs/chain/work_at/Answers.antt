use Rattle.std.proofs.Common.{◌≡◌, sym, ap, ◌∙◌, subst}
use Rattle.instructions.specs.Programs.{Program}
use Rattle.station.specs.Quiet.{IsJobOf}
use Rattle.station.specs.Writeback.{job_outcome}
use Rattle.client.specs.Done.{HoldsNext}
use Rattle.client.proofs.WorkedOut.{is_job, works_out}
use Rattle.client.proofs.chain.work_at.Goals.{After-a_ready_tenant_is_claimed}
use Rattle.client.proofs.chain.work_at.Goals as goal

-- The claim was answered with the job of the tenant that was ready

ready_job : (c : After-a_ready_tenant_is_claimed) → IsJobOf c.args.core.now.program c.claim_next-answer.result c.requires.ready.fact.tenant.tenant
ready_job c =
    let ready = c.requires.ready in
    is_job c.args.core.now c.claim_next-answer.new.seats c.args.seats.now.one.by c.requires.all.one_by c.args.station c.claim_next-answer.result ready.all
    (c.claim_next-answer.ensures.done ready.all ready.done) ready.fact.p ready.fact.tag ready.fact.tenant c.a_ready_tenant_is_claimed.ensures

pub outcome-outcome-requires : goal.outcome-outcome-requires
outcome-outcome-requires c =
    let core = c.args.core.now in
    let ready = c.requires.ready in
    let claimed = c.in-Job.ensures.done ready.all ready.done in
    rw c.requires.program (c.a_job_is_of_the_program.ensures core.program core.sizes c.args.seats.now.one.by claimed.all c.in-Job.job claimed.reply.adds.legal claimed.reply.holds)

pub unreachable-requires : goal.unreachable-requires
unreachable-requires c = let is = (ready_job (goal.at.unreachable-requires c).After-a_ready_tenant_is_claimed).is in cc

pub unreachable-requires-in-Waiting : goal.unreachable-requires-in-Waiting
unreachable-requires-in-Waiting c = let is = (ready_job (goal.at.unreachable-requires-in-Waiting c).After-a_ready_tenant_is_claimed).is in cc

pub unreachable-requires-in-Moved : goal.unreachable-requires-in-Moved
unreachable-requires-in-Moved c = let is = (ready_job (goal.at.unreachable-requires-in-Moved c).After-a_ready_tenant_is_claimed).is in cc

pub returns-clause-done : goal.returns-clause-done
returns-clause-done c =
    let core = c.args.core.now in
    let job = c.in-Job.job in
    let outcome : c.outcome-outcome.result ≡ job_outcome core.program job =
    c.outcome-outcome.ensures ∙ ap (λ (p : Program). job_outcome p job) c.requires.program in
    λ all done.
    let claimed = c.in-Job.ensures.done all done in
    works_out core c.claim_next-answer.new.seats c.finish_next.new.seats c.args.seats.now.one.by c.requires.all.one_by c.args.station job
    c.outcome-outcome.result outcome all claimed c.in-Job.ensures.by
    c.finish_next.result (c.finish_next.ensures.done claimed.all claimed.done) c.a_ready_tenant_is_claimed.ensures

pub finish_next-requires-clause-job : goal.finish_next-requires-clause-job
finish_next-requires-clause-job c =
    let core = c.args.core.now in
    let ready = c.requires.ready in
    let claimed = c.in-Job.ensures.done ready.all ready.done in
    record {
      all = claimed.all;
      done = claimed.done;
      fact = subst (λ n. HoldsNext core n c.in-Job.job claimed.all) (sym c.in-Job.ensures.by) claimed.reply.holds;
    }
