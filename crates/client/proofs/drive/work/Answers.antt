use Rattle.std.proofs.Common.{◌≡◌, sym, ap, ◌∙◌}
use Rattle.instructions.specs.Programs.{Program}
use Rattle.station.specs.Finishing.{HasFinished}
use Rattle.station.specs.Writeback.{job_outcome}
use Rattle.client.proofs.ItsJob.{has_its_fields, is_right}
use Rattle.client.proofs.OwnSteps.{back_idles, front_lets, other_idles, unit_works}
use Rattle.client.proofs.Same.{claimed_on, finished_on, front_on}
use Rattle.client.proofs.Way.{HasItsJob, WasClaimed, WasFinished, WasLet, as_job, comes_to, finishes, its_job}
use Rattle.client.proofs.drive.work.Goals.{After-a_ready_tenant_is_claimed, After-gather, After-gather-2, After-gather-in-Job}
use Rattle.client.proofs.drive.work.Goals as goal

-- The tenant was let, and its claim was answered with its job

was_let : (c : After-gather) → WasLet c.args.core.now c.args.seats.now c.args.tenant c.let_out-tag.new.seat c.gather.new.seats
was_let c =
    let r = c.requires in
    let lets = c.let_out-tag.ensures in
    record { all = r.all; knows = r.knows; values = r.values; may = r.may; kept = lets.kept; lets = lets.history; all_met = c.gather.ensures.all; met = c.gather.ensures.met }

was_claimed : (c : After-gather-2) → WasClaimed c.args.core.now c.args.seats.now c.gather.new.seats c.claim-answer.new.seat c.args.station c.claim-answer.result c.gather-2.new.seats
was_claimed c =
    let claim = c.claim-answer.ensures in
    record { same = claim.kept; spare = claim.spare; at_station = c.requires.station; reply = claim.reply; end = c.gather-2.ensures.met }

has_its_job : (c : After-a_ready_tenant_is_claimed) → HasItsJob (was_let (goal.at.After-a_ready_tenant_is_claimed c).After-gather) c.claim-answer.result
has_its_job c =
    let at = goal.at.After-a_ready_tenant_is_claimed c in
    its_job (was_let at.After-gather) (was_claimed at.After-gather-2) c.a_let_is_out.ensures c.a_ready_tenant_is_claimed.ensures

pub outcome-outcome-requires : goal.outcome-outcome-requires
outcome-outcome-requires c =
    let core = c.args.core.now in
    let claimed = c.in-Job.ensures.reply in
    rw c.requires.program (c.a_job_is_of_the_program.ensures core.program core.sizes c.gather.new.seats.one.by c.claim-answer.new.seat.seen c.in-Job.job claimed.adds.legal claimed.holds)

pub unreachable-requires : goal.unreachable-requires
unreachable-requires c = let is = (has_its_job (goal.at.unreachable-requires c).After-a_ready_tenant_is_claimed).is in cc

pub unreachable-requires-in-Waiting : goal.unreachable-requires-in-Waiting
unreachable-requires-in-Waiting c = let is = (has_its_job (goal.at.unreachable-requires-in-Waiting c).After-a_ready_tenant_is_claimed).is in cc

pub unreachable-requires-in-Moved : goal.unreachable-requires-in-Moved
unreachable-requires-in-Moved c = let is = (has_its_job (goal.at.unreachable-requires-in-Moved c).After-a_ready_tenant_is_claimed).is in cc

-- The job was finished in time, with its outcome

was_finished : (c : After-gather-in-Job) → WasFinished c.args.core.now c.gather-2.new.seats c.finish.new.seat c.in-Job.job c.finish.result c.gather-in-Job.new.seats
was_finished c = let finish = c.finish.ensures in record { same = finish.kept; spare = finish.spare; reply = finish.reply; last = c.gather-in-Job.ensures.met }

in_time : (c : After-gather-in-Job) → HasFinished c.args.core.now.program c.args.core.now.sizes c.finish.new.seat.seen c.in-Job.job c.finish.result
in_time c =
    let at = goal.at.After-gather-in-Job c in
    let law = c.a_job_is_finished.ensures in
    finishes (was_let at.After-gather) (as_job (was_claimed at.After-gather-2) c.in-Job.is) (was_finished c) law.claimed law.stays law.finished c.jobs_stay.ensures.seen

outcome_is : (c : After-gather-in-Job) → c.outcome-outcome.result ≡ job_outcome c.args.core.now.program c.in-Job.job
outcome_is c = c.outcome-outcome.ensures ∙ ap (λ (p : Program). job_outcome p c.in-Job.job) c.requires.program

pub returns-clause-history : goal.returns-clause-history
returns-clause-history c =
    let at = goal.at.returns-clause-history c in
    let done = at.After-gather-in-Job in
    let its = has_its_fields (has_its_job at.After-a_ready_tenant_is_claimed) c.in-Job.is in
    let lets = was_let at.After-gather in
    let claimed = as_job (was_claimed at.After-gather-2) c.in-Job.is in
    let finished = was_finished done in
    record {
      front = front_lets lets claimed finished;
      one = unit_works lets claimed finished (its.tag_is ∙ sym c.let_out-tag.ensures.reply) (outcome_is done) (in_time done).is;
      back = back_idles lets claimed finished;
      other = other_idles lets claimed finished;
    }

pub returns-clause-worked : goal.returns-clause-worked
returns-clause-worked c =
    let at = goal.at.returns-clause-worked c in
    let done = at.After-gather-in-Job in
    let its = has_its_fields (has_its_job at.After-a_ready_tenant_is_claimed) c.in-Job.is in
    let tag_is = c.let_out-tag.ensures.reply in
    record {
      tag = tag_is;
      right = is_right _ c.requires.may its (record { pc = c.pc-pc.ensures; a = c.a-a.ensures; b = c.b-b.ensures; outcome = outcome_is done });
      written = comes_to (was_let at.After-gather) (as_job (was_claimed at.After-gather-2) c.in-Job.is) (was_finished done) _ _ (its.tag_is ∙ sym tag_is) (outcome_is done) (in_time done);
    }

pub gather-requires : goal.gather-requires
gather-requires c = let lets = c.let_out-tag.ensures in front_on c.requires.all lets.kept lets.history.begins

pub gather-requires-2 : goal.gather-requires-2
gather-requires-2 c = let claim = c.claim-answer.ensures in claimed_on c.gather.ensures.all c.args.station c.claim-answer.result claim.kept claim.spare claim.reply

pub gather-requires-in-Job : goal.gather-requires-in-Job
gather-requires-in-Job c = let finish = c.finish.ensures in finished_on c.gather-2.ensures.all c.in-Job.job c.finish.result finish.kept finish.spare finish.reply
