use Rattle.std.proofs.Common.{◌≡◌, ◌<◌, ℕ, List, [], None, Option, length, sym, ap, ◌∙◌, subst, arith, rules}
use Rattle.inorder.specs.declared.history.Entry.{Entry}
use Rattle.inorder.specs.OneHistory.{Adds}
use Rattle.instructions.specs.Histories.{StartsWith}
use Rattle.station.specs.declared.answers.Claim.{Claim}
use Rattle.station.specs.Claiming.{ClaimAnswers}
use Rattle.station.specs.Seats.{Caller}
use Rattle.session.specs.declared.units.UnitJob.{UnitJob}
use Rattle.session.specs.Sessions.{TheSession}
use Rattle.session.specs.Workers.{AreWorkers, HasUnit, IsWorker, claim_of, job_at, job_from}
use Rattle.session.proofs.Calls.{has_grown, was_so}
use Rattle.session.proofs.Jobs.{holds_later}
use Rattle.session.proofs.Workers.{claimed_holds, free_now, has_unit, put_back}
use Rattle.session.proofs.session.Session.issue.Goals as goal

pub free_seat-seat-requires : goal.free_seat-seat-requires
free_seat-seat-requires g c = c.take_worker.ensures.job ∙ subst (λ (s : TheSession). job_at s.units c.args.unit ≡ None) (sym c.self.view_is) c.requires.free

pub put_worker-requires-clause-free : goal.put_worker-requires-clause-free
put_worker-requires-clause-free g c =
    let within : c.args.unit < length c.self.inside.units.items = omega (arith, c.requires.unit, c.self.invariant.places, c.self.inside.units.ok) in
    free_now c.self.inside.units.items c.take_worker.new.units.items c.args.unit within c.take_worker.ensures.place

pub invariant_of-self : goal.invariant_of-self
invariant_of-self g c =
    let core = c.self.inside.core in
    let taken = c.take_worker in
    let seat = c.claim-claim.new.seat in
    let answer = c.answer_of-answer in
    let within : c.args.unit < length c.self.inside.units.items = omega (arith, c.requires.unit, c.self.invariant.places, c.self.inside.units.ok) in
    let w : UnitJob = record { seat = c.meet-2.new.one; job = answer.result.1 } in
    let says = subst (λ n. ClaimAnswers core.program core.sizes n c.meet.new.one.seen seat.seen c.args.station c.claim-claim.result)
    (sym c.claim-claim.ensures.kept.by) c.claim-claim.ensures.reply in
    let holds = holds_later core c.jobs_stay.ensures.seen seat c.meet-2.new.one c.meet.new.one.seen c.args.station c.claim-claim.result says
    c.meet-2.ensures.one_kept.by c.meet-2.ensures.one_history in
    let own : IsWorker core w = record {
      core_is = c.meet-2.ensures.one_kept.core ∙ (c.claim-claim.ensures.kept.core
          ∙ (c.meet.ensures.one_kept.core ∙ (ap (λ (s : Caller). s.core) c.free_seat-seat.ensures ∙ taken.ensures.worker.core_is)));
      holds = claimed_holds core c.meet-2.new.one answer.result.0 c.claim-claim.result answer.result.1 answer.ensures.answer holds answer.ensures.job;
    } in
    record {
      named = search rules;
      program_is = search rules;
      all_core = search rules;
      front_is = search rules;
      rests = search rules;
      back_core = search rules;
      back_by = search rules;
      places = search rules;
      legal = search rules;
      workers = subst (λ (xs : List (Option UnitJob)). AreWorkers core xs) (sym c.put_worker.ensures)
          (put_back c.self.inside.units.items taken.new.units.items c.args.unit w within taken.ensures.place core c.self.invariant.workers own);
    }

pub returns-clause-stays : goal.returns-clause-stays
returns-clause-stays g c =
    let core = c.self.inside.core in
    let first = subst (λ (h : List Entry). Adds core.program core.sizes c.take_worker.new.all.by h c.meet.new.other.seen []) c.take_worker.ensures.history c.meet.ensures.other_history in
    record { grows = has_grown _ _ c.self.view_is _ _ _ _ first c.meet-2.ensures.other_history; kept = search rules }

pub returns-clause-reply : goal.returns-clause-reply
returns-clause-reply g c =
    let core = c.self.inside.core in
    let taken = c.take_worker in
    let answer = c.answer_of-answer in
    let by = taken.result.seat.by in
    let units = c.self.inside.units.items in
    let within : c.args.unit < length units = omega (arith, c.requires.unit, c.self.invariant.places, c.self.inside.units.ok) in
    let w : UnitJob = record { seat = c.meet-2.new.one; job = answer.result.1 } in
    let free : c.free_seat-seat.result.by ≡ by = ap (λ (s : Caller). s.by) c.free_seat-seat.ensures in
    let met = c.meet.ensures.one_kept.by ∙ free in
    let unit = has_unit units taken.new.units.items c.args.unit w within taken.ensures.place by _ (c.meet-2.ensures.one_kept.by ∙ (c.claim-claim.ensures.kept.by ∙ met)) answer.ensures.job
    (λ v e. ap (λ (x : UnitJob). x.seat.by) (sym (taken.ensures.same v e))) in
    let says = subst (λ (z : ℕ × Claim). ClaimAnswers core.program core.sizes z.0 c.meet.new.one.seen c.claim-claim.new.seat.seen c.args.station z.1)
    (λ i. (met i, sym answer.ensures.answer i)) c.claim-claim.ensures.reply in
    record {
      free = c.requires.free;
      by = by;
      unit_is = subst (λ (z : List (Option UnitJob) × List (Option UnitJob)). HasUnit z.0 z.1 c.args.unit by (job_from answer.result.0))
          (λ i. ((c.self.view_is i).units, sym c.put_worker.ensures i)) unit;
      says = was_so _ _ c.self.view_is (λ s before behind. ClaimAnswers s.core.program s.core.sizes by before behind c.args.station (claim_of answer.result.0)) _ _ _ _
          (subst (λ (h : List Entry). StartsWith c.meet.new.one.seen h) taken.ensures.history c.meet.ensures.one_told) says
          c.meet-2.ensures.one_history.begins c.meet-2.ensures.other_told;
    }
