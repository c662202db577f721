use Rattle.std.proofs.Common.{◌≡◌, ◌<◌, ℕ, List, [], None, Option, Some, length, refl, sym, ap, ◌∙◌, subst, arith, rules}
use Rattle.inorder.specs.declared.history.Entry.{Entry}
use Rattle.inorder.specs.OneHistory.{Adds}
use Rattle.instructions.specs.Histories.{StartsWith}
use Rattle.instructions.specs.Programs.{Program}
use Rattle.station.specs.Waking.{HasWoken}
use Rattle.session.specs.declared.replies.Finished.{Finished}
use Rattle.session.specs.declared.units.UnitJob.{UnitJob}
use Rattle.session.specs.Accounts.{FinishSays}
use Rattle.session.specs.Sessions.{TheSession}
use Rattle.session.specs.Workers.{AreWorkers, HasUnit, job_at, station_held}
use Rattle.session.proofs.Calls.{has_grown, was_so}
use Rattle.session.proofs.Jobs.{job_later}
use Rattle.session.proofs.Workers.{free_now, has_unit, held_is, holds_one, idle_works, put_back}
use Rattle.session.proofs.session.Session.write_back.Goals as goal

pub unreachable-requires : goal.unreachable-requires
unreachable-requires g c =
    holds_one c.self.inside.units.items c.args.unit c.args.station (sym c.take_worker-seat.ensures.job ∙ c.in_default.is)
    (subst (λ (s : TheSession). station_held s.units c.args.unit ≡ Some c.args.station) (sym c.self.view_is) c.requires.holds)

pub outcome-found-requires : goal.outcome-found-requires
outcome-found-requires g c =
    let core = c.self.inside.core in
    let seat = c.meet.new.one in
    let job = c.in-Some.job in
    let taken = c.take_worker-seat in
    let holds = job_later core c.jobs_stay.ensures.seen taken.result.seat seat job (taken.ensures.worker.holds job c.in-Some.is) c.meet.ensures.one_kept.by c.meet.ensures.one_history in
    subst (λ (P : Program). job.index < length P.code) (sym c.self.invariant.program_is)
    (c.a_job_is_of_the_program.ensures core.program core.sizes seat.by seat.seen job c.meet.ensures.one_history.legal holds)

pub finish-answer-requires-clause-job : goal.finish-answer-requires-clause-job
finish-answer-requires-clause-job g c =
    let taken = c.take_worker-seat in
    job_later c.self.inside.core c.jobs_stay.ensures.seen taken.result.seat c.meet.new.one c.in-Some.job (taken.ensures.worker.holds c.in-Some.job c.in-Some.is)
    c.meet.ensures.one_kept.by c.meet.ensures.one_history

pub put_worker-requires-clause-free : goal.put_worker-requires-clause-free
put_worker-requires-clause-free g c =
    let within : c.args.unit < length c.self.inside.units.items = omega (arith, c.requires.unit, c.self.invariant.places, c.self.inside.units.ok) in
    free_now c.self.inside.units.items c.take_worker-seat.new.units.items c.args.unit within c.take_worker-seat.ensures.place

pub invariant_of-self : goal.invariant_of-self
invariant_of-self g c =
    let core = c.self.inside.core in
    let taken = c.take_worker-seat in
    let within : c.args.unit < length c.self.inside.units.items = omega (arith, c.requires.unit, c.self.invariant.places, c.self.inside.units.ok) in
    let same = c.meet-2.ensures.one_kept.core ∙ (c.look-seen.ensures.kept.core ∙ (c.finish-answer.ensures.kept.core
    ∙ (c.meet.ensures.one_kept.core ∙ taken.ensures.worker.core_is))) in
    record {
      named = search rules;
      program_is = search rules;
      all_core = search rules;
      front_is = search rules;
      rests = search rules;
      back_core = search rules;
      back_by = search rules;
      places = search rules;
      legal = search rules;
      workers = subst (λ (xs : List (Option UnitJob)). AreWorkers core xs) (sym c.put_worker.ensures)
          (put_back c.self.inside.units.items taken.new.units.items c.args.unit (record { seat = c.meet-2.new.one; job = None }) within taken.ensures.place core
          c.self.invariant.workers (idle_works core c.meet-2.new.one same));
    }

pub returns-clause-stays : goal.returns-clause-stays
returns-clause-stays g c =
    let core = c.self.inside.core in
    let first = subst (λ (h : List Entry). Adds core.program core.sizes c.take_worker-seat.new.all.by h c.meet.new.other.seen []) c.take_worker-seat.ensures.history c.meet.ensures.other_history in
    record { grows = has_grown _ _ c.self.view_is _ _ _ _ first c.meet-2.ensures.other_history; kept = search rules }

pub returns-clause-reply : goal.returns-clause-reply
returns-clause-reply g c =
    let core = c.self.inside.core in
    let taken = c.take_worker-seat in
    let by = taken.result.seat.by in
    let job = c.in-Some.job in
    let met = c.meet.new.one in
    let done = c.finish-answer.new.seat in
    let looked = c.look-seen.new.seat in
    let units = c.self.inside.units.items in
    let within : c.args.unit < length units = omega (arith, c.requires.unit, c.self.invariant.places, c.self.inside.units.ok) in
    let w : UnitJob = record { seat = c.meet-2.new.one; job = None } in
    let told : Finished = record { answer = c.finish-answer.result; station = c.station-station.result; tag = c.tag-tag.result; woken = c.woken-woken.result; seen = c.look-seen.result } in
    let says : FinishSays core met.by met.seen looked.seen job told = record {
      point = done.seen;
      says = c.finish-answer.ensures.reply;
      woken = subst (λ w. HasWoken core.program core.sizes met.by met.seen done.seen w) (sym c.woken-woken.ensures) c.finish-answer.ensures.woken;
      later = c.look-seen.ensures.history.begins;
      sees = c.look-seen.ensures.reply;
      station_is = c.station-station.ensures;
      tag_is = c.tag-tag.ensures;
    } in
    let number = c.meet-2.ensures.one_kept.by ∙ (c.look-seen.ensures.kept.by ∙ (c.finish-answer.ensures.kept.by ∙ c.meet.ensures.one_kept.by)) in
    let unit = has_unit units taken.new.units.items c.args.unit w within taken.ensures.place by None number refl (λ v e. ap (λ (x : UnitJob). x.seat.by) (sym (taken.ensures.same v e))) in
    let held : job_at units c.args.unit ≡ Some job = sym taken.ensures.job ∙ c.in-Some.is in
    let holds = subst (λ (s : TheSession). station_held s.units c.args.unit ≡ Some c.args.station) (sym c.self.view_is) c.requires.holds in
    record {
      job = job;
      held_it = subst (λ (s : TheSession). job_at s.units c.args.unit ≡ Some job) c.self.view_is held;
      station_is = held_is units c.args.unit c.args.station job held holds;
      by = by;
      unit_is = subst (λ (z : List (Option UnitJob) × List (Option UnitJob)). HasUnit z.0 z.1 c.args.unit by None) (λ i. ((c.self.view_is i).units, sym c.put_worker.ensures i)) unit;
      says = was_so _ _ c.self.view_is (λ s before behind. FinishSays s.core by before behind job told) _ _ _ _
          (subst (λ (h : List Entry). StartsWith met.seen h) taken.ensures.history c.meet.ensures.one_told)
          (subst (λ n. FinishSays core n met.seen looked.seen job told) c.meet.ensures.one_kept.by says) c.meet-2.ensures.one_history.begins c.meet-2.ensures.other_told;
    }
