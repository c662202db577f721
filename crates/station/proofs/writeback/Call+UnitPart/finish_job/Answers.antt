use Rattle.std.proofs.Common.{◌≡◌, sym, subst, refl, arith}
use Rattle.inorder.specs.Callers.{HasJob}
use Rattle.inorder.specs.History.{IsLegal}
use Rattle.inorder.specs.StationWords.{live_word}
use Rattle.ruu_words.specs.Content.{IsStation}
use Rattle.ruu_words.specs.Fields.{tag_of}
use Rattle.ruu_words.specs.Kinds.{fate_of}
use Rattle.ruu_words.proofs.Stays.{named_of, tag_small}
use Rattle.station.specs.Seats.{TheCore}
use Rattle.station.specs.Writeback.{HasTenant}
use Rattle.station.proofs.Calls.{legal_at}
use Rattle.station.proofs.FinishSteps.{finish_fails, has_outcome, is_finished, job_tenant}
use Rattle.station.proofs.writeback.Call+UnitPart.finish_job.Goals as goal

pub busy_word-old-requires : goal.busy_word-old-requires
busy_word-old-requires c =
    let v = c.args.self.now in
    let job = c.job.inside in
    let held = job_tenant v.core.program v.core.sizes v.view.by v.view.seen c.args.outcome c.job.view_is c.requires.job c.requires.outcome in
    let small = tag_small v.core.program v.core.sizes v.view.seen (legal_at c.self.invariant c.self.view_is) held.p job.station job.tag (named_of held.named) in
    omega arith

pub outcome_word-new-requires : goal.outcome_word-new-requires
outcome_word-new-requires c =
    let v = c.args.self.now in
    let job = c.job.inside in
    let held = job_tenant v.core.program v.core.sizes v.view.by v.view.seen c.args.outcome c.job.view_is c.requires.job c.requires.outcome in
    let small = tag_small v.core.program v.core.sizes v.view.seen (legal_at c.self.invariant c.self.view_is) held.p job.station job.tag (named_of held.named) in
    omega arith

pub finish_tenant-found-requires-clause-words : goal.finish_tenant-found-requires-clause-words
finish_tenant-found-requires-clause-words c =
    let is = c.busy_word-old.ensures c.args.self.now.view.by in
    let tag : tag_of c.busy_word-old.result ≡ c.job.inside.tag = is.tag in
    record {
      old_is = record { tag = refl; state = is.state; value = is.value };
      new_is = subst (λ g. IsStation (live_word g (fate_of c.job.inside.predicted c.args.outcome)) c.outcome_word-new.result) (sym tag) c.outcome_word-new.ensures;
    }

pub finish_tenant-found-requires-clause-job : goal.finish_tenant-found-requires-clause-job
finish_tenant-found-requires-clause-job c =
    let v = c.args.self.now in
    let job = c.job.inside in
    let held = job_tenant v.core.program v.core.sizes v.view.by v.view.seen c.args.outcome c.job.view_is c.requires.job c.requires.outcome in
    let tag : tag_of c.busy_word-old.result ≡ job.tag = (c.busy_word-old.ensures v.view.by).tag in
    subst (λ g. HasTenant v.core.program v.core.sizes v.view.seen job.station g (HasJob v.core.program v.view.by job.predicted c.args.outcome)) (sym tag) held

pub returns-then-found-old : goal.returns-then-found-old
returns-then-found-old c = finish_fails c.job.view_is c.args.outcome c.busy_word-old.result c.finish_tenant-found.result (c.busy_word-old.ensures c.args.self.now.view.by).tag
    c.finish_tenant-found.ensures c.if-found-old.true

pub carry-woken-requires-clause-made : goal.carry-woken-requires-clause-made
carry-woken-requires-clause-made c = has_outcome c.job.view_is c.args.outcome c.busy_word-old.result c.finish_tenant-found.result (c.busy_word-old.ensures c.args.self.now.view.by).tag
    c.finish_tenant-found.ensures c.if-found-old.false

pub returns : goal.returns
returns c = is_finished c.job.view_is c.args.outcome c.busy_word-old.result c.finish_tenant-found.result (c.busy_word-old.ensures c.args.self.now.view.by).tag
    c.finish_tenant-found.ensures c.if-found-old.false c.carry-woken.result c.requires.outcome c.carry-woken.ensures

pub carry-woken-requires-clause-legal : goal.carry-woken-requires-clause-legal
carry-woken-requires-clause-legal c = subst (λ (k : TheCore). IsLegal k.program k.sizes c.finish_tenant-found.new.self.view.seen) (sym c.finish_tenant-found.ensures.same.core)
    c.finish_tenant-found.ensures.grows.legal
