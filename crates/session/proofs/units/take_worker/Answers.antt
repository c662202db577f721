use Rattle.std.proofs.Common.{◌≡◌, ◌<◌, Some, length, sym, ◌∙◌, arith}
use Rattle.session.proofs.Workers.{at_place, job_of_taken}
use Rattle.session.proofs.units.take_worker.Goals as goal

pub returns-in-Some-clause-worker : goal.returns-in-Some-clause-worker
returns-in-Some-clause-worker c =
    let x = c.index_mut.result.now in
    let within : c.args.unit < length c.args.units.now.items = omega (arith, c.requires.unit, c.args.units.now.ok) in
    c.requires.workers c.args.unit c.in-Some.worker (at_place c.args.units.now.items c.args.unit x within c.index_mut.ensures.value ∙ sym c.in-Some.ensures.value)

pub returns-in-Some-clause-job : goal.returns-in-Some-clause-job
returns-in-Some-clause-job c =
    let x = c.index_mut.result.now in
    let within : c.args.unit < length c.args.units.now.items = omega (arith, c.requires.unit, c.args.units.now.ok) in
    sym (job_of_taken c.args.units.now.items c.args.unit (Some c.in-Some.worker) (at_place c.args.units.now.items c.args.unit x within c.index_mut.ensures.value ∙ sym c.in-Some.ensures.value))

pub returns-in-Some-clause-same : goal.returns-in-Some-clause-same
returns-in-Some-clause-same c w is =
    let x = c.index_mut.result.now in
    let within : c.args.unit < length c.args.units.now.items = omega (arith, c.requires.unit, c.args.units.now.ok) in
    let here = at_place c.args.units.now.items c.args.unit x within c.index_mut.ensures.value ∙ sym c.in-Some.ensures.value in
    let both : Some c.in-Some.worker ≡ Some w = sym here ∙ is in
    cc
