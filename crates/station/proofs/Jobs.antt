-- A job is of an instruction of the program.
use Rattle.std.proofs.Common.{◌≡◌, ◌<◌, length, ap, subst}
use Rattle.inorder.specs.Replies.{JobFields}
use Rattle.station.specs.Laws.{JobsAreOfTheProgram}
use Rattle.station.proofs.Retiring.{inside}

pub job_inside : JobsAreOfTheProgram
job_inside P C by seen j legal holds =
    let t = holds.tenant in
    let index_is : t.tenant.index ≡ j.index = ap (λ (z : JobFields). z.index) t.fact.fields_are in
    subst (λ n. n < length P.code) index_is (inside P C seen legal holds.p t.tenant t.is)
