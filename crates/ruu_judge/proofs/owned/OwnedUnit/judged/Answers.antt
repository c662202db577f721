use Rattle.std.proofs.Common.{refl}
use Rattle.ruu_judge.proofs.Judging.{legal, refused}
use Rattle.ruu_judge.proofs.owned.OwnedUnit.judged.Goals as goal

pub returns-in-Ok-found : goal.returns-in-Ok-found
returns-in-Ok-found c =
    let tells = rw c.in-Ok-found.is at c.in-Ok.ensures.ok in
    legal _ _ _ tells _ _ (record { program = refl; ring = refl; queue = refl; tag = refl; tenants = refl })
    (record { program = tells.follows.program; ring = refl; queue = refl; tag = refl; tenants = refl })

pub returns-in-Err : goal.returns-in-Err
returns-in-Err c =
    let refuses = rw c.in-Err.is at c.in-Ok.ensures.err in
    refused _ _ _ _ refuses _ _ (record { program = refl; ring = refl; queue = refl; tag = refl; tenants = refl })
    (record { program = refuses.follows.program; ring = refl; queue = refl; tag = refl; tenants = refl })
