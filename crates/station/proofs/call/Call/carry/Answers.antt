use Rattle.std.proofs.Common.{sym, subst}
use Rattle.station.specs.Carrying.{HasCarried}
use Rattle.station.proofs.FinishWrites.{carries_walk}
use Rattle.station.proofs.call.Call.carry.Goals as goal

pub returns-in-Value : goal.returns-in-Value
returns-in-Value g c =
    let v = c.args.self.now in
    let new = c.walk.new.self.view.seen in
    record {
      same = c.walk.ensures.same;
      reply = λ q i. subst (λ o. HasCarried v.core.program v.core.sizes v.view.by q o v.view.seen new) (sym c.in-Value.is)
          (carries_walk v.core.program v.core.sizes v.view.by q c.in-Value.value v.view.seen new (c.walk.ensures.reply q i));
      woken = c.walk.ensures.woken;
    }
