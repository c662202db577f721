use Rattle.inorder.specs.History.{IsLegal}
use Rattle.station.specs.Calls.{IsSameCall, caller}
use Rattle.station.specs.Answers.{Woke}
use Rattle.station.specs.Carrying.{HasValueOf, IsCarrying, OfTenant}
use Rattle.station.specs.Waking.{IsSet}
use Rattle.station.proofs.call.Call.walk.Given as goal

abbrev pub invariant-loop-to : goal.invariant-loop-to
invariant-loop-to g l = record {
  same : IsSameCall l.fn.self l.self;
  legal : IsLegal l.fn.self.core.program l.fn.self.core.sizes l.self.view.seen;
  made : HasValueOf l.fn.self.core.program l.fn.self.core.sizes l.self.view.seen l.from.0 l.from.1 l.value;
  carries : OfTenant l.fn.self.core.program l.fn.self.core.sizes l.fn.self.view.seen l.from.0 l.from.1
      (λ q. IsCarrying l.fn.self.core.program l.fn.self.core.sizes l.fn.self.view.by q l.to l.fn.self.view.seen l.self.view.seen);
  wakes : Woke (IsSet l.woken) l.fn.self.core (caller l.fn.self) (caller l.self);
}
