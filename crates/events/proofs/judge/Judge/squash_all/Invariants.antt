use Rattle.events.specs.Told.{SquashesOne}
use Rattle.events.proofs.judge.Judge.squash_all.Given as goal

abbrev pub invariant-loop-turn : goal.invariant-loop-turn
invariant-loop-turn l = SquashesOne l.fn.self.unit l.who l.self.unit
