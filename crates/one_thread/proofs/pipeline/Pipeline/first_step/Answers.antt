use Rattle.std.proofs.Common.{length, sym, subst}
use Rattle.one_thread.specs.Loads.{AreInside}
use Rattle.one_thread.proofs.Inside.{are_inside}
use Rattle.one_thread.proofs.pipeline.Pipeline.first_step.Goals as goal

pub oldest_answered-requires : goal.oldest_answered-requires
oldest_answered-requires c = subst (λ a. AreInside (length a.memory) c.args.self.now.window) (sym c.ahead-ahead.ensures) (are_inside c.args.self.now c.requires)
