use Rattle.std.proofs.Common.{arith}
use Rattle.one_thread.proofs.Accesses.{accesses_most}
use Rattle.one_thread.proofs.window.Window.accesses.Goals as goal

pub overflow_add-accesses : goal.overflow_add-accesses
overflow_add-accesses c = let few = accesses_most c.args.self.now c.loop-i.i in omega (arith, c.loop-i.invariant, few, c.access-accesses.ensures.small, c.loop-i-test.true, c.len-i-end.ensures.most)
