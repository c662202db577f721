use Rattle.std.proofs.lemmas.Grind.{common_steps}
use Rattle.std.proofs.Common.{arith}
use Rattle.inorder.proofs.QueueBytes.{same_width}
use Rattle.one_thread.proofs.forwarding.answer_at.Goals as goal

pub returns : goal.returns
returns c = grind (arith, common_steps, same_width)
