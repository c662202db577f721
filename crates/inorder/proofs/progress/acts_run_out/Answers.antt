use Rattle.inorder.proofs.GoesOn.Work.{acts_run_out, moves_work}
use Rattle.inorder.specs.Legal.{reached}
use Rattle.inorder.proofs.progress.acts_run_out.Goals as goal

pub returns-clause-moves : goal.returns-clause-moves
returns-clause-moves c = λ p sizes history by. moves_work p sizes (reached p sizes history) by

pub returns-clause-ends : goal.returns-clause-ends
returns-clause-ends c = λ p sizes history. acts_run_out p sizes history
