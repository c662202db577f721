use Rattle.inorder.proofs.GoesOn.Climbs.{lets_run_out}
use Rattle.inorder.proofs.progress.lets_run_out.Goals as goal

pub returns : goal.returns
returns c = λ p sizes more history. lets_run_out p sizes more history
