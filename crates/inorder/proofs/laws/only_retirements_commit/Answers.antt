use Rattle.inorder.proofs.AheadKept.{all_commits}
use Rattle.inorder.proofs.laws.only_retirements_commit.Goals as goal

pub returns : goal.returns
returns c = λ p sizes history by. all_commits p sizes history by
