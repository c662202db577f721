use Rattle.inorder.proofs.StationsShown.{stations_follow as follow}
use Rattle.inorder.proofs.laws.stations_follow.Goals as goal

pub returns : goal.returns
returns c = λ p sizes history by. follow p sizes history by
