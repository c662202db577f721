use Rattle.ruu_words.proofs.Placing.{places_are_apart}
use Rattle.ruu_words.proofs.laws.places_are_apart.Goals as goal

pub returns : goal.returns
returns c = λ n. places_are_apart n
