use Rattle.inorder.proofs.Theorem.WordsKept.{values_are_words as are_words}
use Rattle.inorder.proofs.laws.values_are_words.Goals as goal

pub returns : goal.returns
returns c = λ p sizes history. are_words p sizes history
