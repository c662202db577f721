use Rattle.encoding.proofs.Rebuilt.{one_word}
use Rattle.encoding.proofs.laws.one_word_for_each_instruction.Goals as goal

pub returns : goal.returns
returns c = one_word
