use Rattle.encoding.proofs.Each.{each_has_a_word}
use Rattle.encoding.proofs.laws.each_operation_has_a_word.Goals as goal

pub returns : goal.returns
returns c = each_has_a_word
