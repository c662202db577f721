use Rattle.encoding.proofs.Written.{each_is_written}
use Rattle.encoding.proofs.laws.each_word_is_written.Goals as goal

pub returns : goal.returns
returns c = each_is_written
