use Rattle.commit_log.proofs.WordFound.{the_words}
use Rattle.commit_log.proofs.laws.a_word_says_its_instruction.Goals as goal

pub returns : goal.returns
returns c = the_words
