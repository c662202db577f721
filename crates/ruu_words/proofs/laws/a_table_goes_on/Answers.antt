use Rattle.ruu_words.proofs.Opening.{tables_go_on}
use Rattle.ruu_words.proofs.laws.a_table_goes_on.Goals as goal

pub returns : goal.returns
returns c = tables_go_on
