use Rattle.inorder.specs.History.{unit_of}
use Rattle.ruu_words.proofs.Opening.{content}
use Rattle.ruu_words.proofs.laws.a_new_table_has_first_words.Goals as goal

pub returns : goal.returns
returns c = λ P C seen words may start x place. content P C (unit_of P C seen).tenants may.none words start x place
