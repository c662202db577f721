use Rattle.isa.proofs.TextRead.{read_back}
use Rattle.isa.proofs.listing.instr_text.text_is_read_back.Goals as goal

pub returns : goal.returns
returns c = read_back
