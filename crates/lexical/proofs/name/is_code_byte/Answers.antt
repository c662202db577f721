use Rattle.std.proofs.Common.{refl, arith}
use Rattle.lexical.specs.declared.name.TheConstants.{CODE_BYTES}
use Rattle.lexical.specs.Name.{is_code_byte}
use Rattle.lexical.proofs.Tables.{agree_below, by_table}
use Rattle.lexical.proofs.name.is_code_byte.Goals as goal

pub returns : goal.returns
unfolding agree_below
returns c = by_table CODE_BYTES 35 is_code_byte c.args.b (omega arith) refl
