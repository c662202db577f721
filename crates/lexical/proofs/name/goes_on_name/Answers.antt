use Rattle.std.proofs.Common.{refl, arith}
use Rattle.lexical.specs.declared.name.TheConstants.{NAME_BYTES}
use Rattle.lexical.specs.Name.{goes_on_name}
use Rattle.lexical.proofs.Tables.{agree_below, by_table}
use Rattle.lexical.proofs.name.goes_on_name.Goals as goal

pub returns : goal.returns
unfolding agree_below
returns c = by_table NAME_BYTES 44 goes_on_name c.args.b (omega arith) refl
