use Rattle.std.proofs.Common.{sym, subst}
use Rattle.ruu_words.specs.Openings.{sizes_of}
use Rattle.ruu_words.specs.Rule.{IsStart}
use Rattle.ruu_words.proofs.Opening.{opens_first}
use Rattle.station.proofs.cores.first_table.Goals as goal

pub of_words-requires : goal.of_words-requires
of_words-requires c =
    let setup = c.args.setup.now in
    opens_first setup c.as_slice.result.now c.requires.opening (subst (λ ws. IsStart (sizes_of setup) ws) (sym c.as_slice.ensures.value) c.in_ok-words.ensures)
