use Rattle.std.proofs.Common.{rules, arith}
use Rattle.counts.specs.Totals.{position_of}
use Rattle.counts.proofs.EachShare.{position_small}
use Rattle.counts.proofs.Moments.{adds_word}
use Rattle.counts.proofs.totals.Counts.raise.Goals as goal

pub fetch_add-requires : goal.fetch_add-requires
fetch_add-requires c =
    let total = c.args.total in (
      search rules,
      (let w = c.self.invariant in let i = c.word-word.ensures.inside in omega arith),
      adds_word _ _ _ _ (position_of total) _ c.word-word.ensures.value (position_small total) c.requires.part,
    )

pub returns-clause-slots : goal.returns-clause-slots
returns-clause-slots c = (let total = c.args.total in c.fetch_add.ensures.2 (position_of total) (position_small total) c.word-word.ensures.value).slots
