use Rattle.std.proofs.Common.{rules, arith}
use Rattle.counts.specs.Totals.{position_of}
use Rattle.counts.proofs.EachShare.{position_small}
use Rattle.counts.proofs.Moments.{looks_word}
use Rattle.counts.proofs.totals.Counts.total.Goals as goal

pub load-requires : goal.load-requires
load-requires c =
    let total = c.args.total in
    (search rules, (let w = c.self.invariant in let i = c.word-word.ensures.inside in omega arith), looks_word _ _ _ _ (position_of total) c.word-word.ensures.value (position_small total))

pub returns-clause-slots : goal.returns-clause-slots
returns-clause-slots c = (let total = c.args.total in c.load.ensures.2 (position_of total) (position_small total) c.word-word.ensures.value).slots

pub returns-clause-shares : goal.returns-clause-shares
returns-clause-shares c = (let total = c.args.total in c.load.ensures.2 (position_of total) (position_small total) c.word-word.ensures.value).shares

pub returns-clause-seen : goal.returns-clause-seen
returns-clause-seen c = (let total = c.args.total in c.load.ensures.2 (position_of total) (position_small total) c.word-word.ensures.value).seen
