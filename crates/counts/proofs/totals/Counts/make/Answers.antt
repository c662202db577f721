use Rattle.counts.proofs.Moments.{begins_known}
use Rattle.counts.proofs.totals.Counts.make.Goals as goal

pub of_words-requires : goal.of_words-requires
of_words-requires c = begins_known
