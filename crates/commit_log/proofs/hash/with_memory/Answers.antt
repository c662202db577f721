use Rattle.std.proofs.Common.{arith}
use Rattle.commit_log.proofs.Hashing.{goes_on}
use Rattle.commit_log.proofs.hash.with_memory.Goals as goal

pub words-preserved : goal.words-preserved
words-preserved c =
    goes_on c.words.hash c.mixed-hash.result c.word_of.result _ c.words.rest.now _ _ (omega arith) c.split_at.ensures.front c.split_at.ensures.back
    c.word_of.ensures c.mixed-hash.ensures c.words.invariant
