use Rattle.std.proofs.Common.{◌≡◌, rules, subst}
use Rattle.commit_log.specs.Words.{word_of as word_at}
use Rattle.commit_log.proofs.WordFound.{word_found}
use Rattle.commit_log.proofs.word.word_of.Goals as goal

pub returns : goal.returns
returns c =
    subst (λ i. c.encode.result ≡ word_at c.args.pc i) c.from-decoded.ensures
    (word_found c.args.pc _ c.encode.result c.encode.ensures.some (search rules) c.encode.ensures.none)
