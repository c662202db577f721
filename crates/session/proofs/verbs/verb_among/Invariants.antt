use Rattle.std.proofs.Common.{◌≢◌, ℕ, ◌<◌, get_or}
use Rattle.session.specs.Commands.{verb_name}
use Rattle.session.specs.declared.verbs.Verb.TheVariants.{Turn}
use Rattle.session.proofs.verbs.verb_among.Given as goal

-- none of n has the word
abbrev pub invariant-loop-at : goal.invariant-loop-at
invariant-loop-at l = (k : ℕ) → k < l.at → l.text ≢ verb_name (get_or l.table k Turn)
