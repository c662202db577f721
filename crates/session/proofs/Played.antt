-- Commands that are chosen one after another.
use Rattle.std.proofs.Common.{ℕ, suc, ◌+◌, List, ◌∷◌, sym, ap, ◌∙◌, subst, add-one}
use Rattle.session.specs.Plays.{IsPlayOf, IsWrittenBehind}
use Rattle.session.specs.Sessions.{MayHaveLooked, TheSession}

pub one_more_played : (a b looked c : TheSession) (n : ℕ) (line before after : List ℕ) →
    IsPlayOf a n before b → MayHaveLooked b looked → IsWrittenBehind looked c (n + 1) line before after → IsPlayOf a (n + 1) after c
one_more_played a b looked c n line before after (lines, len, play) looks written = (
  line ∷ lines,
  ap suc len ∙ sym (add-one n),
  (b, looked, before, play, looks, subst (λ k. IsWrittenBehind looked c k line before after) (add-one n ∙ ap suc (sym len)) written),
)
