-- Texts that grow.
use Rattle.std.proofs.Common.{◌≡◌, ◌++◌, ◌∷◌, [], ℕ, List, append_assoc}

-- a place with what is said there, a quote behind it, and the rule
pub placed : (old file a line b column c severity sentence quote rule first second third fourth fifth last : List ℕ) → first ≡ old ++ file
    → second ≡ first ++ (a ++ (line ++ (b ++ (column ++ (c ++ severity)))))
    → third ≡ second ++ sentence
    → fourth ≡ third ++ 10 ∷ []
    → fifth ≡ fourth ++ quote
    → last ≡ fifth ++ rule
    → last ≡ old ++ ((file ++ (a ++ (line ++ (b ++ (column ++ c))))) ++ (severity ++ (sentence ++ ((10 ∷ []) ++ (quote ++ rule)))))
placed old file a line b column c severity sentence quote rule first second third fourth fifth last one two three four five six =
    rw (six, five, four, three, two, one) (simp append_assoc)
