-- The lines of data memory, word by word.
use Rattle.std.proofs.Common.{◌≡◌, ℕ, ◌+◌, ◌≤◌, ◌<◌, List, [], ◌∷◌, ◌++◌, length, take, drop, refl, sym, ap, ap₂, ◌∙◌, arith, append_assoc}
use Rattle.std.specs.Int.{w32, from_le_bytes}
use Rattle.words.specs.Lines.{data_lines, word_line}

data_step : (address : ℕ) (bs : List ℕ) → 4 ≤ length bs
    → data_lines address bs ≡ word_line address (from_le_bytes w32 (take 4 bs)) ++ data_lines (address + 4) (drop 4 bs)
data_step address [] h = absurd (omega arith)
data_step address (a ∷ []) h = absurd (omega arith)
data_step address (a ∷ b ∷ []) h = absurd (omega arith)
data_step address (a ∷ b ∷ c ∷ []) h = absurd (omega arith)
data_step address (a ∷ b ∷ c ∷ d ∷ bs) h = refl

pub data_end : (address : ℕ) (bs : List ℕ) → length bs < 4 → data_lines address bs ≡ []
data_end address [] h = refl
data_end address (a ∷ []) h = refl
data_end address (a ∷ b ∷ []) h = refl
data_end address (a ∷ b ∷ c ∷ []) h = refl
data_end address (a ∷ b ∷ c ∷ d ∷ bs) h = absurd (omega arith)

-- what is written so far and what is to come, after one more word
pub data_goes_on : (old new all : List ℕ) (address word : ℕ) (bs front back : List ℕ)
    → 4 ≤ length bs → front ≡ take 4 bs → back ≡ drop 4 bs → word ≡ from_le_bytes w32 front
    → new ≡ old ++ word_line address word → old ++ data_lines address bs ≡ all
    → new ++ data_lines (address + 4) back ≡ all
data_goes_on old new all address word bs front back le is_front is_back is_word is_new so_far =
    let line : word_line address word ≡ word_line address (from_le_bytes w32 (take 4 bs)) = ap (word_line address) (is_word ∙ ap (from_le_bytes w32) is_front) in
    ap₂ (λ n b. n ++ data_lines (address + 4) b) (is_new ∙ ap (λ l. old ++ l) line) is_back
    ∙ append_assoc old (word_line address (from_le_bytes w32 (take 4 bs))) (data_lines (address + 4) (drop 4 bs))
    ∙ ap (λ l. old ++ l) (sym (data_step address bs le)) ∙ so_far
