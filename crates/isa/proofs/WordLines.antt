-- The lines of data memory, word by word.
use Rattle.std.proofs.Common.{◌≡◌, ℕ, ◌+◌, ◌≤◌, ◌<◌, List, [], ◌∷◌, ◌++◌, length, take, drop, refl, arith, append_assoc}
use Rattle.isa.specs.Report.{memory_lines, word_line}

pub memory_step : (address : ℕ) (bs : List ℕ) → 4 ≤ length bs
    → memory_lines address bs ≡ word_line address (take 4 bs) ++ memory_lines (address + 4) (drop 4 bs)
memory_step address [] h = absurd (omega arith)
memory_step address (a ∷ []) h = absurd (omega arith)
memory_step address (a ∷ b ∷ []) h = absurd (omega arith)
memory_step address (a ∷ b ∷ c ∷ []) h = absurd (omega arith)
memory_step address (a ∷ b ∷ c ∷ d ∷ bs) h = refl

pub memory_end : (address : ℕ) (bs : List ℕ) → length bs < 4 → memory_lines address bs ≡ []
memory_end address [] h = refl
memory_end address (a ∷ []) h = refl
memory_end address (a ∷ b ∷ []) h = refl
memory_end address (a ∷ b ∷ c ∷ []) h = refl
memory_end address (a ∷ b ∷ c ∷ d ∷ bs) h = absurd (omega arith)

-- what is written so far and what is to come, after one more word
pub memory_goes_on : (old new all : List ℕ) (address : ℕ) (bs front back : List ℕ)
    → 4 ≤ length bs → front ≡ take 4 bs → back ≡ drop 4 bs
    → new ≡ old ++ word_line address front → old ++ memory_lines address bs ≡ all
    → new ++ memory_lines (address + 4) back ≡ all
memory_goes_on old new all address bs front back le is_front is_back is_new so_far =
    rw (
      is_new,
      append_assoc old (word_line address front) (memory_lines (address + 4) back),
      is_front,
      is_back,
      ← memory_step address bs le,
    ) so_far
