-- The hash of bytes, word by word.
use Rattle.std.proofs.Common.{◌≡◌, ℕ, ◌≤◌, ◌<◌, List, [], ◌∷◌, length, take, drop, refl, ap, ap₂, sym, ◌∙◌, arith}
use Rattle.std.specs.Int.{w32, from_le_bytes}
use Rattle.commit_log.specs.Hashes.{mixed, mixed_bytes}

pub one_word : (hash : ℕ) (bs : List ℕ) → 4 ≤ length bs → mixed_bytes hash bs ≡ mixed_bytes (mixed hash (from_le_bytes w32 (take 4 bs))) (drop 4 bs)
one_word hash [] h = absurd (omega arith)
one_word hash (a ∷ []) h = absurd (omega arith)
one_word hash (a ∷ b ∷ []) h = absurd (omega arith)
one_word hash (a ∷ b ∷ c ∷ []) h = absurd (omega arith)
one_word hash (a ∷ b ∷ c ∷ d ∷ bs) h = refl

pub no_word : (hash : ℕ) (bs : List ℕ) → length bs < 4 → mixed_bytes hash bs ≡ hash
no_word hash [] h = refl
no_word hash (a ∷ []) h = refl
no_word hash (a ∷ b ∷ []) h = refl
no_word hash (a ∷ b ∷ c ∷ []) h = refl
no_word hash (a ∷ b ∷ c ∷ d ∷ bs) h = absurd (omega arith)

-- what is hashed so far and what is to come, after one more word
pub goes_on : (hash new word all : ℕ) (bs front back : List ℕ) → 4 ≤ length bs → front ≡ take 4 bs → back ≡ drop 4 bs →
    word ≡ from_le_bytes w32 front → new ≡ mixed hash word → mixed_bytes hash bs ≡ all → mixed_bytes new back ≡ all
goes_on hash new word all bs front back le is_front is_back is_word is_new so_far =
    ap₂ mixed_bytes (is_new ∙ ap (mixed hash) (is_word ∙ ap (from_le_bytes w32) is_front)) is_back ∙ sym (one_word hash bs le) ∙ so_far
