-- One word more, and one segment more.
use Rattle.std.proofs.Common.{◌≡◌, ℕ, zero, suc, ◌+◌, ◌*◌, ◌<◌, ◌≤◌, inl, inr, List, [], ◌∷◌, ◌++◌, Ok, Err, refl, arith, ap, ◌∙◌, sym, add-one, length, length-append}
use Rattle.elf.specs.declared.refusal.Refusal.{Refusal}
use Rattle.elf.specs.Bytes.{word_at, words}
use Rattle.elf.specs.Images.{Loaded, nothing_loaded}
use Rattle.elf.specs.Headers.{segment_of}
use Rattle.elf.specs.Placing.{placed, placed_behind, placed_up_to}
use Rattle.std.proofs.lemmas.Bool.{cases_lt}

pub words_none : (file : List ℕ) (at : ℕ) → words file at 0 ≡ []
unfolding words
words_none file at = refl

pub words_next : (file : List ℕ) (at n : ℕ) → words file at (n + 1) ≡ words file at n ++ word_at file (at + 4 * n) ∷ []
unfolding words
words_next file at n = rw add-one refl

pub words_length : (file : List ℕ) (at n : ℕ) → length (words file at n) ≡ n
unfolding words
words_length file at zero = refl
words_length file at (suc n) =
    length-append (words file at n) (word_at file (at + 4 * n) ∷ []) ∙ (ap (λ k. k + 1) (words_length file at n) ∙ add-one n)

pub placed_none : (file : List ℕ) (at : ℕ) → placed_up_to file at 0 ≡ Ok nothing_loaded
unfolding placed_up_to
placed_none file at = refl

pub placed_next : (file : List ℕ) (at n : ℕ) (loaded : Loaded) → placed_up_to file at n ≡ Ok loaded
    → placed_up_to file at (n + 1) ≡ placed file (segment_of file (at + 32 * n)) loaded
unfolding placed_up_to
placed_next file at n loaded h = rw add-one (ap (placed_behind file (segment_of file (at + 32 * n))) h)

-- a refusal is kept
stays : (file : List ℕ) (at m n : ℕ) (refusal : Refusal) → n ≤ m → placed_up_to file at n ≡ Err refusal
    → placed_up_to file at m ≡ Err refusal
unfolding placed_up_to
stays file at zero n refusal le h =
    let same : n ≡ zero = omega arith in ap (placed_up_to file at) (sym same) ∙ h
stays file at (suc m) n refusal le h =
    elim (cases_lt n (suc m)) [
      | inl below ↦ ap (placed_behind file (segment_of file (at + 32 * m))) (stays file at m n refusal (omega arith) h)
      | inr above ↦ (let same : suc m ≡ n = omega arith in ap (placed_up_to file at) same ∙ h)
    ]

-- where one segment is refused, so is the file
pub refused_by_one : (file : List ℕ) (at count n : ℕ) (loaded : Loaded) (refusal : Refusal) → n < count
    → placed_up_to file at n ≡ Ok loaded → placed file (segment_of file (at + 32 * n)) loaded ≡ Err refusal
    → placed_up_to file at count ≡ Err refusal
refused_by_one file at count n loaded refusal less before fault =
    stays file at count (n + 1) refusal (omega arith) (placed_next file at n loaded before ∙ fault)
