-- The bytes of a directive, number after number.
use Rattle.std.proofs.Common.{◌≡◌, ℕ, List, [], ◌∷◌, ◌++◌, Result, Ok, Err, refl, sym, ap, ◌∙◌, append_assoc}
use Rattle.std.proofs.lemmas.List.{append-nil}
use Rattle.std.specs.Int.{w32, to_le_bytes}
use Rattle.isa.specs.declared.listing.fault.FaultKind.{FaultKind}
use Rattle.isa.specs.Reading.{◌>>=◌}
use Rattle.isa.specs.Operands.{number}
use Rattle.isa.specs.Statement.{words}
use Rattle.isa.specs.Held.{IsAppended}

-- bytes before those that are read
abbrev pub after_bytes : List ℕ → Result (List ℕ) FaultKind → Result (List ℕ) FaultKind
after_bytes front (Ok bytes) = Ok (front ++ bytes)
after_bytes front (Err e) = Err e

-- the bytes so far were added, and the operands that are left give the others
pub record BytesSoFar (old now : List ℕ) (rest all : List (List ℕ)) : Type 0 where
  pub bytes : List ℕ
  pub grown : now ≡ old ++ bytes
  pub whole : after_bytes bytes (words rest) ≡ words all

abbrev given : List ℕ → Result (List ℕ) FaultKind
given bytes = Ok bytes

push : (front more : List ℕ) (r : Result (List ℕ) FaultKind) → after_bytes (front ++ more) r ≡ after_bytes front (after_bytes more r)
push front more (Ok bytes) = ap given (append_assoc front more bytes)
push front more (Err e) = refl

words_step : (t : List ℕ) (ts : List (List ℕ)) (n : ℕ) → number 2147483648 4294967295 t ≡ Ok n → words (t ∷ ts) ≡ after_bytes (to_le_bytes w32 n) (words ts)
unfolding words
words_step t ts n e = rw e (step (words ts))
  where
    step : (r : Result (List ℕ) FaultKind) → (r >>= λ bytes. Ok (to_le_bytes w32 n ++ bytes)) ≡ after_bytes (to_le_bytes w32 n) r
    step (Ok bytes) = refl
    step (Err e) = refl

pub bytes_more : (old now now' : List ℕ) (rest all : List (List ℕ)) (t : List ℕ) (ts : List (List ℕ)) (n : ℕ) → rest ≡ t ∷ ts
    → number 2147483648 4294967295 t ≡ Ok n → now' ≡ now ++ to_le_bytes w32 n → BytesSoFar old now rest all → BytesSoFar old now' ts all
bytes_more old now now' rest all t ts n is e grown so_far = record {
  bytes = so_far.bytes ++ to_le_bytes w32 n;
  grown = grown ∙ ap (λ (l : List ℕ). l ++ to_le_bytes w32 n) so_far.grown ∙ append_assoc old so_far.bytes (to_le_bytes w32 n);
  whole = push so_far.bytes (to_le_bytes w32 n) (words ts)
      ∙ ap (after_bytes so_far.bytes) (sym (words_step t ts n e) ∙ ap words (sym is)) ∙ so_far.whole;
}

pub bytes_fault : (old now : List ℕ) (rest all : List (List ℕ)) (t : List ℕ) (ts : List (List ℕ)) (k : FaultKind) → rest ≡ t ∷ ts
    → number 2147483648 4294967295 t ≡ Err k → BytesSoFar old now rest all → words all ≡ Err k
unfolding words
bytes_fault old now rest all t ts k is e so_far =
    let left : words rest ≡ Err k = rw is (rw e refl) in
    sym so_far.whole ∙ ap (after_bytes so_far.bytes) left

pub bytes_done : (old now : List ℕ) (rest all : List (List ℕ)) → rest ≡ [] → BytesSoFar old now rest all → IsAppended (words all) old now
unfolding words
bytes_done old now rest all is so_far =
    let left : words rest ≡ Ok [] = rw is refl in
    record {
      bytes = so_far.bytes;
      grown = so_far.grown;
      is = sym so_far.whole ∙ ap (after_bytes so_far.bytes) left ∙ ap given (append-nil so_far.bytes);
    }
