-- The bytes of data, row after row.
use Rattle.std.proofs.Common.{◌≡◌, ℕ, zero, suc, ◌+◌, ◌*◌, ◌%◌, ◌≤◌, ◌<◌, true, false, ◌==◌, List, [], ◌∷◌, ◌++◌, length, take, drop, replicate, refl, ap, ◌∙◌, sym, subst, arith, append_assoc}
use Rattle.std.proofs.Common.{eqb-true, take_all, length-take, length-drop, take-add}
use Rattle.std.specs.Prelude.{codes}
use Rattle.std.specs.Fmt.{decimal}
use Rattle.isa.specs.Report.{hexadecimal}
use Rattle.std.specs.List.{list_all}
use Rattle.std.proofs.lemmas.Bool.{and_parts, ne_eqb}
use Rattle.std.proofs.lemmas.List.{append-nil, length-append, length-replicate}
use Rattle.instructions.specs.declared.instr.Instr.{Instr}
use Rattle.disassembly.specs.Writing.{as_line, unlines, IsText, row_word, row_line, space_line, space_lines, AddsData}
use Rattle.disassembly.proofs.Pushed.{text_bytes}
use Rattle.disassembly.proofs.Blocks.{more_room}
use Rattle.disassembly.proofs.DataLines.{AllBytes, row_read, row_bare, row_printable, row_size, space_read, space_bare, space_printable, space_size}

-- the rows before row k are written, but for zeros at their end
pub record RowsSoFar (bytes old now : List ℕ) (k zeros : ℕ) : Type 0 where
  pub said : List ℕ
  pub whole : said ++ replicate zeros 0 ≡ take (16 * k) bytes
  pub words : zeros % 16 ≡ 0
  pub text : (code : List Instr) (names : List (List ℕ × ℕ)) (most : ℕ) → length code ≤ 16384 → IsText old code names [] most
      → IsText now code names said (most + 110 * k)

pub rows_none : (bytes old : List ℕ) → RowsSoFar bytes old old 0 0
rows_none bytes old = record {
  said = [];
  whole = refl;
  words = refl;
  text = λ code names most few is. more_room old code names [] most (most + 110 * 0) (omega arith) is;
}

abbrev zeros_of : ℕ → List ℕ
zeros_of n = replicate n 0

replicate_add : (m n : ℕ) → zeros_of m ++ zeros_of n ≡ zeros_of (m + n)
replicate_add zero n = let same : 0 + n ≡ n = omega arith in rw same refl
replicate_add (suc m) n = let same : suc m + n ≡ suc (m + n) = omega arith in rw same (ap (λ (l : List ℕ). 0 ∷ l) (replicate_add m n))

all_zero : (xs : List ℕ) → list_all (λ b. b == 0) xs ≡ true → xs ≡ replicate (length xs) 0
all_zero [] h = refl
all_zero (x ∷ xs) h =
    let both = and_parts (x == 0) (list_all (λ b. b == 0) xs) h in
    let first : x ≡ 0 = eqb-true x 0 both.0 in
    rw first (ap (λ (l : List ℕ). 0 ∷ l) (all_zero xs both.1))

-- the zeros after what was said
flushed : (now new : List ℕ) (zeros : ℕ) (said : List ℕ) (n : ℕ) (bytes : List ℕ) → said ++ replicate zeros 0 ≡ take n bytes → zeros % 16 ≡ 0 → length bytes ≤ 65536
    → new ≡ now ++ unlines (space_lines zeros) → (code : List Instr) (names : List (List ℕ × ℕ)) (most : ℕ) → length code ≤ 16384 → IsText now code names said most
    → IsText new code names (said ++ replicate zeros 0) (most + 30)
flushed now new zero said n bytes whole words room spaced code names most few is =
    let same : new ≡ now = spaced ∙ append-nil now in
    rw (same, append-nil said) (more_room now code names said most (most + 30) (omega arith) is)
flushed now new (suc zeros) said n bytes whole words room spaced code names most few is =
    let some : (suc zeros == 0) ≡ false = ne_eqb (suc zeros) 0 (λ e. omega arith) in
    let line : new ≡ now ++ as_line (space_line (suc zeros)) = (rw some at spaced) ∙ ap (λ (t : List ℕ). now ++ t) (append-nil (as_line (space_line (suc zeros)))) in
    let size : length said + length (replicate (suc zeros) 0) ≤ 65536 =
    omega (arith, sym (length-append said (replicate (suc zeros) 0)), ap length whole, length-take n bytes) in
    let small : suc zeros ≤ 65536 = omega (arith, size, length-replicate {A = ℕ} (suc zeros) 0) in
    text_bytes now new code names said most is (space_line (suc zeros)) (space_printable (suc zeros) small) line 30 (space_size (suc zeros) small) (replicate (suc zeros) 0) (space_bare
    (suc zeros) small) (space_read (suc zeros) small (omega arith)) few size

module _ (bytes : List ℕ) (all : length bytes ≡ 65536) (old now : List ℕ) (k zeros : ℕ) (lt : k < 4096) (so_far : RowsSoFar bytes old now k zeros)
    (row : List ℕ) (is : row ≡ take 16 (drop (16 * k) bytes)) where
  row_length : length row ≡ 16
  row_length = ap length is ∙ omega (arith, length-take 16 (drop (16 * k) bytes), length-drop (16 * k) bytes, all)

  next_taken : take (16 * (k + 1)) bytes ≡ take (16 * k) bytes ++ row
  next_taken =
      let place : 16 * (k + 1) ≡ 16 * k + 16 = omega arith in
      ap (λ (n : ℕ). take n bytes) place ∙ take-add (16 * k) 16 bytes ∙ ap (λ (l : List ℕ). take (16 * k) bytes ++ l) (sym is)

  pub rows_zero : list_all (λ b. b == 0) row ≡ true → RowsSoFar bytes old now (k + 1) (zeros + 16)
  rows_zero none =
      let zero_row : row ≡ replicate 16 0 = all_zero row none ∙ ap (λ (n : ℕ). replicate n 0) row_length in
      let more : so_far.said ++ replicate (zeros + 16) 0 ≡ (so_far.said ++ replicate zeros 0) ++ replicate 16 0 =
      ap (λ (l : List ℕ). so_far.said ++ l) (sym (replicate_add zeros 16)) ∙ sym (append_assoc so_far.said (replicate zeros 0) (replicate 16 0)) in
      let words = so_far.words in
      record {
        said = so_far.said;
        whole = more ∙ ap (λ (l : List ℕ). l ++ replicate 16 0) so_far.whole ∙ ap (λ (l : List ℕ). take (16 * k) bytes ++ l) (sym zero_row) ∙ sym next_taken;
        words = omega arith;
        text = λ code names most few before. more_room now code names so_far.said (most + 110 * k) (most + 110 * (k + 1)) (omega arith) (so_far.text code names most few before);
      }

  pub rows_some : AllBytes row → (mid new : List ℕ) (at : ℕ) → mid ≡ now ++ unlines (space_lines zeros) → new ≡ mid ++ as_line (row_line at row)
      → RowsSoFar bytes old new (k + 1) 0
  rows_some fits mid new at spaced grown = record {
    said = (so_far.said ++ replicate zeros 0) ++ row;
    whole = append-nil ((so_far.said ++ replicate zeros 0) ++ row) ∙ ap (λ (l : List ℕ). l ++ row) so_far.whole ∙ sym next_taken;
    words = refl;
    text = λ code names most few before.
        let first = flushed now mid zeros so_far.said (16 * k) bytes so_far.whole so_far.words (omega (arith, all)) spaced code names (most + 110 * k) few (so_far.text code names most few before) in
        let size : length (so_far.said ++ replicate zeros 0) + length row ≤ 65536 =
        omega (arith, ap length so_far.whole, length-take (16 * k) bytes, row_length, all) in
        more_room new code names ((so_far.said ++ replicate zeros 0) ++ row) (most + 110 * k + 30 + 80) (most + 110 * (k + 1)) (omega arith)
        (text_bytes mid new code names (so_far.said ++ replicate zeros 0) (most + 110 * k + 30) first (row_line at row) (row_printable at row) grown 80 (row_size at row) row
        (row_bare at row) (row_read at row row_length fits) few size);
  }

-- all rows, and the zeros after them
pub rows_all : (bytes old now new : List ℕ) (k zeros : ℕ) → length bytes ≡ 65536 → k ≡ 4096 → RowsSoFar bytes old now k zeros → new ≡ now ++ unlines (space_lines zeros) → AddsData bytes old new
rows_all bytes old now new k zeros all last so_far spaced code names most few before =
    let whole : take (16 * k) bytes ≡ bytes = take_all (16 * k) bytes (omega (arith, all, last)) in
    let end = flushed now new zeros so_far.said (16 * k) bytes so_far.whole so_far.words (omega (arith, all)) spaced code names (most + 110 * k) few (so_far.text code names most few before) in
    subst (λ (bs : List ℕ). IsText new code names bs (most + 500000)) (so_far.whole ∙ whole)
    (more_room new code names (so_far.said ++ replicate zeros 0) (most + 110 * k + 30) (most + 500000) (omega (arith, last)) end)

-- ---- what is written

pub space_added : (old new : List ℕ) (count : ℕ) → (count ≡ 0 → ⊥) → new ≡ old ++ (codes "        .space " ++ (decimal count ++ codes "\n"))
    → new ≡ old ++ unlines (space_lines count)
space_added old new count some is =
    rw (ne_eqb count 0 some) (is ∙ ap (λ (l : List ℕ). old ++ (codes "        .space " ++ l)) (sym (append-nil (decimal count ++ codes "\n"))))

row_shape : (a b c d t : List ℕ)
    → codes "        .word " ++ (a ++ (codes "," ++ (b ++ (codes "," ++ (c ++ (codes "," ++ (d ++ (codes " # " ++ (t ++ codes "\n")))))))))
    ≡ ((replicate 8 32 ++ (codes ".word" ++ 32 ∷ (a ++ 44 ∷ (b ++ 44 ∷ (c ++ 44 ∷ d))))) ++ (codes " # " ++ t)) ++ 10 ∷ []
row_shape a b c d t =
    let rest : List ℕ = 32 ∷ 35 ∷ 32 ∷ (t ++ 10 ∷ []) in
    let first : ((a ++ 44 ∷ (b ++ 44 ∷ (c ++ 44 ∷ d))) ++ (32 ∷ 35 ∷ 32 ∷ t)) ++ 10 ∷ [] ≡ (a ++ 44 ∷ (b ++ 44 ∷ (c ++ 44 ∷ d))) ++ (32 ∷ 35 ∷ 32 ∷ (t ++ 10 ∷ [])) =
    append_assoc (a ++ 44 ∷ (b ++ 44 ∷ (c ++ 44 ∷ d))) (32 ∷ 35 ∷ 32 ∷ t) (10 ∷ []) in
    let all = first ∙ append_assoc a (44 ∷ (b ++ 44 ∷ (c ++ 44 ∷ d))) rest
    ∙ ap (λ (l : List ℕ). a ++ 44 ∷ l) (append_assoc b (44 ∷ (c ++ 44 ∷ d)) rest)
    ∙ ap (λ (l : List ℕ). a ++ 44 ∷ (b ++ 44 ∷ l)) (append_assoc c (44 ∷ d) rest) in
    ap (λ (l : List ℕ). codes "        .word " ++ l) (sym all)

pub row_added : (old new row : List ℕ) (at a b c d : ℕ) → a ≡ row_word row 0 → b ≡ row_word row 4 → c ≡ row_word row 8 → d ≡ row_word row 12
    → new ≡ old ++ (codes "        .word " ++ (hexadecimal a ++ (codes "," ++ (hexadecimal b ++ (codes "," ++ (hexadecimal c ++ (codes "," ++ (hexadecimal d ++ (codes " # " ++
    (hexadecimal at ++ codes "\n"))))))))))
    → new ≡ old ++ as_line (row_line at row)
row_added old new row at a b c d ea eb ec ed is = rw (← ea, ← eb, ← ec, ← ed)
    (is ∙ ap (λ (l : List ℕ). old ++ l) (row_shape (hexadecimal a) (hexadecimal b) (hexadecimal c) (hexadecimal d) (hexadecimal at)))

-- ---- bytes of a part

pub fits_take : (n : ℕ) (xs : List ℕ) → AllBytes xs → AllBytes (take n xs)
fits_take zero xs h i = omega arith
fits_take (suc n) [] h i = omega arith
fits_take (suc n) (x ∷ xs) h zero = h 0
fits_take (suc n) (x ∷ xs) h (suc i) = fits_take n xs (λ j. h (suc j)) i

pub fits_drop : (n : ℕ) (xs : List ℕ) → AllBytes xs → AllBytes (drop n xs)
fits_drop zero xs h i = h i
fits_drop (suc n) [] h i = omega arith
fits_drop (suc n) (x ∷ xs) h i = fits_drop n xs (λ j. h (suc j)) i
