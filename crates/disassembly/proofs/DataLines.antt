-- The lines of data are read as their bytes.
use Rattle.std.proofs.Common.{◌≡◌, ℕ, zero, suc, ◌+◌, ◌-◌, ◌%◌, ◌^◌, ◌≤◌, ◌<◌, true, false, ◌==◌, List, [], ◌∷◌, ◌++◌, length, get_or, take, replicate, Ok, refl, ap, ◌∙◌, sym, arith, append_assoc}
use Rattle.std.specs.Prelude.{codes, slice_index}
use Rattle.std.specs.Fmt.{decimal as decimal_text}
use Rattle.std.specs.Int.{w32, to_le_bytes}
use Rattle.std.specs.List.{list_all, suffix_len}
use Rattle.std.proofs.lemmas.Bool.{eq-eqb}
use Rattle.std.proofs.lemmas.List.{length-append}
use Rattle.std.proofs.lemmas.List.Sums.{suffix_len_is}
use Rattle.std.proofs.lemmas.Nat.{le_bytes_4}
use Rattle.std.proofs.lemmas.Fmt.{length-decimal-le}
use Rattle.lexical.specs.Blank.{is_blank, trim, trim_end}
use Rattle.lexical.specs.Line.{before_comment}
use Rattle.lexical.specs.Label.{labels_of, statement_of}
use Rattle.isa.specs.Report.{hex8, hexadecimal}
use Rattle.isa.specs.Statement.{space, words, data_words, with_operands, statement, gives_bytes}
use Rattle.isa.specs.Listing.{read, labels}
use Rattle.isa.specs.InstrText.{with_operands_text}
use Rattle.isa.proofs.TextBytes.{Of, of_append, of_all, all_of, of_other, inner, IsPart, part_of, AreParts, Starts, Ends, before_at, split_whole}
use Rattle.isa.proofs.TextNumbers.{number_of, decimal_part}
use Rattle.isa.proofs.TextRead.{in_code, IsCode, no_comment, no_colon, blank_after, with_operands_code, indent_in_code, start_trimmed, code_read, code_unlabelled}
use Rattle.disassembly.specs.Writing.{printable, row_word, row_words, row_line, space_line}
use Rattle.disassembly.proofs.Printed.{code_printable, inner_printable}
use Rattle.disassembly.proofs.HexNumbers.{hex_part, hex_number}

-- ---- a line of code with blanks and a comment after it

last_blank : (xs : List ℕ) → get_or (xs ++ 32 ∷ []) (length xs) 0 ≡ 32
last_blank [] = refl
last_blank (x ∷ xs) = last_blank xs

before_blank : (xs : List ℕ) → Ends xs → is_blank (get_or (xs ++ 32 ∷ []) (length xs - 1) 0) ≡ false
before_blank [] h = absurd h
before_blank (x ∷ []) h = h
before_blank (x ∷ y ∷ ys) h =
    let long : length (x ∷ y ∷ ys) - 1 ≡ suc (length ys) = omega arith in
    let short : length (y ∷ ys) - 1 ≡ length ys = omega arith in
    let rest : is_blank (get_or ((y ∷ ys) ++ 32 ∷ []) (length ys) 0) ≡ false = rw short at (before_blank (y ∷ ys) h) in
    rw long rest

front_taken : (xs : List ℕ) → take (length xs) (xs ++ 32 ∷ []) ≡ xs
front_taken [] = refl
front_taken (x ∷ xs) = ap (λ (l : List ℕ). x ∷ l) (front_taken xs)

blank_end : (xs : List ℕ) → Ends xs → trim_end (xs ++ 32 ∷ []) ≡ xs
blank_end xs h =
    let all : List ℕ = xs ++ 32 ∷ [] in
    let size : length (xs ++ 32 ∷ []) ≡ suc (length xs) = omega (arith, length-append xs (32 ∷ [])) in
    let one : suffix_len is_blank (xs ++ 32 ∷ []) ≡ length (xs ++ 32 ∷ []) - length xs =
    suffix_len_is is_blank (xs ++ 32 ∷ []) (length xs) 0 (omega (arith, size))
    (λ k le lt. let at : k ≡ length xs = omega (arith, le, lt, size) in rw (at, last_blank xs) refl)
    (λ lt. before_blank xs h) in
    let cut : length (xs ++ 32 ∷ []) - (length (xs ++ 32 ∷ []) - length xs) ≡ length xs = omega (arith, size) in
    rw (one, cut) (front_taken xs)

starts_longer : (xs ys : List ℕ) → Starts xs → Starts (xs ++ ys)
starts_longer [] ys h = absurd h
starts_longer (x ∷ xs) ys h = h

-- the code of a line that has a comment after a blank
module _ (text comment : List ℕ) (code : IsCode text) where
  front_bytes : Of in_code (replicate 8 32 ++ (text ++ 32 ∷ []))
  front_bytes = of_append in_code (replicate 8 32) (text ++ 32 ∷ []) (indent_in_code 8) (of_append in_code text (32 ∷ []) code.bytes (refl, tt))

  commented : before_comment ((replicate 8 32 ++ text) ++ (codes " #" ++ comment)) ≡ replicate 8 32 ++ (text ++ 32 ∷ [])
  commented =
      ap before_comment (append_assoc (replicate 8 32) text (codes " #" ++ comment) ∙ ap (λ (l : List ℕ). replicate 8 32 ++ l) (sym (append_assoc text (32 ∷ []) (35 ∷ comment)))
      ∙ sym (append_assoc (replicate 8 32) (text ++ 32 ∷ []) (35 ∷ comment)))
      ∙ before_at in_code (λ b. b == 35) no_comment (replicate 8 32 ++ (text ++ 32 ∷ [])) 35 comment front_bytes refl

  trimmed : trim (replicate 8 32 ++ (text ++ 32 ∷ [])) ≡ text
  trimmed = rw (start_trimmed 8 (text ++ 32 ∷ []) (starts_longer text (32 ∷ []) code.starts)) (blank_end text code.ends)

  pub commented_read : read ((replicate 8 32 ++ text) ++ (codes " #" ++ comment)) ≡ statement text
  unfolding statement_of
  commented_read = rw (commented, split_whole in_code (λ b. b == 58) no_colon _ front_bytes, trimmed) refl

  pub commented_bare : labels ((replicate 8 32 ++ text) ++ (codes " #" ++ comment)) ≡ []
  unfolding labels_of
  commented_bare = rw (commented, split_whole in_code (λ b. b == 58) no_colon _ front_bytes) refl

-- ---- words

-- each byte of a list fits
abbrev pub AllBytes : List ℕ → Type 0
AllBytes xs = (k : ℕ) → get_or xs k 0 < 256

word_back : (row : List ℕ) (at : ℕ) → AllBytes row
    → to_le_bytes w32 (row_word row at) ≡ slice_index row at ∷ slice_index row (at + 1) ∷ slice_index row (at + 2) ∷ slice_index row (at + 3) ∷ []
word_back row at fits = le_bytes_4 _ (row_word row at) refl each refl
  where
    each : (i : ℕ) → get_or (slice_index row at ∷ slice_index row (at + 1) ∷ slice_index row (at + 2) ∷ slice_index row (at + 3) ∷ []) i 0 < 256
    each zero = fits at
    each (suc zero) = fits (at + 1)
    each (suc (suc zero)) = fits (at + 2)
    each (suc (suc (suc zero))) = fits (at + 3)
    each (suc (suc (suc (suc i)))) = omega arith

word_small : (row : List ℕ) (at : ℕ) → AllBytes row → row_word row at < 2 ^ 32
word_small row at fits =
    let a = fits at in
    let b = fits (at + 1) in
    let c = fits (at + 2) in
    let d = fits (at + 3) in
    omega arith

-- the words of a row are read as its bytes
abbrev sixteen : List ℕ → List ℕ
sixteen row =
    to_le_bytes w32 (row_word row 0) ++ (to_le_bytes w32 (row_word row 4) ++ (to_le_bytes w32 (row_word row 8) ++ (to_le_bytes w32 (row_word row 12) ++ [])))

row_data : (row : List ℕ) → AllBytes row → data_words (row_words row)
    ≡ Ok (to_le_bytes w32 (row_word row 0) ++ (to_le_bytes w32 (row_word row 4) ++ (to_le_bytes w32 (row_word row 8) ++ (to_le_bytes w32 (row_word row 12) ++ []))))
unfolding words
row_data row fits =
    rw (
      hex_number (row_word row 0) (word_small row 0 fits),
      hex_number (row_word row 4) (word_small row 4 fits),
      hex_number (row_word row 8) (word_small row 8 fits),
      hex_number
          (row_word row 12) (word_small row 12 fits),
    )
    refl

row_parts : (row : List ℕ) → AreParts (row_words row)
row_parts row = (hex_part (row_word row 0), (hex_part (row_word row 4), (hex_part (row_word row 8), (hex_part (row_word row 12), tt))))

word_word : IsPart (codes ".word")
word_word = of_all inner (codes ".word") refl

space_word : IsPart (codes ".space")
space_word = of_all inner (codes ".space") refl

row_code : (row : List ℕ) → IsCode (with_operands_text (codes ".word") (row_words row))
row_code row = with_operands_code (codes ".word") (row_words row) word_word (row_parts row)

same_four : (x y z u x' y' z' u' : List ℕ) → x ≡ x' → y ≡ y' → z ≡ z' → u ≡ u' → x ++ (y ++ (z ++ (u ++ []))) ≡ x' ++ (y' ++ (z' ++ (u' ++ [])))
same_four x y z u x' y' z' u' ex ey ez eu = rw (ex, ey, ez, eu) refl

-- sixteen bytes, one by one
by_bytes : (row : List ℕ) → length row ≡ 16 → AllBytes row → sixteen row ≡ row
by_bytes (a ∷ b ∷ c ∷ d ∷ e ∷ f ∷ g ∷ h ∷ i ∷ j ∷ k ∷ l ∷ m ∷ n ∷ o ∷ p ∷ []) size fits =
    let row : List ℕ = a ∷ b ∷ c ∷ d ∷ e ∷ f ∷ g ∷ h ∷ i ∷ j ∷ k ∷ l ∷ m ∷ n ∷ o ∷ p ∷ [] in
    same_four (to_le_bytes w32 (row_word row 0)) (to_le_bytes w32 (row_word row 4)) (to_le_bytes w32 (row_word row 8)) (to_le_bytes w32 (row_word row 12))
    (a ∷ b ∷ c ∷ d ∷ []) (e ∷ f ∷ g ∷ h ∷ []) (i ∷ j ∷ k ∷ l ∷ []) (m ∷ n ∷ o ∷ p ∷ []) (word_back row 0 fits) (word_back row 4 fits) (word_back row 8 fits) (word_back row 12 fits)
by_bytes row size fits = absurd (omega arith)

pub row_read : (at : ℕ) (row : List ℕ) → length row ≡ 16 → AllBytes row → read (row_line at row) ≡ Ok (record { code = []; bytes = row })
unfolding with_operands
row_read at row size fits =
    commented_read (with_operands_text (codes ".word") (row_words row)) (32 ∷ hexadecimal at) (row_code row)
    ∙ blank_after (codes ".word") (row_words row) word_word (row_parts row)
    ∙ rw (row_data row fits) (ap gives_bytes (by_bytes row size fits))

pub row_bare : (at : ℕ) (row : List ℕ) → labels (row_line at row) ≡ []
row_bare at row = commented_bare (with_operands_text (codes ".word") (row_words row)) (32 ∷ hexadecimal at) (row_code row)

pub row_printable : (at : ℕ) (row : List ℕ) → list_all printable (row_line at row) ≡ true
row_printable at row =
    all_of printable (row_line at row)
    (of_append printable (replicate 8 32 ++ with_operands_text (codes ".word") (row_words row)) (codes " # " ++ hexadecimal at)
    (of_other in_code printable code_printable (replicate 8 32 ++ with_operands_text (codes ".word") (row_words row))
    (of_append in_code (replicate 8 32) (with_operands_text (codes ".word") (row_words row)) (indent_in_code 8) (row_code row).bytes))
    (refl, (refl, (refl, of_other inner printable inner_printable (hexadecimal at) (part_of (hexadecimal at) (hex_part at))))))

pub row_size : (at : ℕ) (row : List ℕ) → length (row_line at row) + 1 ≤ 80
unfolding hex8
row_size at row = omega arith

-- ---- zeros

space_parts : (n : ℕ) → n ≤ 65536 → AreParts (decimal_text n ∷ [])
space_parts n room = (decimal_part n (omega arith), tt)

space_code : (n : ℕ) → n ≤ 65536 → IsCode (with_operands_text (codes ".space") (decimal_text n ∷ []))
space_code n room = with_operands_code (codes ".space") (decimal_text n ∷ []) space_word (space_parts n room)

space_data : (n : ℕ) → n ≤ 65536 → n % 4 ≡ 0 → space (decimal_text n ∷ []) ≡ Ok (replicate n 0)
unfolding space
space_data n room whole = rw (number_of 0 65536 n room (omega arith), eq-eqb (n % 4) 0 whole) refl

pub space_read : (n : ℕ) → n ≤ 65536 → n % 4 ≡ 0 → read (space_line n) ≡ Ok (record { code = []; bytes = replicate n 0 })
unfolding with_operands
space_read n room whole =
    code_read 8 (with_operands_text (codes ".space") (decimal_text n ∷ [])) (space_code n room)
    ∙ blank_after (codes ".space") (decimal_text n ∷ []) space_word (space_parts n room)
    ∙ rw (space_data n room whole) refl

pub space_bare : (n : ℕ) → n ≤ 65536 → labels (space_line n) ≡ []
space_bare n room = code_unlabelled 8 (with_operands_text (codes ".space") (decimal_text n ∷ [])) (space_code n room)

pub space_printable : (n : ℕ) → n ≤ 65536 → list_all printable (space_line n) ≡ true
space_printable n room =
    all_of printable (space_line n)
    (of_other in_code printable code_printable (space_line n)
    (of_append in_code (replicate 8 32) (with_operands_text (codes ".space") (decimal_text n ∷ [])) (indent_in_code 8) (space_code n room).bytes))

pub space_size : (n : ℕ) → n ≤ 65536 → length (space_line n) + 1 ≤ 30
space_size n room =
    let size = length-decimal-le 5 n (omega arith) (omega arith) (omega arith) in
    omega (arith, length-append (replicate 8 32) (codes ".space " ++ decimal_text n))
