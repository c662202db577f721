-- One more line after those that were written.
use Rattle.std.proofs.Common.{◌≡◌, ℕ, suc, ◌+◌, ◌≤◌, ◌<◌, true, false, List, [], ◌∷◌, ◌++◌, length, map, None, Ok, refl, ap, ◌∙◌, sym, subst, arith, append_assoc}
use Rattle.std.specs.List.{list_all}
use Rattle.std.proofs.lemmas.Bool.{le-ltb}
use Rattle.std.proofs.lemmas.List.{append-nil, length-append}
use Rattle.instructions.specs.declared.instr.Instr.{Instr}
use Rattle.instructions.specs.Programs.{address}
use Rattle.isa.specs.Statement.{Parsed}
use Rattle.isa.specs.Listing.{Lines, read, labels, labels_at, table, numbered, memory, instruction_count, is_double, all_labels, fault_in, first_fault}
use Rattle.isa.proofs.NextLine.{numbered_push, table_push, memory_push, names_are as labels_are_names}
use Rattle.isa.proofs.FirstFault.{first_after, after_none}
use Rattle.disassembly.specs.Writing.{as_line, unlines, printable, AllPrintable, Faultless, IsReadAs, AllRead, LinesSay, AllQuiet, IsText}
use Rattle.disassembly.proofs.Printed.{line_plain}

-- ---- lists

pub printable_push : (ls : Lines) (l : List ℕ) → AllPrintable ls → list_all printable l ≡ true → AllPrintable (ls ++ l ∷ [])
printable_push [] l h p = (p, tt)
printable_push (b ∷ ls) l h p = (h.0, printable_push ls l h.1 p)

faultless_push : (before ls : Lines) (l : List ℕ) → Faultless before ls → fault_in (before ++ ls) l ≡ None → Faultless before (ls ++ l ∷ [])
faultless_push before [] l h f = (subst (λ (b : Lines). fault_in b l ≡ None) (append-nil before) f, tt)
faultless_push before (b ∷ ls) l h f =
    let whole : (before ++ b ∷ []) ++ ls ≡ before ++ b ∷ ls = append_assoc before (b ∷ []) ls in
    (h.0, faultless_push (before ++ b ∷ []) ls l h.1 (subst (λ (c : Lines). fault_in c l ≡ None) (sym whole) f))

none_behind : (before ls : Lines) → Faultless before ls → first_after before ls ≡ None
unfolding first_after
none_behind before [] h = refl
none_behind before (l ∷ ls) h = rw (h.0) (none_behind (before ++ l ∷ []) ls h.1)

pub faultless_none : (ls : Lines) → Faultless [] ls → first_fault ls ≡ None
faultless_none ls h = sym (after_none ls) ∙ none_behind [] ls h

read_length : (ds : List (ℕ × Parsed)) (is : List Instr) → AllRead ds is → length ds ≡ length is
read_length [] [] h = refl
read_length [] (i ∷ is) h = absurd h
read_length (d ∷ ds) [] h = absurd h
read_length (d ∷ ds) (i ∷ is) h = ap suc (read_length ds is h.1)

read_push : (ds : List (ℕ × Parsed)) (is : List Instr) (d : ℕ × Parsed) (i : Instr) → AllRead ds is → IsReadAs d.1 i → AllRead (ds ++ d ∷ []) (is ++ i ∷ [])
read_push [] [] d i h r = (r, tt)
read_push [] (j ∷ is) d i h r = absurd h
read_push (e ∷ ds) [] d i h r = absurd h
read_push (e ∷ ds) (j ∷ is) d i h r = (h.0, read_push ds is d i h.1 r)

-- ---- a line

module _ (ls : Lines) (code : List Instr) (names : List (List ℕ × ℕ)) (bytes : List ℕ) (is : LinesSay ls code names bytes)
    (l : List ℕ) (clean : list_all printable l ≡ true) (ns : List (List ℕ)) (labelled : labels l ≡ ns) where
  count_is : instruction_count ls ≡ length code
  count_is = read_length (numbered 1 ls) code is.code_is

  module _ (ps : List Parsed) (bs : List ℕ) (said : read l ≡ Ok (record { code = ps; bytes = bs })) where
    no_fault : is_double (map (λ p. p.0) names) ns ≡ false → length code + length ps ≤ 16384 → length bytes + length bs ≤ 65536
        → fault_in ([] ++ ls) l ≡ None
    unfolding fault_in
    no_fault single short small =
        let before : all_labels ls ≡ map (λ p. p.0) names = sym (labels_are_names 0 ls) ∙ ap (map (λ p. p.0)) is.labels_are in
        rw (line_plain l clean, count_is, before, labelled, single, is.bytes_are, said, le-ltb 16384 (length code + length ps) short, le-ltb 65536 (length bytes + length bs) small) refl

    names_are : table 0 (ls ++ l ∷ []) ≡ names ++ labels_at (address (length code)) ns
    names_are =
        let place : 0 + instruction_count ls ≡ length code = omega (arith, count_is) in
        table_push 0 1 ls l ∙ rw (is.labels_are, labelled, place) refl

    memory_is : memory (ls ++ l ∷ []) ≡ bytes ++ bs
    memory_is = memory_push ls l ∙ rw (is.bytes_are, said) refl

    numbers_are : numbered 1 (ls ++ l ∷ []) ≡ numbered 1 ls ++ map (λ p. (1 + length ls, p)) ps
    numbers_are = numbered_push 1 ls l ∙ rw said refl

  -- without an instruction
  pub push_bytes : (bs : List ℕ) → read l ≡ Ok (record { code = []; bytes = bs }) → is_double (map (λ p. p.0) names) ns ≡ false
      → length code ≤ 16384 → length bytes + length bs ≤ 65536
      → LinesSay (ls ++ l ∷ []) code (names ++ labels_at (address (length code)) ns) (bytes ++ bs)
  push_bytes bs said single short small =
      let numbers : numbered 1 (ls ++ l ∷ []) ≡ numbered 1 ls = numbers_are [] bs said ∙ append-nil (numbered 1 ls) in
      record {
        printed = printable_push ls l is.printed clean;
        faultless = faultless_push [] ls l is.faultless (no_fault [] bs said single (omega arith) small);
        code_is = subst (λ (ds : List (ℕ × Parsed)). AllRead ds code) (sym numbers) is.code_is;
        labels_are = names_are [] bs said;
        bytes_are = memory_is [] bs said;
      }

  -- with an instruction
  pub push_code : (p : Parsed) (i : Instr) → read l ≡ Ok (record { code = p ∷ []; bytes = [] }) → IsReadAs p i → is_double (map (λ p. p.0) names) ns ≡ false
      → length code < 16384 → length bytes ≤ 65536
      → LinesSay (ls ++ l ∷ []) (code ++ i ∷ []) (names ++ labels_at (address (length code)) ns) bytes
  push_code p i said stands single short small = record {
    printed = printable_push ls l is.printed clean;
    faultless = faultless_push [] ls l is.faultless (no_fault (p ∷ []) [] said single (omega arith) (omega arith));
    code_is = subst (λ (ds : List (ℕ × Parsed)). AllRead ds (code ++ i ∷ [])) (sym (numbers_are (p ∷ []) [] said)) (read_push (numbered 1 ls) code (1 + length ls, p) i is.code_is stands);
    labels_are = names_are (p ∷ []) [] said;
    bytes_are = memory_is (p ∷ []) [] said ∙ append-nil bytes;
  }

-- ---- texts

pub unlines_push : (ls : Lines) (l : List ℕ) → unlines (ls ++ l ∷ []) ≡ unlines ls ++ as_line l
unlines_push [] l = append-nil (as_line l)
unlines_push (b ∷ ls) l = ap (λ (t : List ℕ). as_line b ++ t) (unlines_push ls l) ∙ sym (append_assoc (as_line b) (unlines ls) (as_line l))

module _ (text new : List ℕ) (code : List Instr) (names : List (List ℕ × ℕ)) (bytes : List ℕ) (most : ℕ) (is : IsText text code names bytes most)
    (l : List ℕ) (clean : list_all printable l ≡ true) (grown : new ≡ text ++ as_line l) (more : ℕ) (short : length l + 1 ≤ more) where
  text_is : new ≡ unlines (is.lines ++ l ∷ [])
  text_is = grown ∙ ap (λ (t : List ℕ). t ++ as_line l) is.is ∙ sym (unlines_push is.lines l)

  length_is : length new ≤ most + more
  length_is =
      let whole : length new ≡ length text + length (as_line l) = ap length grown ∙ length-append text (as_line l) in
      let line : length (as_line l) ≡ length l + 1 = length-append l (10 ∷ []) in
      let before = is.short in
      omega arith

  pub text_bytes : (bs : List ℕ) → labels l ≡ [] → read l ≡ Ok (record { code = []; bytes = bs }) → length code ≤ 16384 → length bytes + length bs ≤ 65536
      → IsText new code names (bytes ++ bs) (most + more)
  text_bytes bs bare said small room = record {
    lines = is.lines ++ l ∷ [];
    is = text_is;
    written = subst (λ (ns : List (List ℕ × ℕ)). LinesSay (is.lines ++ l ∷ []) code ns (bytes ++ bs)) (append-nil names)
        (push_bytes is.lines code names bytes is.written l clean [] bare bs said refl small room);
    short = length_is;
  }

  pub text_quiet : labels l ≡ [] → read l ≡ Ok (record { code = []; bytes = [] }) → length code ≤ 16384 → length bytes ≤ 65536
      → IsText new code names bytes (most + more)
  text_quiet bare said small room =
      subst (λ (bs : List ℕ). IsText new code names bs (most + more)) (append-nil bytes) (text_bytes [] bare said small (omega arith))

  pub text_label : (name : List ℕ) → labels l ≡ name ∷ [] → read l ≡ Ok (record { code = []; bytes = [] }) → is_double (map (λ p. p.0) names) (name ∷ []) ≡ false
      → length code ≤ 16384 → length bytes ≤ 65536
      → IsText new code (names ++ (name, address (length code)) ∷ []) bytes (most + more)
  text_label name labelled said single small room = record {
    lines = is.lines ++ l ∷ [];
    is = text_is;
    written = subst (λ (bs : List ℕ). LinesSay (is.lines ++ l ∷ []) code (names ++ (name, address (length code)) ∷ []) bs) (append-nil bytes)
        (push_bytes is.lines code names bytes is.written l clean (name ∷ []) labelled [] said single small (omega arith));
    short = length_is;
  }

  pub text_code : (p : Parsed) (i : Instr) → labels l ≡ [] → read l ≡ Ok (record { code = p ∷ []; bytes = [] }) → IsReadAs p i → length code < 16384 → length bytes ≤ 65536
      → IsText new (code ++ i ∷ []) names bytes (most + more)
  text_code p i bare said stands small room = record {
    lines = is.lines ++ l ∷ [];
    is = text_is;
    written = subst (λ (ns : List (List ℕ × ℕ)). LinesSay (is.lines ++ l ∷ []) (code ++ i ∷ []) ns bytes) (append-nil names)
        (push_code is.lines code names bytes is.written l clean [] bare p i said stands refl small room);
    short = length_is;
  }

-- several lines that say nothing
pub text_all_quiet : (text new : List ℕ) (code : List Instr) (names : List (List ℕ × ℕ)) (bytes : List ℕ) (most : ℕ) (quiet : Lines)
    → IsText text code names bytes most → AllQuiet quiet → new ≡ text ++ unlines quiet → length code ≤ 16384 → length bytes ≤ 65536
    → IsText new code names bytes (most + length (unlines quiet))
text_all_quiet text new code names bytes most [] is h grown small room =
    let same : new ≡ text = grown ∙ append-nil text in
    let none : most + 0 ≡ most = omega arith in
    rw (same, none) is
text_all_quiet text new code names bytes most (l ∷ ls) is h grown small room =
    let line : ℕ = length l + 1 in
    let first = text_quiet text (text ++ as_line l) code names bytes most is l (h.0).bytes refl line (omega arith) (h.0).labels_are (h.0).read_is small room in
    let whole : new ≡ (text ++ as_line l) ++ unlines ls = grown ∙ sym (append_assoc text (as_line l) (unlines ls)) in
    let rest = text_all_quiet (text ++ as_line l) new code names bytes (most + line) ls first h.1 whole small room in
    let size : most + line + length (unlines ls) ≡ most + length (as_line l ++ unlines ls) = omega (arith, length-append (as_line l) (unlines ls), length-append l (10 ∷ [])) in
    subst (λ (n : ℕ). IsText new code names bytes n) size rest

-- before any line
pub text_nothing : IsText [] [] [] [] 0
unfolding numbered table memory
text_nothing = record {
  lines = [];
  is = refl;
  written = record { printed = tt; faultless = tt; code_is = tt; labels_are = refl; bytes_are = refl };
  short = omega arith;
}
