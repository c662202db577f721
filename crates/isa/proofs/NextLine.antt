-- One line after the lines before it.
use Rattle.std.proofs.Common.{◌≡◌, ℕ, ◌+◌, ◌<◌, ◌≤◌, true, false, List, [], ◌∷◌, ◌++◌, length, map, Option, Some, None, Result, Err, refl, sym, ap, ◌∙◌, append_assoc, arith}
use Rattle.std.specs.Prelude.{nat_lt}
use Rattle.std.proofs.lemmas.Bool.{lt-ltb, le-ltb}
use Rattle.std.proofs.lemmas.List.{length-append, length-map, append-nil}
use Rattle.std.proofs.lemmas.Grind.{flat_map-append}
use Rattle.lexical.specs.Line.{before_comment}
use Rattle.lexical.specs.Name.{is_plain_text}
use Rattle.lexical.specs.Label.{labels_of, statement_of}
use Rattle.instructions.specs.declared.instr.Instr.{Instr}
use Rattle.isa.specs.declared.listing.fault.FaultKind.{FaultKind}
use Rattle.isa.specs.declared.listing.fault.FaultKind.TheVariants.{NotAscii, DoubleLabel, TooLong}
use Rattle.isa.specs.declared.listing.line.Target.{Target}
use Rattle.instructions.specs.Programs.{address}
use Rattle.isa.specs.Statement.{Parsed, Line, statement}
use Rattle.isa.specs.Listing.{Lines, labels as labels_in, read, code_in, bytes_in, labels_at, table, numbered, memory, instruction_count, is_double, all_labels, fault_of, fault_in}
use Rattle.isa.specs.Labels.{LabelMap, AreHeld, names_of}
use Rattle.isa.specs.declared.listing.spot.Spot.{Spot}
use Rattle.isa.specs.declared.listing.spot.Spot.TheVariants.{Whole}
use Rattle.isa.specs.Spots.{double_spot, read_spot, spot_in, statement_spot}
use Rattle.isa.specs.Held.{IsAdded, IsRead, name_of, rows}
use Rattle.isa.proofs.Rows.{rows_length, rows_push}
use Rattle.isa.proofs.HeldLabels.{names_append}

-- ---- one line more

pub numbered_push : (k : ℕ) (before : Lines) (l : List ℕ)
    → numbered k (before ++ l ∷ []) ≡ numbered k before ++ map (λ p. (k + length before, p)) (code_in (read l))
unfolding numbered
numbered_push k [] l = append-nil _ ∙ ap (λ (j : ℕ). map (λ p. (j, p)) (code_in (read l))) (omega arith)
numbered_push k (b ∷ before) l =
    let first : List (ℕ × Parsed) = map (λ p. (k, p)) (code_in (read b)) in
    let place : k + 1 + length before ≡ k + length (b ∷ before) = omega arith in
    ap (λ (t : List (ℕ × Parsed)). first ++ t)
    (numbered_push (k + 1) before l ∙ ap (λ (j : ℕ). numbered (k + 1) before ++ map (λ p. (j, p)) (code_in (read l))) place)
    ∙ sym (append_assoc first (numbered (k + 1) before) _)

pub table_push : (n k : ℕ) (before : Lines) (l : List ℕ)
    → table n (before ++ l ∷ []) ≡ table n before ++ labels_at (address (n + length (numbered k before))) (labels_in l)
unfolding table numbered
table_push n k [] l = append-nil _ ∙ ap (λ (j : ℕ). labels_at (address j) (labels_in l)) (omega arith)
table_push n k (b ∷ before) l =
    let first : List (List ℕ × ℕ) = labels_at (address n) (labels_in b) in
    let count : ℕ = length (code_in (read b)) in
    let size : length (map (λ p. (k, p)) (code_in (read b)) ++ numbered (k + 1) before) ≡ count + length (numbered (k + 1) before) =
    simp (length-append, length-map) in
    let place : n + count + length (numbered (k + 1) before) ≡ n + length (map (λ p. (k, p)) (code_in (read b)) ++ numbered (k + 1) before) =
    omega arith in
    ap (λ (t : List (List ℕ × ℕ)). first ++ t)
    (table_push (n + count) (k + 1) before l ∙ ap (λ (j : ℕ). table (n + count) before ++ labels_at (address j) (labels_in l)) place)
    ∙ sym (append_assoc first (table (n + count) before) _)

pub memory_push : (before : Lines) (l : List ℕ) → memory (before ++ l ∷ []) ≡ memory before ++ bytes_in (read l)
unfolding memory
memory_push before l = flat_map-append (λ l. bytes_in (read l)) before (l ∷ []) ∙ ap (λ (t : List ℕ). memory before ++ t) (append-nil _)

names_at : (a : ℕ) (names : List (List ℕ)) → map (λ p. p.0) (labels_at a names) ≡ names
names_at a [] = refl
names_at a (x ∷ xs) = ap (λ (ns : List (List ℕ)). x ∷ ns) (names_at a xs)

-- the labels that have an address are all labels
pub names_are : (n : ℕ) (ls : Lines) → map (λ p. p.0) (table n ls) ≡ all_labels ls
unfolding table
names_are n [] = refl
names_are n (l ∷ ls) =
    names_append (labels_at (address n) (labels_in l)) (table (n + length (code_in (read l))) ls)
    ∙ ap (λ (ns : List (List ℕ)). ns ++ map (λ p. p.0) (table (n + length (code_in (read l))) ls)) (names_at (address n) (labels_in l))
    ∙ ap (λ (ns : List (List ℕ)). labels_in l ++ ns) (names_are (n + length (code_in (read l))) ls)

-- ---- this line

module _ (before : Lines) (line text : List ℕ) (labels : LabelMap) (code : List Instr) (ts : List Target) (bytes : List ℕ)
    (is : IsRead before labels code ts bytes) (front : text ≡ before_comment line) where
  pub how_many_is : instruction_count before ≡ length code
  how_many_is = sym (ap length is.code_is) ∙ rows_length code ts is.length_is

  pub fault_not_plain : is_plain_text text ≡ false → (fault_in before line ≡ Some NotAscii) × (Whole ≡ spot_in before line)
  unfolding fault_in spot_in
  fault_not_plain e =
      let p : is_plain_text (before_comment line) ≡ false = rw front at e in
      (rw p refl, rw p refl)

  module _ (plain : is_plain_text text ≡ true) where
    is_plain : is_plain_text (before_comment line) ≡ true
    is_plain = rw front at plain

    -- whether a label stands twice, by the labels that are held
    double_is : is_double (all_labels before) (labels_in line) ≡ is_double (names_of (table 0 before)) (labels_of text)
    double_is = rw (names_are 0 before, front) refl

    pub fault_double : (at : Spot)
        → ((held : List (List ℕ × ℕ)) → AreHeld labels held
        → (is_double (names_of held) (labels_of text) ≡ true) × (at ≡ double_spot 0 (names_of held) (labels_of text)))
        → (fault_in before line ≡ Some DoubleLabel) × (at ≡ spot_in before line)
    unfolding fault_in spot_in
    fault_double at twice =
        let here = twice (table 0 before) is.labels_are in
        let same : double_spot 0 (names_of (table 0 before)) (labels_of text) ≡ double_spot 0 (all_labels before) (labels_in line) =
        rw (names_are 0 before, front) refl in
        (rw (is_plain, double_is, here.0) refl, rw (is_plain, double_is, here.0) (here.1 ∙ same))

    module _ (a : ℕ) (at_a : a ≡ address (length code)) (new : LabelMap)
        (added : (held : List (List ℕ × ℕ)) → AreHeld labels held
        → (is_double (names_of held) (labels_of text) ≡ false) × AreHeld new (held ++ labels_at a (labels_of text))) where
      at_count : a ≡ address (0 + instruction_count before)
      at_count = at_a ∙ ap address (sym how_many_is ∙ omega arith)

      fault_is : (f : Option FaultKind) → fault_of (length code) (length bytes) (statement (statement_of text)) ≡ f → fault_in before line ≡ f
      unfolding fault_in
      fault_is f e =
          let other : fault_of (instruction_count before) (length (memory before)) (read line) ≡ f = rw (how_many_is, ← is.bytes_are, ← front) e in
          rw (is_plain, double_is, (added (table 0 before) is.labels_are).0) other

      spot_is : (r : Result Line FaultKind) → statement (statement_of text) ≡ r → spot_in before line ≡ read_spot r (statement_of text)
      unfolding spot_in
      spot_is r e =
          let other : read_spot (read line) (statement_of (before_comment line)) ≡ read_spot r (statement_of text) =
          rw (← front) (ap (λ (q : Result Line FaultKind). read_spot q (statement_of text)) e) in
          rw (is_plain, double_is, (added (table 0 before) is.labels_are).0) other

      labels_are : AreHeld new (table 0 (before ++ line ∷ []))
      labels_are =
          let all : table 0 before ++ labels_at a (labels_of text) ≡ table 0 (before ++ line ∷ []) =
          ap (λ (b : ℕ). table 0 before ++ labels_at b (labels_of text)) at_count
          ∙ ap (λ (c : List ℕ). table 0 before ++ labels_at (address (0 + instruction_count before)) (labels_of c)) front ∙ sym (table_push 0 1 before line) in
          rw all at (added (table 0 before) is.labels_are).1

      read_is : (r : Result Line FaultKind) → statement (statement_of text) ≡ r → read line ≡ r
      read_is r e = ap (λ (c : List ℕ). statement (statement_of c)) (sym front) ∙ e

      code_are : (r : Result Line FaultKind) → statement (statement_of text) ≡ r
          → numbered 1 (before ++ line ∷ []) ≡ rows code ts ++ map (λ p. (1 + length before, p)) (code_in r)
      code_are r e =
          numbered_push 1 before line
          ∙ ap (λ (q : Result Line FaultKind). numbered 1 before ++ map (λ p. (1 + length before, p)) (code_in q)) (read_is r e)
          ∙ ap (λ (t : List (ℕ × Parsed)). t ++ map (λ p. (1 + length before, p)) (code_in r)) (sym is.code_is)

      bytes_are : (r : Result Line FaultKind) → statement (statement_of text) ≡ r → memory (before ++ line ∷ []) ≡ bytes ++ bytes_in r
      bytes_are r e =
          memory_push before line ∙ ap (λ (q : Result Line FaultKind). memory before ++ bytes_in q) (read_is r e)
          ∙ ap (λ (t : List ℕ). t ++ bytes_in r) (sym is.bytes_are)

      pub fault_statement : (k : FaultKind) → statement (statement_of text) ≡ Err k
          → (fault_in before line ≡ Some k) × (statement_spot (statement_of text) ≡ spot_in before line)
      fault_statement k e = (fault_is (Some k) (ap (fault_of (length code) (length bytes)) e), sym (spot_is (Err k) e))

      module _ (ps : List Parsed) (bytes' : List ℕ) (grown : IsAdded (statement (statement_of text)) ps bytes bytes') where
        size_is : length bytes' ≡ length bytes + length grown.bytes
        size_is = ap length grown.grown ∙ length-append bytes grown.bytes

        pub fault_long_memory : 65536 < length bytes' → (fault_in before line ≡ Some TooLong) × (Whole ≡ spot_in before line)
        fault_long_memory long =
            let over : nat_lt 65536 (length bytes + length grown.bytes) ≡ true = lt-ltb _ _ (omega (arith, size_is)) in
            (fault_is (Some TooLong) (ap (fault_of (length code) (length bytes)) grown.is ∙ grind (arith, over)), sym (spot_is _ grown.is))

        pub fault_long_code : 16384 < length code + length ps → (fault_in before line ≡ Some TooLong) × (Whole ≡ spot_in before line)
        fault_long_code long =
            let over : nat_lt 16384 (length code + length ps) ≡ true = lt-ltb _ _ long in
            (fault_is (Some TooLong) (ap (fault_of (length code) (length bytes)) grown.is ∙ rw over refl), sym (spot_is _ grown.is))

        no_fault : length code + length ps ≤ 16384 → length bytes' ≤ 65536 → fault_in before line ≡ None
        no_fault short small =
            let code_short : nat_lt 16384 (length code + length ps) ≡ false = le-ltb _ _ short in
            let bytes_short : nat_lt 65536 (length bytes + length grown.bytes) ≡ false = le-ltb _ _ (omega (arith, size_is)) in
            fault_is None (ap (fault_of (length code) (length bytes)) grown.is ∙ rw (code_short, bytes_short) refl)

      pub reads_none : (bytes' : List ℕ) → IsAdded (statement (statement_of text)) [] bytes bytes' → length code ≤ 16384 → length bytes' ≤ 65536
          → (fault_in before line ≡ None) × IsRead (before ++ line ∷ []) new code ts bytes'
      reads_none bytes' grown short small = (
        no_fault [] bytes' grown (omega arith) small,
        record {
          labels_are = labels_are;
          length_is = is.length_is;
          code_is = sym (code_are _ grown.is ∙ append-nil _);
          bytes_are = grown.grown ∙ sym (bytes_are _ grown.is);
        },
      )

      pub reads_some : (i : Instr) (t : Target) (bytes' : List ℕ) → t.line ≡ length before + 1
          → IsAdded (statement (statement_of text)) (record { instr = i; label = name_of t } ∷ []) bytes bytes' → length code < 16384 → length bytes' ≤ 65536
          → (fault_in before line ≡ None) × IsRead (before ++ line ∷ []) new (code ++ i ∷ []) (ts ++ t ∷ []) bytes'
      reads_some i t bytes' number grown short small = (
        no_fault _ bytes' grown (omega arith) small,
        record {
          labels_are = labels_are;
          length_is = omega (arith, is.length_is, length-append code (i ∷ []), length-append ts (t ∷ []));
          code_is =
              rows_push code ts i t is.length_is
              ∙ ap (λ (j : ℕ). rows code ts ++ (j, record { instr = i; label = name_of t }) ∷ []) (number ∙ omega arith)
              ∙ sym (code_are _ grown.is);
          bytes_are = grown.grown ∙ sym (bytes_are _ grown.is);
        },
      )
