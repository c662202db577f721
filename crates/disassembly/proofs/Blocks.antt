-- The lines of one instruction more.
use Rattle.std.proofs.Common.{◌≡◌, ℕ, suc, ◌+◌, ◌*◌, ◌≤◌, ◌<◌, Bool, true, false, not, ◌&&◌, ◌==◌, List, [], ◌∷◌, ◌++◌, length, get_or, take, replicate, None, Ok, refl, ap, ◌∙◌, subst, arith}
use Rattle.std.proofs.Common.{inl, inr, length-take, take-suc}
use Rattle.std.specs.Prelude.{codes, slice_index_or}
use Rattle.std.specs.List.{list_all, slice_split}
use Rattle.std.proofs.lemmas.Bool.{cases_Bool}
use Rattle.std.proofs.lemmas.Bool.Decides.{nat_tests}
use Rattle.std.proofs.lemmas.List.{append-nil}
use Rattle.lexical.specs.Line.{before_comment}
use Rattle.lexical.specs.Label.{labels_of, statement_of}
use Rattle.instructions.specs.declared.op.Op.{Op}
use Rattle.instructions.specs.declared.op.Op.TheVariants.{Beq, Bne, Blez, Bgtz, Bltz, Bgez, J, Jal}
use Rattle.instructions.specs.declared.instr.Instr.{Instr}
use Rattle.isa.specs.declared.listing.instr_text.RegisterStyle.TheVariants.{Names}
use Rattle.instructions.specs.Instruction.{instr_with}
use Rattle.instructions.specs.Targets.{names_target}
use Rattle.instructions.specs.Programs.{address}
use Rattle.isa.specs.Statement.{statement}
use Rattle.isa.specs.Report.{hex8}
use Rattle.isa.specs.Listing.{read, labels}
use Rattle.isa.specs.InstrText.{text_of, label_text, said_of, is_nop, IsWritable}
use Rattle.isa.proofs.TextBytes.{Of, of_append, all_of, of_other, inner, part_of, part_trimmed, before_whole, split_at}
use Rattle.isa.proofs.TextOperands.{label_part, label_is_name}
use Rattle.isa.proofs.TextRead.{in_code, text_code, indent_in_code, code_read, code_unlabelled, spoken, text_spoken, spoken_stands}
use Rattle.disassembly.specs.Writing.{as_line, unlines, printable, label_line, label_lines, code_line, marked, with_mark, IsReadAs, IsText, IsQuieter, IsSound, AllSound}
use Rattle.disassembly.proofs.Pushed.{text_all_quiet, text_label, text_code as code_added}
use Rattle.disassembly.proofs.Printed.{code_printable, inner_printable}
use Rattle.disassembly.proofs.LabelNames.{single}
use Rattle.disassembly.proofs.Sizes.{code_length}
use Rattle.disassembly.proofs.Sound.{sound_at}

-- ---- the line of a label

inner_no_colon : (b : ℕ) → inner b ≡ true → (b == 58) ≡ false
inner_no_colon b h = grind (arith, nat_tests)

no_comment : (b : ℕ) → printable b && not (b == 35) ≡ true → (b == 35) ≡ false
no_comment b h = grind (arith, nat_tests)

inner_uncommented : (b : ℕ) → inner b ≡ true → (printable b && not (b == 35)) ≡ true
inner_uncommented b h = grind (arith, nat_tests)

module _ (k : ℕ) where
  name_bytes : Of inner (label_text (address k))
  name_bytes = part_of (label_text (address k)) (label_part (address k))

  line_bytes : Of (λ b. printable b && not (b == 35)) (label_line k)
  line_bytes = of_append (λ b. printable b && not (b == 35)) (label_text (address k)) (codes ":") (of_other inner (λ b. printable b && not (b == 35)) inner_uncommented (label_text
      (address k)) name_bytes) (refl, tt)

  pub label_printable : list_all printable (label_line k) ≡ true
  label_printable = all_of printable (label_line k) (of_append printable (label_text (address k)) (codes ":") (of_other inner printable inner_printable (label_text (address k)) name_bytes) (refl, tt))

  line_parts : slice_split (λ b. b == 58) (label_line k) ≡ label_text (address k) ∷ [] ∷ []
  line_parts = split_at inner (λ b. b == 58) inner_no_colon (label_text (address k)) 58 [] name_bytes refl

  line_code : before_comment (label_line k) ≡ label_line k
  line_code = before_whole (λ b. printable b && not (b == 35)) (λ b. b == 35) no_comment (label_line k) line_bytes

  pub label_named : labels (label_line k) ≡ label_text (address k) ∷ []
  unfolding labels_of
  label_named = rw (line_code, line_parts, part_trimmed (label_text (address k)) (label_part (address k)), label_is_name (address k)) refl

  pub label_says_nothing : read (label_line k) ≡ Ok (record { code = []; bytes = [] })
  unfolding statement_of statement
  label_says_nothing = rw (line_code, line_parts, part_trimmed (label_text (address k)) (label_part (address k)), label_is_name (address k)) refl

-- ---- the line of an instruction

pub line_printable : (i : Instr) → IsWritable i → list_all printable (code_line i) ≡ true
line_printable i w =
    all_of printable (code_line i)
    (of_other in_code printable code_printable (code_line i) (of_append in_code (replicate 8 32) (text_of Names i) (indent_in_code 8) (text_code Names i w).bytes))

-- only what goes somewhere names a label
unlabelled : (op : Op) (target first second number : ℕ) → names_target op ≡ false → (said_of (instr_with op target first second number)).label ≡ None
unlabelled Beq target first second number h = absurd (cc)
unlabelled Bne target first second number h = absurd (cc)
unlabelled Blez target first second number h = absurd (cc)
unlabelled Bgtz target first second number h = absurd (cc)
unlabelled Bltz target first second number h = absurd (cc)
unlabelled Bgez target first second number h = absurd (cc)
unlabelled J target first second number h = absurd (cc)
unlabelled Jal target first second number h = absurd (cc)
unlabelled op target first second number h = refl

pub spoken_read : (i : Instr) → IsWritable i → IsReadAs (spoken i) i
spoken_read i w = record {
  stands = spoken_stands i w;
  unlabelled = λ stays. elim (cases_Bool (is_nop i)) [
    | inl nop ↦ rw nop refl
    | inr other ↦ rw other (unlabelled i.op i.target i.first i.second i.number stays)
  ];
}

-- ---- the lines of an instruction, after those of k instructions

pub more_room : (text : List ℕ) (code : List Instr) (names : List (List ℕ × ℕ)) (bytes : List ℕ) (most more : ℕ) → most ≤ more
    → IsText text code names bytes most → IsText text code names bytes more
more_room text code names bytes most more le is =
    record { lines = is.lines; is = is.is; written = is.written; short = let small = is.short in omega arith }

label_size : (k : ℕ) → length (label_line k) ≡ 10
unfolding hex8
label_size k = refl

module _ (marks : List Bool) (code : List Instr) (k : ℕ) (lt : k < length code) (few : length code ≤ 16384) where
  so_many : length (take k code) ≡ k
  so_many = omega (arith, length-take k code)

  -- with its label, if it has one
  with_label : (m : Bool) (text new : List ℕ) (most : ℕ) → IsText text (take k code) (marked marks k) [] most → new ≡ text ++ unlines (label_lines k m)
      → IsText new (take k code) (marked marks k ++ with_mark k m) [] (most + 11)
  with_label true text new most is grown =
      let size : length (label_line k) + 1 ≤ 11 = omega (arith, label_size k) in
      let line : new ≡ text ++ as_line (label_line k) = grown ∙ ap (λ (t : List ℕ). text ++ t) (append-nil (as_line (label_line k))) in
      let next = text_label text new (take k code) (marked marks k) [] most is (label_line k) (label_printable k) line 11 size (label_text (address k)) (label_named k) (label_says_nothing k)
      (single marks k (omega arith)) (omega (arith, so_many)) (omega arith) in
      subst (λ (n : ℕ). IsText new (take k code) (marked marks k ++ (label_text (address k), address n) ∷ []) [] (most + 11)) so_many next
  with_label false text new most is grown =
      let same : new ≡ text = grown ∙ append-nil text in
      let names : marked marks k ++ [] ≡ marked marks k = append-nil (marked marks k) in
      rw (same, names) (more_room text (take k code) (marked marks k) [] most (most + 11) (omega arith) is)

  pub block : (d : Instr) (text quiet labelled new : List ℕ) (most : ℕ) → IsText text (take k code) (marked marks k) [] most → IsQuieter 110 text quiet
      → labelled ≡ quiet ++ unlines (label_lines k (slice_index_or marks k false)) → IsSound (length code) (get_or code k d)
      → new ≡ labelled ++ as_line (code_line (get_or code k d)) → IsText new (take (k + 1) code) (marked marks (k + 1)) [] (most + 200)
  unfolding marked
  block d text quiet labelled new most is quieter appended sound grown =
      let i : Instr = get_or code k d in
      let w : IsWritable (get_or code k d) = sound.writable in
      let short = quieter.short in
      let first = text_all_quiet text quiet (take k code) (marked marks k) [] most quieter.lines is quieter.quiet quieter.grown (omega (arith, so_many)) (omega arith) in
      let second = with_label (slice_index_or marks k false) quiet labelled (most + length (unlines quieter.lines)) first appended in
      let size : length (code_line i) + 1 ≤ 79 = code_length i w in
      let third = code_added labelled new (take k code) (marked marks k ++ with_mark k (slice_index_or marks k false)) [] (most + length (unlines quieter.lines) + 11) second
      (code_line i) (line_printable i w) grown 79 size
      (spoken i) i (code_unlabelled 8 (text_of Names i) (text_code Names i w)) (code_read 8 (text_of Names i) (text_code Names i w) ∙ text_spoken Names i w) (spoken_read i w) (omega
      (arith, so_many)) (omega arith) in
      let last : k + 1 ≡ suc k = omega arith in
      let all : take (suc k) code ≡ take k code ++ get_or code k d ∷ [] = take-suc code k d lt in
      rw (last, all) (more_room new (take k code ++ i ∷ []) (marked marks k ++ with_mark k (slice_index_or marks k false)) [] (most + length (unlines quieter.lines) + 11 + 79)
      (most + 200) (omega arith) third)

  pub block_more : (d : Instr) (text quiet labelled new : List ℕ) → IsText text (take k code) (marked marks k) [] (200 * k) → IsQuieter 110 text quiet
      → labelled ≡ quiet ++ unlines (label_lines k (slice_index_or marks k false)) → AllSound (length code) code
      → new ≡ labelled ++ as_line (code_line (get_or code k d)) → IsText new (take (k + 1) code) (marked marks (k + 1)) [] (200 * (k + 1))
  block_more d text quiet labelled new is quieter appended sound grown =
      more_room new (take (k + 1) code) (marked marks (k + 1)) [] (200 * k + 200) (200 * (k + 1)) (omega arith)
      (block d text quiet labelled new (200 * k) is quieter appended (sound_at (length code) code k d sound lt) grown)
