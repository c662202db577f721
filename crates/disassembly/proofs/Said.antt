-- A text whose lines say instructions and bytes is read as their program.
use Rattle.std.proofs.Common.{◌≡◌, ℕ, ◌+◌, ◌*◌, ◌≤◌, Bool, true, false, List, [], ◌∷◌, ◌++◌, length, take, take_all, Option, Some, None, Ok, refl, ap, ◌∙◌, sym, subst, arith, inl, inr}
use Rattle.std.specs.Prelude.{codes}
use Rattle.std.specs.Map.{lookup}
use Rattle.std.specs.Str.{bytes_eq}
use Rattle.std.proofs.lemmas.Bool.{le-ltb, cases_Bool}
use Rattle.std.proofs.lemmas.List.{append-nil}
use Rattle.lexical.specs.Line.{lines_of}
use Rattle.lexical.specs.Label.{labels_of, statement_of}
use Rattle.instructions.specs.declared.instr.Instr.{Instr}
use Rattle.instructions.specs.Programs.{address}
use Rattle.isa.specs.Statement.{Parsed, statement}
use Rattle.isa.specs.InstrText.{label_text, ReadsAsBy}
use Rattle.isa.specs.Listing.{Lines, read, labels, table, numbered, memory, resolve_number, numbered_with, resolve, resolved, listing}
use Rattle.instructions.specs.Targets.{names_target}
use Rattle.disassembly.specs.Writing.{AllRead, AllSound, AllMarked, IsLabelled, marked, IsText, AddsData}
use Rattle.disassembly.proofs.Printed.{lines_are}
use Rattle.disassembly.proofs.Pushed.{push_bytes, faultless_none, text_all_quiet, text_nothing}
use Rattle.disassembly.proofs.LabelNames.{found_at}
use Rattle.disassembly.proofs.Names.{data_head}
use Rattle.disassembly.proofs.Blocks.{more_room}

empty_labels : labels [] ≡ []
unfolding labels_of
empty_labels = refl

empty_read : read [] ≡ Ok (record { code = []; bytes = [] })
unfolding statement_of statement
empty_read = refl

module _ (marks : List Bool) (n : ℕ) (few : n ≤ 16384) (all : length marks ≡ n) where
  -- the number of an instruction, by its label or its own
  number_of : (i : Instr) (line : ℕ) (label : Option (List ℕ)) (found : Instr) → ReadsAsBy label found i → (names_target i.op ≡ false → label ≡ None)
      → (names_target i.op ≡ true → IsLabelled marks i.number)
      → numbered_with found (resolve_number (marked marks n) line found.number label) ≡ Ok i
  number_of i line None found stands bare goes = ap (λ (j : Instr). Ok j) stands
  number_of i line (Some name) found stands bare goes = elim (cases_Bool (names_target i.op)) [
    | inr stays ↦ let bad : Some name ≡ None = bare stays in absurd cc
    | inl target ↦
        let at = goes target in
        let here : lookup (λ k. bytes_eq k (label_text (address at.index))) (marked marks n) ≡ Some (address at.index) =
        found_at marks n at.index (omega (arith, all, at.inside)) few at.set in
        let name_is : name ≡ label_text (address at.index) = stands.0 ∙ ap label_text at.is in
        let place : address at.index ≡ i.number = sym at.is in
        rw (name_is, here, place) (ap (λ (j : Instr). Ok j) stands.1)
  ]

  all_resolved : (ds : List (ℕ × Parsed)) (is : List Instr) → AllRead ds is → AllSound n is → AllMarked marks n is → resolved (marked marks n) ds ≡ Ok is
  unfolding resolved
  all_resolved [] [] r s m = refl
  all_resolved [] (i ∷ is) r s m = absurd r
  all_resolved (d ∷ ds) [] r s m = absurd r
  all_resolved (d ∷ ds) (i ∷ is) r s m =
      let one : resolve (marked marks n) d ≡ Ok i = number_of i d.0 d.1.label d.1.instr (r.0).stands (r.0).unlabelled (λ target. m.0 target ((s.0).inside target)) in
      rw (one, all_resolved ds is r.1 s.1 m.1) refl

  pub text_said : (text : List ℕ) (code : List Instr) (bytes : List ℕ) → IsText text code (marked marks n) bytes 4194304 → AllSound n code → AllMarked marks n code
      → length code ≤ 16384 → length bytes ≤ 65536
      → listing text ≡ Ok (record { code = code; bytes = bytes })
  unfolding listing
  text_said text code bytes is sound goes small room =
      let ls : Lines = is.lines in
      let last = push_bytes ls code (marked marks n) bytes is.written [] refl [] empty_labels [] empty_read refl small (omega arith) in
      let lines : lines_of text ≡ ls ++ [] ∷ [] = ap lines_of is.is ∙ lines_are ls (is.written).printed in
      let names : table 0 (ls ++ [] ∷ []) ≡ marked marks n = last.labels_are ∙ append-nil (marked marks n) in
      let values : memory (ls ++ [] ∷ []) ≡ bytes = last.bytes_are ∙ append-nil bytes in
      rw (le-ltb 4194304 (length text) is.short, lines, faultless_none (ls ++ [] ∷ []) last.faultless, names, values, all_resolved (numbered 1 (ls ++ [] ∷ [])) code last.code_is sound goes) refl

-- before the first instruction
pub text_begun : (marks : List Bool) (code : List Instr) → IsText [] (take 0 code) (marked marks 0) [] (200 * 0)
unfolding marked
text_begun marks code = text_nothing

-- after the last instruction
pub text_ended : (marks : List Bool) (code : List Instr) (bytes out head new : List ℕ) (k : ℕ) → length marks ≡ length code → length code ≤ 16384 → length bytes ≡ 65536
    → k ≡ length code → IsText out (take k code) (marked marks k) [] (200 * k) → head ≡ out ++ codes "\n# data\n" → AddsData bytes head new
    → AllSound (length code) code → AllMarked marks (length code) code → listing new ≡ Ok (record { code = code; bytes = bytes })
text_ended marks code bytes out head new k all few size last is headed adds sound goes =
    let n : ℕ = length code in
    let whole : take (length code) code ≡ code = take_all (length code) code (omega arith) in
    let begun : IsText out (take (length code) code) (marked marks (length code)) [] (200 * length code) =
    subst (λ (m : ℕ). IsText out (take m code) (marked marks m) [] (200 * m)) last is in
    let read : IsText out code (marked marks (length code)) [] (200 * length code) =
    subst (λ (c : List Instr). IsText out c (marked marks (length code)) [] (200 * length code)) whole begun in
    let heading = text_all_quiet out head code (marked marks (length code)) [] (200 * length code) ([] ∷ codes "# data" ∷ []) read data_head headed few (omega arith) in
    let written = adds code (marked marks (length code)) (200 * length code + 8) few heading in
    text_said marks (length code) few all new code bytes
    (more_room new code (marked marks (length code)) bytes (200 * length code + 8 + 500000) 4194304 (omega arith) written) sound goes few (omega arith)
