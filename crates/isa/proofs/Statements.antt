-- A statement by its word.
use Rattle.std.proofs.Common.{◌≡◌, ℕ, true, false, List, [], length, Ok, Err, refl}
use Rattle.std.specs.Prelude.{codes, ◌==◌}
use Rattle.std.specs.List.{before_first, after_first}
use Rattle.lexical.specs.Blank.{is_blank}
use Rattle.lexical.specs.Operand.{operands}
use Rattle.isa.specs.declared.listing.fault.FaultKind.{FaultKind}
use Rattle.isa.specs.Spots.{spot_with, statement_spot}
use Rattle.isa.specs.Statement.{Parsed, is_word, space, data_words, instruction, with_operands, statement, gives_code, gives_bytes}

module _ (word : List ℕ) (parts : List (List ℕ)) where
  module _ (is_space : is_word (codes ".space") word ≡ true) where
    pub space_ok : (bytes : List ℕ) → space parts ≡ Ok bytes → with_operands word parts ≡ gives_bytes bytes
    unfolding with_operands
    space_ok bytes e = rw (is_space, e) refl

    pub space_fault : (k : FaultKind) → space parts ≡ Err k → with_operands word parts ≡ Err k
    unfolding with_operands
    space_fault k e = rw (is_space, e) refl

  module _ (no_space : is_word (codes ".space") word ≡ false) where
    module _ (is_words : is_word (codes ".word") word ≡ true) where
      pub words_ok : (bytes : List ℕ) → data_words parts ≡ Ok bytes → with_operands word parts ≡ gives_bytes bytes
      unfolding with_operands
      words_ok bytes e = rw (no_space, is_words, e) refl

      pub words_fault : (k : FaultKind) → data_words parts ≡ Err k → with_operands word parts ≡ Err k
      unfolding with_operands
      words_fault k e = rw (no_space, is_words, e) refl

    module _ (no_words : is_word (codes ".word") word ≡ false) where
      pub instruction_ok : (p : Parsed) → instruction word parts ≡ Ok p → with_operands word parts ≡ gives_code p
      unfolding with_operands
      instruction_ok p e = rw (no_space, no_words, e) refl

      pub instruction_fault : (k : FaultKind) → instruction word parts ≡ Err k → with_operands word parts ≡ Err k
      unfolding with_operands
      instruction_fault k e = rw (no_space, no_words, e) refl

pub statement_empty : (text : List ℕ) → (length text == 0) ≡ true → statement text ≡ gives_bytes []
unfolding statement
statement_empty text e = rw e refl

pub statement_is : (text word : List ℕ) (parts : List (List ℕ)) → (length text == 0) ≡ false → word ≡ before_first is_blank text
    → parts ≡ operands (after_first is_blank text) → statement text ≡ with_operands word parts
unfolding statement
statement_is text word parts e w p = rw (e, w, p) refl

pub spot_is : (text word : List ℕ) (parts : List (List ℕ)) → word ≡ before_first is_blank text → parts ≡ operands (after_first is_blank text)
    → spot_with word parts ≡ statement_spot text
unfolding statement_spot
spot_is text word parts w p = rw (w, p) refl
