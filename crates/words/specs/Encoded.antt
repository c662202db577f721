-- Words that say instructions.
use Rattle.std.specs.Prelude.{◌≡◌, ℕ, suc, List, [], ◌∷◌, Option, Some, ⊤}
use Rattle.std.specs.Io.KnownBytes.{Appends}
use Rattle.instructions.specs.Programs.{Program, address}
use Rattle.instructions.specs.declared.instr.Instr.{Instr}
use Rattle.encoding.specs.Words.{decode}
use Rattle.words.specs.Lines.{text_for}

-- words say the instructions from number k on
abbrev pub SayFrom : (k : ℕ) → List ℕ → List Instr → Type 0
SayFrom k [] [] = ⊤
SayFrom k [] (i ∷ is) = ⊥
SayFrom k (w ∷ ws) [] = ⊥
SayFrom k (w ∷ ws) (i ∷ is) = (decode (address k) w ≡ Some i) × SayFrom (suc k) ws is

-- words say all instructions of a program
abbrev pub SayAll : List ℕ → List Instr → Type 0
SayAll words code = SayFrom 0 words code

-- the lines of words were written that say the instructions of a program, and of the words of its data
pub record HasWords (P : Program) (before after : Option (List ℕ)) : Type 0 where
  pub words : List ℕ
  pub say : SayAll words P.code
  pub says : Appends before after (text_for words P.bytes)
