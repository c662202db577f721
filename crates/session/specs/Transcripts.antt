-- Transcripts: what is told of the lines of a script.
use Rattle.std.specs.Prelude.{◌≡◌, ℕ, suc, Bool, true, false, List, [], ◌∷◌, ◌++◌, length, codes}
use Rattle.isa.specs.Report.{newline}
use Rattle.session.specs.declared.reading.Line.{Line}
use Rattle.session.specs.Lines.{IsLine, times_of}
use Rattle.session.specs.Sessions.{TheSession}
use Rattle.session.specs.Undoing.{ComesTo}
use Rattle.session.specs.Tokens.{tokens_of}

-- The text of the result of a line's bytes
pub record IsToldOfLine (old new : TheSession) (number : ℕ) (bytes text : List ℕ) : Type 0 where
  pub line : Line
  pub line_is : IsLine (tokens_of bytes) line
  pub says : ComesTo (times_of (tokens_of bytes) line) old new number line text

-- A line as it is told before its answer, where that is wanted
abbrev pub echo_text : Bool → List ℕ → List ℕ
echo_text false bytes = []
echo_text true bytes = codes "> " ++ (bytes ++ newline)

-- What is written for the bytes of a line of this number
pub record IsWrittenOfLine (echo : Bool) (old new : TheSession) (number : ℕ) (bytes text : List ℕ) :
    Type 0 where
  pub told : List ℕ
  pub says : IsToldOfLine old new number bytes told
  pub text_is : text ≡ echo_text echo bytes ++ told

-- The transcript of lines, the last one first: one history grows from line to line, and what is told
-- of each is allowed between what was seen before it and behind it
abbrev pub IsTranscript : Bool → TheSession → List (List ℕ) → List ℕ → TheSession → Type 0
IsTranscript echo first [] text last = (text ≡ []) × (last ≡ first)
IsTranscript echo first (line ∷ earlier) text last =
    (middle : TheSession) × (before : List ℕ) × (told : List ℕ)
    × IsTranscript echo first earlier before middle
    × IsWrittenOfLine echo middle last (suc (length earlier)) line told
    × (text ≡ before ++ told)
