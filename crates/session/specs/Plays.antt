-- Sessions that are driven by a seed.
use Rattle.std.specs.Prelude.{◌≡◌, ◌⊎◌, ℕ, suc, ◌+◌, true, List, [], ◌∷◌, ◌++◌, length, codes, Option, IsSome, take, ◌<◌, ◌≤◌}
use Rattle.std.specs.Io.KnownBytes.{Appends}
use Rattle.session.specs.Sessions.{MayHaveLooked, TheSession}
use Rattle.session.specs.Transcripts.{IsWrittenOfLine}

-- What is written for a line was added
pub record IsWrittenBehind (old new : TheSession) (number : ℕ) (line before after : List ℕ) :
    Type 0 where
  pub text : List ℕ
  pub written : IsWrittenOfLine true old new number line text
  pub is : after ≡ before ++ text

-- Lines were chosen one after another, the last one first, and each was answered
abbrev pub IsPlay : TheSession → List (List ℕ) → List ℕ → TheSession → Type 0
IsPlay first [] text last = (text ≡ []) × (last ≡ first)
IsPlay first (line ∷ earlier) text last =
    (middle looked : TheSession) × (before : List ℕ)
    × IsPlay first earlier before middle
    × MayHaveLooked middle looked
    × IsWrittenBehind looked last (suc (length earlier)) line before text

-- n lines were chosen and answered
abbrev pub IsPlayOf : TheSession → (count : ℕ) → List ℕ → TheSession → Type 0
IsPlayOf first count text last =
    (lines : List (List ℕ)) × (length lines ≡ count) × IsPlay first lines text last

-- n lines were chosen and answered, and after them the words may have been looked at once more
pub record ArePlayed (old new : TheSession) (text : List ℕ) (count : ℕ) : Type 0 where
  pub middle : TheSession
  pub played : IsPlayOf old count text middle
  pub looked : MayHaveLooked middle new

-- The transcript of a session that a seed drives: of n lines, or of fewer where the run has ended, and of a table
-- and a report
pub record HasPlayed (steps : ℕ) (old new : TheSession) (text : List ℕ) : Type 0 where
  pub count : ℕ
  pub few : count ≤ steps
  pub before : List ℕ
  pub played : TheSession
  pub lines : ArePlayed old played before count
  pub all : (count ≡ steps) ⊎ IsSome played.commits.ended
  pub shown : TheSession
  pub between : List ℕ
  pub table : IsWrittenBehind played shown (count + 1) (codes "table") before between
  pub report : IsWrittenBehind shown new (count + 2) (codes "report") between text

-- The transcript of a session that a seed drives was written
pub record IsPlayed (steps : ℕ) (old new : TheSession) (before after : Option (List ℕ)) : Type 0 where
  pub text : List ℕ
  pub played : HasPlayed steps old new text
  pub written : Appends before after text

-- A proper beginning of such a transcript was written
pub record HasPlayedPart (steps : ℕ) (old : TheSession) (before after : Option (List ℕ)) : Type 0 where
  pub new : TheSession
  pub text : List ℕ
  pub played : HasPlayed steps old new text
  pub count : ℕ
  pub part : count < length text
  pub written : Appends before after (take count text)
