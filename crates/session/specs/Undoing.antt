-- Commands that are taken back: the session begins again, and does those before them.
use Rattle.std.specs.Prelude.{◌≡◌, ◌⊎◌, ℕ, zero, suc, Bool, true, false, List, [], ◌∷◌, ◌++◌, codes, decimal, if◌then◌else◌}
use Rattle.session.specs.declared.reading.Line.{Line}
use Rattle.session.specs.Lines.{is_undo, may_change}
use Rattle.session.specs.Sessions.{IsStartOfSession, TheSession}
use Rattle.session.specs.Telling.{LineSays}

-- The session with a line that it has done, if that may have changed something
abbrev pub with_line : Line → TheSession → TheSession
with_line line s = record s { lines = if may_change line then s.lines ++ line ∷ [] else s.lines }

-- A line was done, and noted
pub record LineIsDone (old new : TheSession) (number : ℕ) (line : Line) (text : List ℕ) : Type 0 where
  pub done : TheSession
  pub says : LineSays old done number line text
  pub noted : new ≡ with_line line done

-- These lines were done, one after another
abbrev pub HasRun : List Line → TheSession → TheSession → Type 0
HasRun [] first last = last ≡ first
HasRun (line ∷ more) first last =
    (middle : TheSession) × (text : List ℕ) × LineIsDone first middle 0 line text × HasRun more middle last

-- The last line was taken back: the session has begun again, and has done the lines before that
pub record HasUndone (old new : TheSession) (text : List ℕ) : Type 0 where
  pub last : Line
  pub earlier : List Line
  pub lines_are : old.lines ≡ earlier ++ last ∷ []
  pub fresh : TheSession
  pub starts : IsStartOfSession old.core.program old.config fresh
  pub runs : HasRun earlier fresh new
  pub text_is : text ≡ codes "Undone\n"

-- The text where there is nothing to take back
abbrev pub nothing_text : ℕ → List ℕ
nothing_text number = codes "line " ++ (decimal number ++ codes ": there is nothing to undo\n")

-- There was nothing to take back
pub record HadNothing (old new : TheSession) (number : ℕ) (text : List ℕ) : Type 0 where
  pub none : old.lines ≡ []
  pub same : new ≡ old
  pub text_is : text ≡ nothing_text number

-- An undo
abbrev pub UndoSays : TheSession → TheSession → (number : ℕ) → List ℕ → Type 0
UndoSays old new number text = HasUndone old new text ⊎ HadNothing old new number text

-- An undo, or another line
abbrev pub SaysOnce : (undoes : Bool) → TheSession → TheSession → (number : ℕ) → Line → List ℕ → Type 0
SaysOnce true old new number line text = UndoSays old new number text
SaysOnce false old new number line text = LineIsDone old new number line text

-- The result of one of the times that a line is done
abbrev pub LineComesTo : TheSession → TheSession → (number : ℕ) → Line → List ℕ → Type 0
LineComesTo old new number line text = SaysOnce (is_undo line) old new number line text

-- A line was done as often as this
abbrev pub ComesTo : (times : ℕ) → TheSession → TheSession → (number : ℕ) → Line → List ℕ → Type 0
ComesTo zero old new number line text = (text ≡ []) × (new ≡ old)
ComesTo (suc n) old new number line text =
    (middle : TheSession) × (before told : List ℕ)
    × ComesTo n old middle number line before
    × LineComesTo middle new number line told
    × (text ≡ before ++ told)
