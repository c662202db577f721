-- What is told of a whole script.
use Rattle.std.specs.Prelude.{◌≡◌, ◌⊎◌, ◌&&◌, ℕ, ◌+◌, ◌<◌, Bool, true, false, List, [], ◌∷◌, map, length, take, Option, Some, IfSome}
use Rattle.std.specs.Io.BufRead.{drop_through, strip_last, take_through}
use Rattle.std.specs.Io.KnownBytes.{Appends, IsAtEnd}
use Rattle.session.specs.Lines.{IsLine, ends_script, is_command}
use Rattle.session.specs.Sessions.{TheSession}
use Rattle.session.specs.Transcripts.{IsTranscript, IsWrittenOfLine}
use Rattle.session.specs.Tokens.{tokens_of}
use Rattle.session.specs.declared.reading.Line.{Line}
use Rattle.counted_io.specs.declared.fault.Fault.{Fault}
use Rattle.counted_io.specs.declared.fault.Fault.TheVariants.{Read, Memory, Write}

-- A line of a script without what ends it
abbrev pub line_of : List ℕ → List ℕ
line_of chunk = strip_last 13 (strip_last 10 chunk)

-- The next line of a script was read, with what ends it. This says something where the bytes of
-- the reader are known
abbrev pub ReadsScript : Option (List ℕ) → Option (List ℕ) → List ℕ → Type 0
ReadsScript from to chunk =
    IfSome from (λ input. (chunk ≡ take_through 10 input) × (to ≡ Some (drop_through 10 input)))

-- These lines were read, the last one first
abbrev pub AreRead : Option (List ℕ) → List (List ℕ) → Option (List ℕ) → Type 0
AreRead from [] to = to ≡ from
AreRead from (chunk ∷ earlier) to =
    (middle : Option (List ℕ)) × AreRead from earlier middle × ReadsScript middle to chunk

-- A line was read, answered, and what is told of it was written
pub record LineIsTold (echo : Bool) (from to : Option (List ℕ)) (old new : TheSession) (number : ℕ)
    (before after : Option (List ℕ)) (line : Line) : Type 0 where
  pub chunk : List ℕ
  pub text : List ℕ
  pub read : ReadsScript from to chunk
  pub line_is : IsLine (tokens_of (line_of chunk)) line
  pub told : IsWrittenOfLine echo old new number (line_of chunk) text
  pub written : Appends before after text

-- Nothing was left to read, and nothing was done
pub record NothingWasLeft (from : Option (List ℕ)) (old new : TheSession)
    (before after : Option (List ℕ)) : Type 0 where
  pub read : IsAtEnd from
  pub same : new ≡ old
  pub unwritten : after ≡ before

-- Whether each of these lines is a command, the last one first. None of them ends a script
abbrev pub AreCommands : List (List ℕ) → Bool → Type 0
AreCommands [] each = each ≡ true
AreCommands (chunk ∷ earlier) each =
    (line : Line) × (before : Bool) × AreCommands earlier before × IsLine (tokens_of (line_of chunk)) line
    × (ends_script line ≡ false) × (each ≡ (before && is_command line))

-- n lines were read from the first on, and what was written is their transcript
pub record AreTold (echo : Bool) (from to : Option (List ℕ)) (old new : TheSession)
    (before after : Option (List ℕ)) (count : ℕ) (each : Bool) : Type 0 where
  -- the last one first
  pub chunks : List (List ℕ)
  pub count_is : length chunks ≡ count
  pub commands : AreCommands chunks each
  pub text : List ℕ
  pub read : AreRead from chunks to
  pub told : IsTranscript echo old (map line_of chunks) text new
  pub written : Appends before after text

-- A line was told that ends the script, whatever stands behind it
pub record IsTheLast (echo : Bool) (from : Option (List ℕ)) (old new : TheSession) (number : ℕ)
    (before after : Option (List ℕ)) : Type 0 where
  pub to : Option (List ℕ)
  pub line : Line
  pub ends : ends_script line ≡ true
  pub told : LineIsTold echo from to old new number before after line

-- A script was read up to its end, or up to the first line that ends it, and what was written is the
-- transcript of its lines: each of them is a command, or not
pub record HasDriven (echo : Bool) (from : Option (List ℕ)) (old new : TheSession)
    (before after : Option (List ℕ)) (each : Bool) : Type 0 where
  pub to : Option (List ℕ)
  pub middle : TheSession
  pub between : Option (List ℕ)
  pub count : ℕ
  pub all : AreTold echo from to old middle before between count each
  pub ended : NothingWasLeft to middle new between after
      ⊎ IsTheLast echo to middle new (count + 1) between after

-- Some lines were read from the first on, and what was written is their transcript
pub record HasTold (echo : Bool) (from : Option (List ℕ)) (old : TheSession)
    (before after : Option (List ℕ)) : Type 0 where
  pub to : Option (List ℕ)
  pub new : TheSession
  pub count : ℕ
  pub each : Bool
  pub all : AreTold echo from to old new before after count each

-- A line was read and answered, and a proper beginning of what is told of it was written
pub record LineIsCut (echo : Bool) (from : Option (List ℕ)) (old : TheSession) (number : ℕ)
    (before after : Option (List ℕ)) : Type 0 where
  pub to : Option (List ℕ)
  pub new : TheSession
  pub chunk : List ℕ
  pub text : List ℕ
  pub read : ReadsScript from to chunk
  pub told : IsWrittenOfLine echo old new number (line_of chunk) text
  pub count : ℕ
  pub part : count < length text
  pub written : Appends before after (take count text)

-- n lines were answered, and what was written is their transcript and a beginning of what is
-- told of one more
pub record HasBroken (echo : Bool) (from : Option (List ℕ)) (old : TheSession)
    (before after : Option (List ℕ)) : Type 0 where
  pub to : Option (List ℕ)
  pub new : TheSession
  pub between : Option (List ℕ)
  pub count : ℕ
  pub each : Bool
  pub all : AreTold echo from to old new before between count each
  pub cut : LineIsCut echo to new (count + 1) between after

-- How many calls of the writer failed where a script was not answered to its end
abbrev pub write_failures : Fault → ℕ
write_failures Read = 0
write_failures Memory = 0
write_failures Write = 1
