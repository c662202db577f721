-- Warnings of a listing without a fault.
use Rattle.std.specs.Prelude.{◌≡◌, ◌-◌, ◌==◌, ℕ, Bool, false, true, List, [], ◌∷◌, drop, length, Some, IfSome, is_some, slice_get, if◌then◌else◌}
use Rattle.std.specs.List.{flat_map}
use Rattle.std.specs.Borrow.{Bor}
use Rattle.std.specs.BTreeMap.{BTreeMap}
use Rattle.lexical.specs.Line.{lines_of}
use Rattle.instructions.specs.Programs.{Program}
use Rattle.isa.specs.Listing.{Lines, labels, stands_in, instruction_lines}
use Rattle.isa.specs.Statement.{directive_text}
use Rattle.checker.specs.Keys.{AreNames}
use Rattle.checker.specs.Parts.{IsPartOf, numbered_line, operands_of_line, part_text, word_in}
use Rattle.checker.specs.Reach.{HasPath, HavePaths, IsClosedSet, IsStackUnset, IsUnreached, may_run_past_end}
use Rattle.checker.specs.Spots.{IsAdvice}
use Rattle.checker.specs.declared.parts.Part.{Part}
use Rattle.checker.specs.declared.reach.Paths.TheVariants.{Any}
use Rattle.checker.specs.declared.spot.Spot.{Spot}
use Rattle.checker.specs.declared.warnings.Good.{Good}
use Rattle.checker.specs.declared.warnings.TheConstants.{WARNING, NEVER_USED, AT_DATA, STACK_UNSET, UNREACHED, PAST_END}
use Rattle.checker.specs.declared.warnings.Warning.{Warning}
use Rattle.checker.specs.declared.warnings.Warning.TheVariants.{NeverUsed, AtData, StackUnset, Unreached, PastEnd}

-- the beginning of a warning
abbrev pub warning : List ℕ
warning = WARNING.now

-- the sentence of a kind of warning
abbrev pub said : Warning → List ℕ
said NeverUsed = NEVER_USED.now
said AtData = AT_DATA.now
said StackUnset = STACK_UNSET.now
said Unreached = UNREACHED.now
said PastEnd = PAST_END.now

-- the operands of all lines
abbrev pub all_operands : Lines → List (List ℕ)
all_operands ls = flat_map operands_of_line ls

-- the names are the operands of all lines
abbrev pub AreOperandsOf : Lines → BTreeMap (Bor (List ℕ)) ℕ → Type 0
AreOperandsOf ls map = AreNames map (all_operands ls)

-- whether the first statement of lines is data
abbrev pub begin_with_data : Lines → Bool
begin_with_data [] = false
begin_with_data (l ∷ ls) = if length (word_in l) == 0 then begin_with_data ls else is_some (directive_text (word_in l))

-- whether the first statement from line n on, counted from 1, is data
abbrev pub stands_at_data : (n : ℕ) → Lines → Bool
stands_at_data n ls = begin_with_data (drop (n - 1) ls)

-- instruction k stands on line n
abbrev pub StandsOn : List ℕ → (k n : ℕ) → Type 0
StandsOn bytes k n = slice_get (instruction_lines bytes) k ≡ Some n

-- the warning is true of instruction k
abbrev pub IsOfInstruction : Program → (k : ℕ) → Warning → Type 0
IsOfInstruction P k NeverUsed = ⊥
IsOfInstruction P k AtData = ⊥
IsOfInstruction P k StackUnset = IsStackUnset P k
IsOfInstruction P k Unreached = IsUnreached P k
IsOfInstruction P k PastEnd = HasPath Any P k × (may_run_past_end P k ≡ true)

-- the warning is true of a part of line n: the part is one of the line's labels, and no operand or before data; or the line's
-- instruction reads `$sp`, and a path leads to it on which none sets it; or no run reaches it; or a path leads to it and a run
-- can go on from it past the last one
abbrev pub Applies : (bytes : List ℕ) → Program → (n : ℕ) → (line : List ℕ) → Part → Warning → Type 0
Applies bytes P n line part NeverUsed =
    (stands_in (labels line) (part_text line part) ≡ true)
    × (stands_in (all_operands (lines_of bytes)) (part_text line part) ≡ false)
Applies bytes P n line part AtData =
    (stands_in (labels line) (part_text line part) ≡ true) × (stands_at_data n (lines_of bytes) ≡ true)
Applies bytes P n line part StackUnset = (k : ℕ) × (StandsOn bytes k n × IsStackUnset P k)
Applies bytes P n line part Unreached = (k : ℕ) × (StandsOn bytes k n × IsUnreached P k)
Applies bytes P n line part PastEnd = (k : ℕ) × (StandsOn bytes k n × (HasPath Any P k × (may_run_past_end P k ≡ true)))

-- a warning: its line, its part and its kind, and what helps, if that is known
pub record Warned : Type 0 where
  pub number : ℕ
  pub line : List ℕ
  pub part : Part
  pub kind : Warning
  pub help : List ℕ

-- the line is in the listing, the part lies in it, and the warning is true; the new text is the old one with it
pub record IsWarning (file bytes : List ℕ) (P : Program) (w : Warned) (old new : List ℕ) : Type 0 where
  pub line_is : numbered_line w.number (lines_of bytes) ≡ Some w.line
  pub lies : IsPartOf w.line w.part
  pub right : Applies bytes P w.number w.line w.part w.kind
  pub text : IsAdvice file w.number w.part warning w.help (said w.kind) old new

-- the new text is the old one with these warnings behind it
abbrev pub AreWarnings : (file bytes : List ℕ) → Program → List Warned → (old new : List ℕ) → Type 0
AreWarnings file bytes P [] old new = new ≡ old
AreWarnings file bytes P (w ∷ ws) old new =
    (text : List ℕ) × (IsWarning file bytes P w old text × AreWarnings file bytes P ws text new)

-- the new text is the old one with some warnings behind it, each of which is true
abbrev pub AreWarned : (file bytes : List ℕ) → Program → (old new : List ℕ) → Type 0
AreWarned file bytes P old new = (ws : List Warned) × AreWarnings file bytes P ws old new

-- ---- while warnings are looked for

-- the new text is the old one with some warnings of this listing after it
abbrev pub AreWarnedOf : Good → (old new : List ℕ) → Type 0
AreWarnedOf good old new = AreWarned good.file.now good.bytes.now good.program.now old new

-- what is known of a listing without a fault: the line of each instruction, those that a run can reach, and the one that reads
-- `$sp` where none has set it
pub record IsKnown (good : Good) : Type 0 where
  pub lines : good.lines.now ≡ instruction_lines good.bytes.now
  pub size : length good.reached.now ≡ length good.program.now.code
  pub paths : HavePaths Any good.program.now good.reached.now
  pub closed : good.is_closed ≡ true → IsClosedSet good.program.now good.reached.now
  pub stack : IfSome good.stack (IsStackUnset good.program.now)

-- the spot is a line of the listing
pub record IsSpotOf (good : Good) (spot : Spot) : Type 0 where
  pub file : spot.file.now ≡ good.file.now
  pub line : numbered_line spot.number (lines_of good.bytes.now) ≡ Some spot.line.now
