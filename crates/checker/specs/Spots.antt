-- Places of a listing, as editors read them: FILE:LINE:COLUMN, where lines and columns are counted from 1.
use Rattle.std.specs.Prelude.{◌≡◌, ℕ, ◌+◌, ◌/◌, ◌%◌, ◌==◌, ◌||◌, List, [], ◌∷◌, ◌++◌, codes, decimal, flat_map, if◌then◌else◌}
use Rattle.lexical.specs.Name.{is_plain}
use Rattle.isa.specs.Report.{hex_digit, newline}
use Rattle.checker.specs.declared.parts.Part.{Part}

-- the escape of a byte: `\x` and two hexadecimal digits
abbrev pub escape : ℕ → List ℕ
escape b = codes "\\x" ++ (hex_digit (b / 16) ∷ hex_digit (b % 16) ∷ [])

-- a byte as it is shown: a tab, a line feed or a byte that can be printed as it is, any other byte by its escape
abbrev pub shown : ℕ → List ℕ
shown b = if is_plain b || (b == 10) then b ∷ [] else escape b

-- the place of a byte of a line, of which the first is byte 0, behind the name of the file as it is shown
abbrev pub place : (file : List ℕ) → (number from : ℕ) → List ℕ
place file number from =
    file ++ (codes ":" ++ (decimal number ++ (codes ":" ++ (decimal (from + 1) ++ codes ": "))))

-- what stands first: the help, or the rule where no help is known
abbrev pub headline : (help rule : List ℕ) → List ℕ
headline [] rule = rule
headline (b ∷ bs) rule = b ∷ bs

-- the rule in a line of its own, where help stands first
abbrev pub rule_line : (help rule : List ℕ) → List ℕ
rule_line [] rule = []
rule_line (b ∷ bs) rule = rule ++ newline

-- the new text is the old one and behind it the place of a part of a line, the severity, what helps, a quote, and the rule that
-- is broken
abbrev pub IsAdvice : (file : List ℕ) → (number : ℕ) → Part → (severity help rule old new : List ℕ) → Type 0
IsAdvice file number part severity help rule old new = (quote : List ℕ)
    × (new ≡ old ++ (place file number part.from ++ (severity ++ (flat_map shown (headline help rule)
    ++ (newline ++ (flat_map shown quote ++ rule_line help rule))))))
