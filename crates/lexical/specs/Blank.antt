-- Blanks, and a text without the blanks at its ends.
use Rattle.std.specs.Prelude.{ℕ, ◌-◌, ◌==◌, ◌||◌, Bool, List, length, take, drop}
use Rattle.std.specs.List.{prefix_len, suffix_len}

-- whether a byte is a space or a tab
abbrev pub is_blank : ℕ → Bool
is_blank b = (b == 32) || (b == 9)

-- a text without the blanks at its front
abbrev pub trim_start : List ℕ → List ℕ
trim_start text = drop (prefix_len is_blank text) text

-- a text without the blanks at its end
abbrev pub trim_end : List ℕ → List ℕ
trim_end text = take (length text - suffix_len is_blank text) text

-- a text without the blanks at its ends
abbrev pub trim : List ℕ → List ℕ
trim text = trim_end (trim_start text)
