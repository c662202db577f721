-- The words of a line of a script.
use Rattle.std.specs.Prelude.{ℕ, ◌==◌, ◌&&◌, Bool, not, is_some, List, [], length, if◌then◌else◌}
use Rattle.std.specs.List.{after_first, before_first}
use Rattle.lexical.specs.Blank.{is_blank, trim}
use Rattle.lexical.specs.Line.{before_comment}
use Rattle.lexical.specs.Number.{decimal_in}
use Rattle.session.specs.declared.tokens.Tokens.{Tokens}

-- The words of a line, each empty where it is not there: a count, a command with two operands, and what stands behind
pub record Texts : Type 0 where
  pub count : List ℕ
  pub verb : List ℕ
  pub first : List ℕ
  pub second : List ℕ
  pub rest : List ℕ

-- The text before the first blank
abbrev pub first_word : List ℕ → List ℕ
first_word text = before_first is_blank text

-- The text behind the first word, without the blanks at its ends
abbrev pub behind_word : List ℕ → List ℕ
behind_word text = trim (after_first is_blank text)

-- No character
abbrev pub is_empty : List ℕ → Bool
is_empty text = length text == 0

-- A number stands first in the text, and something behind it
abbrev pub has_count : List ℕ → Bool
has_count text = not (is_empty (behind_word text)) && is_some (decimal_in 4294967295 (first_word text))

-- The words of a text behind a count
abbrev pub words_behind : (count text : List ℕ) → Texts
words_behind count text =
    record {
      count = count;
      verb = first_word text;
      first = first_word (behind_word text);
      second = first_word (behind_word (behind_word text));
      rest = behind_word (behind_word (behind_word text));
    }

-- The words of a text that has no blanks at its ends
abbrev pub words_from : List ℕ → Texts
words_from text =
    if has_count text then words_behind (first_word text) (behind_word text) else words_behind [] text

-- The words of a line, up to a `#`
abbrev pub tokens_of : List ℕ → Texts
tokens_of line = words_from (trim (before_comment line))

-- The texts that the words stand for
abbrev pub texts_of : Tokens → Texts
texts_of w =
    record { count = w.count.now; verb = w.verb.now; first = w.first.now; second = w.second.now; rest = w.rest.now }
