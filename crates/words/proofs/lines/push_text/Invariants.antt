use Rattle.std.proofs.Common.{◌≡◌, ◌++◌, ◌+◌, ◌*◌, drop, string_bytes}
use Rattle.words.specs.Lines.{word_lines}
use Rattle.words.proofs.lines.push_text.Given as goal

-- the text so far and the lines to come are the whole text
abbrev pub invariant-words : goal.invariant-words
invariant-words l = record {
  at : l.address ≡ 0x00400000 + 4 * l.word-index;
  text : string_bytes l.out ++ word_lines l.address (drop l.word-index l.words) ≡ string_bytes l.fn.out ++ word_lines 0x00400000 l.words;
}
