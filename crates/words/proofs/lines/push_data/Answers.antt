use Rattle.std.proofs.Common.{arith, string_bytes}
use Rattle.words.proofs.DataLines.{data_goes_on}
use Rattle.words.proofs.lines.push_data.Goals as goal

pub words-preserved : goal.words-preserved
words-preserved c = record {
  room = omega (arith, c.split_at.ensures.back_len, c.words.invariant.room);
  text = data_goes_on (string_bytes c.words.out) _ _ c.words.address c.word_of.result c.words.rest.now _ _ (omega arith)
      c.split_at.ensures.front c.split_at.ensures.back c.word_of.ensures c.in_ok-push_word.ensures c.words.invariant.text;
}
