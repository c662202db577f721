use Rattle.std.proofs.Common.{arith, string_bytes}
use Rattle.isa.proofs.WordLines.{memory_goes_on}
use Rattle.isa.proofs.report.push_memory.Goals as goal

pub words-preserved : goal.words-preserved
words-preserved c = record {
  room = omega (arith, c.split_at.ensures.back_len);
  text = memory_goes_on (string_bytes c.words.out) _ _ c.words.address c.words.rest.now _ _ (omega arith)
      c.split_at.ensures.front c.split_at.ensures.back c.in_ok-push_word.ensures c.words.invariant.text;
}
