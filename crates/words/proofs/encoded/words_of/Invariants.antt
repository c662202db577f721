use Rattle.std.proofs.Common.{◌≡◌, length, take}
use Rattle.words.specs.Encoded.{SayAll}
use Rattle.words.proofs.encoded.words_of.Given as goal

-- the words so far say the first instructions
abbrev pub invariant-instructions : goal.invariant-instructions
invariant-instructions l = record {
  say : SayAll l.words.items (take l.k l.program.code);
  all : length l.words.items ≡ l.k;
}
