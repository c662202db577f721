use Rattle.std.proofs.Common.{◌≡◌, ◌≤◌, ◌<◌, ℕ, length, slice_index}
use Rattle.ruu_words.specs.Places.{words_for}
use Rattle.station.proofs.cores.first_words.Given as goal

abbrev pub invariant-loop-s : goal.invariant-loop-s
invariant-loop-s l = record {
  wide : length l.words.items ≡ words_for l.setup.ring;
  stations : (x : ℕ) → x < l.s → slice_index l.words.items x ≡ l.word;
  others : (x : ℕ) → l.setup.ring ≤ x → slice_index l.words.items x ≡ 0;
}
