use Rattle.std.proofs.Common.{◌≡◌, ℕ, List, length, take, drop}
use Rattle.isa.specs.Labels.{AreHeld}
use Rattle.isa.specs.Listing.{resolved}
use Rattle.isa.specs.Held.{rows}
use Rattle.isa.proofs.Rows.{with_front}
use Rattle.isa.proofs.listing.resolve_all.Given as goal

-- the instructions so far and those to come are all
abbrev pub invariant-loop-i : goal.invariant-loop-i
invariant-loop-i l = record {
  same_length : length l.code ≡ length l.targets;
  so_far : (held : List (List ℕ × ℕ)) → AreHeld l.labels held
      → with_front (take l.i l.code) (resolved held (rows (drop l.i l.code) (drop l.i l.targets))) ≡ resolved held (rows l.fn.code l.targets);
}
