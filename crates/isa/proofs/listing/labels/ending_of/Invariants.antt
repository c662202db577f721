use Rattle.std.proofs.Common.{◌≡◌, ◌*◌, ◌%◌, ◌^◌, bit_or, fold, take}
use Rattle.isa.proofs.listing.labels.ending_of.Given as goal

-- the number of the bytes so far
abbrev pub invariant-loop-b : goal.invariant-loop-b
invariant-loop-b l = l.number ≡ fold (λ number b. bit_or (number * 2 ^ 8 % 2 ^ 64) b) 0 (take l.b-index l.ending)
