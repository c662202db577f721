use Rattle.std.proofs.Common.{◌≡◌, ◌<◌, ◌+◌, ◌-◌, ◌^◌, slice_index}
use Rattle.lsq.specs.Bytes.{little_endian}
use Rattle.inorder.proofs.data.number_of.Given as goal

abbrev pub invariant-loop-k : goal.invariant-loop-k
invariant-loop-k l =
    record {
      value : l.raw ≡ little_endian (slice_index l.memory) (l.at + (l.width - l.k)) l.k;
      small : l.raw < 256 ^ l.k;
    }
