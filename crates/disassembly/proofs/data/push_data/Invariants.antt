use Rattle.std.proofs.Common.{◌≤◌, ◌*◌, string_bytes}
use Rattle.disassembly.proofs.DataSteps.{RowsSoFar}
use Rattle.disassembly.proofs.data.push_data.Given as goal

abbrev pub invariant-rows : goal.invariant-rows
invariant-rows l =
    RowsSoFar l.bytes (string_bytes l.fn.out) (string_bytes l.out) l.k l.zeros × (l.zeros ≤ 16 * l.k)
