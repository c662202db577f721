use Rattle.std.proofs.Common.{◌≡◌, ◌==◌, drop}
use Rattle.std.specs.List.{list_all}
use Rattle.disassembly.proofs.data.is_zero.Given as goal

abbrev pub invariant-loop-b : goal.invariant-loop-b
invariant-loop-b l = list_all (λ b. b == 0) (drop l.b-index l.row) ≡ list_all (λ b. b == 0) l.row
