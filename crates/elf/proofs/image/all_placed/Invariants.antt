use Rattle.std.proofs.Common.{◌≡◌, Ok}
use Rattle.elf.specs.Placing.{placed_up_to}
use Rattle.elf.proofs.image.all_placed.Given as goal

abbrev pub invariant-segments : goal.invariant-segments
invariant-segments l = placed_up_to l.file l.table.at l.k ≡ Ok l.image
