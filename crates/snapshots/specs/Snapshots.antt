-- Snapshots of the in-order machine.
use Rattle.std.specs.Prelude.{◌≡◌, replicate, Some, option_map}
use Rattle.instructions.specs.Registers.{register_count}
use Rattle.instructions.specs.Programs.{Program, text_start}
use Rattle.inorder.specs.Machine.{State}
use Rattle.inorder.specs.Runs.{after}
use Rattle.snapshots.specs.declared.snap.Snap.{Snap}

-- The snapshot of a state: its count, pc and registers
abbrev pub snapshot : State → Snap
snapshot s = record { n = s.count; pc = s.pc; registers = s.registers }

-- The snapshot of a state in which no instruction was run
abbrev pub opening : Snap
opening = record { n = 0; pc = text_start; registers = replicate register_count 0 }

-- The snapshot is that of the state after its n instructions, none of which stops
abbrev pub IsSnapshotOf : Program → Snap → Type 0
IsSnapshotOf P snap = option_map snapshot (after P snap.n) ≡ Some snap
