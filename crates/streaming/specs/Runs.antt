-- Turns up to a retirement.
use Rattle.std.specs.Prelude.{◌≡◌, ◌<◌, ℕ, Option, Some, None}
use Rattle.instructions.specs.declared.end.Ending.TheVariants.{Stop as ByStop}
use Rattle.instructions.specs.declared.stop.Stop.{Stop}
use Rattle.one_thread.specs.Changes.{run_from}
use Rattle.one_thread.specs.declared.pipeline.Pipeline.{Pipeline}

-- Turns up to a retirement, of runs with a limit that is not reached: the count is higher, and each
-- goes on as it did; or the unit has ended, as each of them does
abbrev pub RetiresOne : Option Stop → Pipeline → Pipeline → Type 0
RetiresOne None b later =
    (b.committed.count < later.committed.count) ×
    ((limit : ℕ) → b.committed.count < limit → run_from later limit ≡ run_from b limit)
RetiresOne (Some c) b later =
    (limit : ℕ) → b.committed.count < limit → (ByStop c, later.committed) ≡ run_from b limit
