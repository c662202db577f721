-- What a window knows of its stations, so that nobody searches all of it.
use Rattle.std.specs.Prelude.{◌≡◌, ◌<◌, ◌≤◌, ℕ, Bool, true, false, List, length, Option, Some, None, slice_get}
use Rattle.instructions.specs.Instruction.{kind}
use Rattle.instructions.specs.declared.op.Kind.{Kind}
use Rattle.instructions.specs.declared.op.Kind.TheVariants.{Stores as StoreKind}
use Rattle.one_thread.specs.declared.station.Stage.{Stage}
use Rattle.one_thread.specs.declared.station.Stage.TheVariants.{Addr, Done, Stops}
use Rattle.one_thread.specs.declared.station.Station.{Station}
use Rattle.one_thread.specs.Producers.{NoneGives}
use Rattle.one_thread.specs.Window.{miss_of}

-- A stage is resolved: done, a stop, or a store with its address
abbrev pub settled_by : Kind → Stage → Bool
settled_by _ Done = true
settled_by _ (Stops c) = true
settled_by StoreKind (Addr a) = true
settled_by _ _ = false

-- A station is resolved, if there is one
abbrev pub settled_at : Option Station → Bool
settled_at None = false
settled_at (Some w) = settled_by (kind w.instr.op) w.stage

-- The first n stations are resolved
pub record AreSettled (n : ℕ) (W : List Station) : Type 0 where
  pub inside : n ≤ length W
  pub each : (k : ℕ) → k < n → settled_at (slice_get W k) ≡ true

-- The computed next pc of a miss, whatever stands before it
abbrev pub miss_in : List Station → Station → Option ℕ
miss_in ws w = miss_of w.stage

-- No station is a miss unless `missed` is set, and the first `resolved` are resolved
pub record AreNoted (missed : Bool) (resolved : ℕ) (W : List Station) : Type 0 where
  pub no_miss : missed ≡ false → NoneGives miss_in W
  pub are_settled : AreSettled resolved W
