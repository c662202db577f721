-- What a resolved station does not give.
use Rattle.std.proofs.Common.{rules, ◌≡◌, ℕ, true, false, List, Option, None}
use Rattle.std.specs.Prelude.{slice_get, is_some}
use Rattle.instructions.specs.declared.op.Kind.{Kind}
use Rattle.one_thread.specs.declared.execute.Operands.{Operands}
use Rattle.one_thread.specs.declared.station.Stage.{Stage}
use Rattle.one_thread.specs.declared.station.Station.{Station}
use Rattle.one_thread.specs.Producers.{gives}
use Rattle.one_thread.specs.Loads.{waits_by}
use Rattle.one_thread.specs.Notes.{miss_in, settled_at, settled_by}
use Rattle.one_thread.specs.Window.{where_open}

not_open : (k : Kind) (s : Stage) (o : Option Operands) → settled_by k s ≡ true → where_open s o ≡ None
not_open k s o e = search rules

none_waits : (k : Kind) (s : Stage) → settled_by k s ≡ true → is_some (waits_by k s) ≡ false
none_waits k s e = search rules

-- it is no miss
pub settled_no_miss : (W : List Station) (k : ℕ) → settled_at (slice_get W k) ≡ true → gives miss_in W k ≡ None
settled_no_miss W k = search rules
