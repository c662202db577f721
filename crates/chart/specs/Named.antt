-- The tenants whose rows are kept.
use Rattle.std.specs.Prelude.{◌≡◌, ℕ, List, [], ◌∷◌, ◌++◌, length, map, Some, if◌then◌else◌}
use Rattle.std.specs.List.{AllByRecursion}
use Rattle.instructions.specs.Programs.{Program}
use Rattle.inorder.specs.Tenants.{Live, Tenant, is_live}
use Rattle.inorder.specs.Unit.{at}
use Rattle.one_thread.specs.declared.station.Station.{Station}
use Rattle.one_thread.specs.Window.{station_of}
use Rattle.chart.specs.declared.row.Row.{Row}

-- The positions of the live tenants, the oldest first
abbrev pub live_positions : List Tenant → List ℕ
live_positions [] = []
live_positions (t ∷ ts) = if is_live t then live_positions ts ++ length ts ∷ [] else live_positions ts

-- The tenant at this position is live, and stands in this station
pub record StandsIn (P : Program) (ts : List Tenant) (position : ℕ) (w : Station) : Type 0 where
  pub tenant : Tenant
  pub is : at ts position ≡ Some tenant
  pub live : tenant.standing ≡ Live
  pub station : w ≡ station_of P tenant

-- A row is that of the tenant at its position
abbrev pub IsRowOf : Program → List Tenant → Row → Type 0
IsRowOf P ts r = StandsIn P ts r.position r.station

-- Each live tenant has a row, and each row is that of the tenant at its position
pub record AreNamed (P : Program) (ts : List Tenant) (rows : List Row) : Type 0 where
  pub positions : map (λ r. r.position) rows ≡ live_positions ts
  pub each : AllByRecursion (IsRowOf P ts) rows
