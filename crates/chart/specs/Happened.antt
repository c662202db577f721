-- What became of tenants at a turn, by the tenants before it and behind it.
use Rattle.std.specs.Prelude.{◌≡◌, ℕ, List, length, Option, Some, None, is_some, true}
use Rattle.instructions.specs.Instruction.{first_of, second_of}
use Rattle.instructions.specs.Programs.{Program}
use Rattle.inorder.specs.Callers.{is_retired}
use Rattle.inorder.specs.Tenants.{IsThere, Standing, Tenant}
use Rattle.inorder.specs.Tenants as tenant
use Rattle.inorder.specs.Unit.{at, creator, how_many, value_of}
use Rattle.one_thread.specs.declared.station.Station.{Station}
use Rattle.one_thread.specs.Loads.{waits}
use Rattle.chart.specs.declared.event.Event.{Event}
use Rattle.chart.specs.declared.event.Event.TheVariants.{Blocked, Left, Let, Moved}
use Rattle.chart.specs.declared.event.Way.TheVariants.{Retired, Squashed}
use Rattle.one_thread.specs.declared.station.Stage.{Stage}
use Rattle.chart.specs.declared.row.Row.{Row}
use Rattle.chart.specs.Named.{IsRowOf, StandsIn}

-- The tenant at this position is live, has retired, or was squashed
pub record StandsAs (ts : List Tenant) (position : ℕ) (standing : Standing) : Type 0 where
  pub tenant : Tenant
  pub is : at ts position ≡ Some tenant
  pub stands : tenant.standing ≡ standing

-- A new tenant waits for the creator of a source, at this position, which has made nothing yet; or for nobody, since
-- the value is there
abbrev pub Awaits : (before : List Tenant) → (creator producer : Option ℕ) → Type 0
Awaits before c None = IsThere (value_of before c)
Awaits before c (Some p) = (c ≡ Some p) × (value_of before c ≡ None)

-- The tenant of a row was let: there were as many tenants before it as its position says, and its two sources wait for
-- these
pub record WasLet (P : Program) (before behind : List Tenant) (r : Row) (first second : Option ℕ)
    : Type 0 where
  pub position : r.position ≡ length before
  pub stands : IsRowOf P behind r
  pub awaits_first : Awaits before (creator P before (first_of r.station.instr)) first
  pub awaits_second : Awaits before (creator P before (second_of r.station.instr)) second

-- The tenant at a position has gone on, from one stage to another
pub record HasGoneOn (P : Program) (before behind : List Tenant) (position : ℕ) (from to : Stage) : Type 0 where
  pub old : Station
  pub new : Station
  pub stood : StandsIn P before position old
  pub stands : StandsIn P behind position new
  pub from_is : from ≡ old.stage
  pub to_is : to ≡ new.stage

-- The load at a position has its address and no value, and the tenant that it waits for is live
pub record WaitsFor (P : Program) (behind : List Tenant) (position store : ℕ) : Type 0 where
  pub load : Station
  pub stands : StandsIn P behind position load
  pub waits : is_some (waits load) ≡ true
  pub other : Station
  pub stood : StandsIn P behind store other

-- The tenant of a row was live, and has left
pub record HasGone (P : Program) (before behind : List Tenant) (r : Row) (standing : Standing) : Type 0 where
  pub stood : IsRowOf P before r
  pub left : StandsAs behind r.position standing

-- The tenant of a row has retired, after n others
pub record HasRetired (P : Program) (before behind : List Tenant) (r : Row) (others : ℕ) : Type 0 where
  pub gone : HasGone P before behind r tenant.Retired
  pub count : others ≡ how_many is_retired before

-- An event tells what became of the tenant at its position
abbrev pub Happened : Program → List Tenant → List Tenant → Event → Type 0
Happened P before behind (Let r first second) = WasLet P before behind r first second
Happened P before behind (Moved position from to) = HasGoneOn P before behind position from to
Happened P before behind (Blocked position store) = WaitsFor P behind position store
Happened P before behind (Left r (Retired others)) = HasRetired P before behind r others
Happened P before behind (Left r Squashed) = HasGone P before behind r tenant.Squashed
