-- An act on the tenant at a position: that it may be done, what it leaves, and what a refusal says of the tenant.
use Rattle.std.proofs.Common.{◌≡◌, ℕ, List, Some, sym, ap, ◌∙◌}
use Rattle.std.specs.Prelude.{slice_get, slice_set}
use Rattle.inorder.specs.declared.history.Act.{Act}
use Rattle.inorder.specs.Legal.{May, MayAct, change_at, changed}
use Rattle.inorder.specs.Tenants.{Tenant}
use Rattle.inorder.specs.Unit.{at, older, replaced, younger}
use Rattle.replay.specs.declared.tenant.Standing.TheVariants.{Live as HeldLive}
use Rattle.replay.specs.declared.tenant.Tenant.{Tenant as Held}
use Rattle.replay.specs.declared.unit.Unit.{Unit as HeldUnit}
use Rattle.replay.specs.Reasons.{Is, IsHeldLive, IsInFlight, held}
use Rattle.replay.specs.Settlement.{MayReplace}
use Rattle.replay.specs.Shown.{shown, tenant_of}
use Rattle.replay.proofs.Found.{found_live, in_flight}
use Rattle.replay.proofs.Laid.{get_below, shown_at, shown_set}
use Rattle.replay.proofs.Replaced.{replaces_live}

pub is_at : (u : HeldUnit) (p : ℕ) (t : Held) (Fact : Tenant → Type 0) → slice_get u.tenants.items p ≡ Some t → Fact (tenant_of t) →
    Is (shown u.tenants.items) p Fact
is_at u p t Fact there fact = record { tenant = tenant_of t; is = shown_at u.tenants.items p t there; fact = fact }

pub may_at : (u : HeldUnit) (p : ℕ) (t : Held) (act : Act) → slice_get u.tenants.items p ≡ Some t →
    May u.program.now 0 act (younger (shown u.tenants.items) p) (tenant_of t) (older (shown u.tenants.items) p) →
    MayAct u.program.now (shown u.tenants.items) 0 p act
may_at u p t act there may = record { tenant = tenant_of t; is = shown_at u.tenants.items p t there; may = may }

-- the tenants, with another one at the position
pub left_at : (u : HeldUnit) (p : ℕ) (t new : Held) (later : List Held) (act : Act) → slice_get u.tenants.items p ≡ Some t →
    later ≡ slice_set u.tenants.items p new →
    tenant_of new ≡ changed u.program.now 0 act (tenant_of t) (older (shown u.tenants.items) p) →
    shown later ≡ change_at u.program.now (shown u.tenants.items) 0 p act (at (shown u.tenants.items) p)
left_at u p t new later act there put same =
    let ts = shown u.tenants.items in
    ap shown put
    ∙ shown_set u.tenants.items p new (get_below u.tenants.items p t there)
    ∙ ap (replaced ts p) same
    ∙ sym (ap (change_at u.program.now ts 0 p act) (shown_at u.tenants.items p t there))

pub replaces_in : (u : HeldUnit) (p : ℕ) (t new : Held) → slice_get u.tenants.items p ≡ Some t → t.standing ≡ HeldLive →
    new.station ≡ t.station → new.first ≡ t.first → new.second ≡ t.second →
    MayReplace u.program.now u.tenants.items u.tenants.from u.settled.upto p new
replaces_in u p t new there live station first second =
    replaces_live u.program.now u.tenants.items u.tenants.from u.settled p t new u.settles u.drops there live station first second

-- it is in flight, and so is another one, which stands where it stands to it
pub both_in_flight : (u : HeldUnit) (p : ℕ) (t : Held) (q : ℕ) (Stands : Type 0) → slice_get u.tenants.items p ≡ Some t → t.standing ≡ HeldLive →
    Stands → IsHeldLive (held u.tenants.items q) →
    IsInFlight (shown u.tenants.items) p × Stands × IsInFlight (shown u.tenants.items) q
both_in_flight u p t q Stands there live stands found =
    (in_flight u.tenants.items p t there live, stands, found_live u.tenants.items q found)
