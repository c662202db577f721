use Rattle.station.proofs.OpenKept.{ready_tenants_stay}
use Rattle.station.proofs.laws.a_ready_tenant_stays.Goals as goal

pub returns : goal.returns
returns c = ready_tenants_stay
