-- The acts of speculation: only a live tenant has them.
use Rattle.std.proofs.Common.{◌≡◌, List}
use Rattle.instructions.specs.Programs.{Program}
use Rattle.inorder.specs.declared.history.Speculation.{Speculation}
use Rattle.inorder.specs.declared.history.Speculation.TheVariants.{Confirm, Flush, Guess}
use Rattle.inorder.specs.Speculation.{MaySpeculate}
use Rattle.inorder.specs.Tenants.{Live, Tenant}

pub speculates_live : (P : Program) (s : Speculation) (ys : List Tenant) (t : Tenant) (ts : List Tenant) → MaySpeculate P s ys t ts → t.standing ≡ Live
speculates_live P (Guess v) ys t ts m = m.live
speculates_live P Confirm ys t ts m = m.live
speculates_live P Flush ys t ts m = m.live
