-- What a recovery leaves of the path.
use Rattle.std.specs.Prelude.{◌≡◌, ℕ, List, [], ◌∷◌, length, ◌==◌, if◌then◌else◌}
use Rattle.instructions.specs.Programs.{Program}
use Rattle.instructions.specs.declared.op.Half.TheVariants.{Low}
use Rattle.inorder.specs.declared.history.Entry.{Entry}
use Rattle.inorder.specs.Callers.{IsMissing}
use Rattle.inorder.specs.History.{unit_of}
use Rattle.instructions.specs.Histories.{StartsWith}
use Rattle.inorder.specs.Replies.{Has}
use Rattle.inorder.specs.Tenants.{Tenant}
use Rattle.inorder.specs.Unit.{Sizes, creator, front_half, front_pc}
use Rattle.front.specs.Recoveries.{MissIsMended}

-- The tenants up to position p, the one there among them
abbrev pub up_to : List Tenant → ℕ → List Tenant
up_to [] p = []
up_to (t ∷ ts) p = if p == length ts then t ∷ ts else up_to ts p

-- At a moment of the call the tenant at position p was a miss. The path goes on where that one did, and each
-- register is created by whom it was among the tenants up to the miss, as the call found them
pub record GoesOnBehindMiss (P : Program) (C : Sizes) (old new : List Entry) (p : ℕ) : Type 0 where
  pub next : ℕ
  pub point : List Entry
  pub since : StartsWith point old
  pub until : StartsWith new point
  pub miss : Has (unit_of P C point) p (IsMissing next)
  pub pc : front_pc (unit_of P C new).tenants ≡ next
  pub half : front_half P (unit_of P C new).tenants ≡ Low
  pub creators : (r : ℕ) → creator P (unit_of P C new).tenants r ≡
      creator P (up_to (unit_of P C old).tenants p) r

-- Each recovery that has mended a miss leaves the path so
abbrev pub RecoveriesLeave : Type 0
RecoveriesLeave =
    (P : Program) (C : Sizes) (old new : List Entry) (station squashed : ℕ) →
    (m : MissIsMended P C old new station squashed) → GoesOnBehindMiss P C old new m.p
