-- Between the two halves of an instruction: what the first has made waits for the second.
use Rattle.std.specs.Prelude.{ℕ, Bool, true, false, List, [], ◌∷◌, Option, Some, None, unwrap_or}
use Rattle.instructions.specs.Programs.{Program}
use Rattle.instructions.specs.declared.op.Half.{Half}
use Rattle.instructions.specs.declared.op.Half.TheVariants.{High, Low}
use Rattle.inorder.specs.Committed.{commits}
use Rattle.inorder.specs.Tenants.{Tenant, is_first}

-- The half that comes next where nobody is live: the second, where its first has retired
abbrev pub waiting_half : Option ℕ → Half
waiting_half None = Low
waiting_half (Some v) = High

-- What waits after a tenant, by whether it commits, whether it is a first half, what it made, and
-- what waits before it
abbrev pub low_after : Bool → Bool → Option ℕ → Option ℕ → Option ℕ
low_after false first made before = before
low_after true true made before = Some (unwrap_or made 0)
low_after true false made before = None

-- What a first half has made that has retired, while its second has not
abbrev pub low_of : Program → List Tenant → Option ℕ
low_of P [] = None
low_of P (t ∷ ts) = low_after (commits t) (is_first P t) t.made (low_of P ts)
