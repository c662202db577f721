-- Memory as the tenants before one leave it, where it is to be sure or not.
use Rattle.std.specs.Prelude.{ℕ, Bool, true, false, ◌&&◌, List, Option, None, if◌then◌else◌}
use Rattle.instructions.specs.Programs.{Program}
use Rattle.inorder.specs.Memory.{byte_after, byte_at, lacks_address, stored, sure_byte_at}
use Rattle.inorder.specs.Tenants.{Tenant}

-- The byte at x; where it is to be sure, none that a store can still change
abbrev pub byte_by : Bool → Program → List Tenant → ℕ → Option ℕ
byte_by false P ts x = byte_at P ts x
byte_by true P ts x = sure_byte_at P ts x

-- The byte at x behind one tenant more, where it was `before`
abbrev pub byte_more : Bool → Program → Tenant → ℕ → Option ℕ → Option ℕ
byte_more sure P t x before =
    if (sure && lacks_address P t) then None else byte_after (stored P t) x before
