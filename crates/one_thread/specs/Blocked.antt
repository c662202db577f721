-- The loads that the queue of a unit blocks.
use Rattle.std.specs.Prelude.{⊤, ◌≡◌, ◌≢◌, ℕ, List, [], ◌∷◌}
use Rattle.instructions.specs.Instruction.{width}
use Rattle.instructions.specs.Programs.{Program}
use Rattle.instructions.specs.declared.op.Kind.TheVariants.{Loads}
use Rattle.inorder.specs.Loads.{queue_of}
use Rattle.inorder.specs.Tenants.{Addr, Live, Tenant, instr, kind_of}
use Rattle.lsq.specs.declared.answer.Answer.TheVariants.{Blocked}
use Rattle.lsq.specs.LoadRule.{answer_over}

-- A live load with its address is blocked by one of the live memory instructions before it
abbrev pub IsBlocked : Program → List Tenant → Tenant → Type 0
IsBlocked P ts t =
    t.standing ≡ Live → kind_of P t ≡ Loads → (a : ℕ) → t.fate ≡ Addr a →
    (place : ℕ) × (answer_over (queue_of P ts) a (width (instr P t).op) ≡ Blocked place)

-- Each of them is blocked by those before it
abbrev pub AreBlocked : Program → List Tenant → Type 0
AreBlocked P [] = ⊤
AreBlocked P (t ∷ ts) = IsBlocked P ts t × AreBlocked P ts

-- The rule blocks the load t by none of the live memory instructions before it
abbrev pub IsUnblocked : Program → List Tenant → Tenant → Type 0
IsUnblocked P ts t =
    (a place : ℕ) → t.fate ≡ Addr a →
    answer_over (queue_of P ts) a (width (instr P t).op) ≢ Blocked place
