-- Tenants in flight, as a relation names them: each by the step's own constructor, on the unit in which it was let.
use Rattle.std.specs.Prelude.{◌≡◌, ◌^◌, ◌<◌, IfSome, ℕ, length, Option, Some, None}
use Rattle.instructions.specs.Instruction.{destination, first_of, fixed_next, is_first_half, second_of, width}
use Rattle.instructions.specs.Operations.{AddressIsInside, outcome_of}
use Rattle.instructions.specs.Programs.{Program, instr_at}
use Rattle.instructions.specs.declared.instr.Instr.{Instr}
use Rattle.instructions.specs.declared.op.Half.{Half}
use Rattle.instructions.specs.declared.stop.Outcome.{Outcome}
use Rattle.inorder.specs.declared.history.Supply.TheVariants.{Known}
use Rattle.inorder.specs.Moves.{with_let}
use Rattle.inorder.specs.Steps.{new_tenant}
use Rattle.inorder.specs.Tenants.{Done, Tenant, behind_by, next_by}
use Rattle.inorder.specs.Unit.{Sizes, UpdateUnit, half_after}
use Rattle.own_model.specs.Settled.{Settled}
use Rattle.own_model.specs.State.{IsAt, NextIsWord, half_in, value_in}
use Rattle.own_model.specs.declared.state.ArchitecturalState.{ArchitecturalState}
use Rattle.own_model.specs.declared.state.Second.{Second}

-- Instruction k as it is let in the unit U, where its sources have the values x and y
abbrev pub let_known : Program → Sizes → UpdateUnit → (k predicted x y : ℕ) → Tenant
let_known P C U k predicted x y = new_tenant P C U k predicted (Known x) (Known y)

-- Instruction i, of index k, as it is let with what its sources have in a state
abbrev pub let_in : ArchitecturalState → Program → Sizes → UpdateUnit → Instr → (k predicted : ℕ) → Tenant
let_in a P C U i k predicted = let_known P C U k predicted (value_in a (first_of i)) (value_in a (second_of i))

-- A tenant that is done with the value v
abbrev pub done_with : ℕ → Tenant → Tenant
done_with v t = record t { fate = Done v; made = Some v }

-- The half that comes after that of instruction i which is next
abbrev pub second_half : ArchitecturalState → Instr → Half
second_half a i = half_after (is_first_half i.op (half_in a))

-- Instruction i is next, and j comes after it if i goes on at pc, which may be predicted; j reads nothing that i
-- writes, and has the outcome o
pub record IsSecond (P : Program) (a : ArchitecturalState) (i : Instr) (pc : ℕ) (j : Instr) (o : Outcome) : Type 0 where
  pub is_next : instr_at P a.committed.pc ≡ Some i
  pub small : pc < 2 ^ 32
  pub fixed : IfSome (fixed_next i (half_in a) a.committed.pc) (λ x. pc ≡ x)
  pub is_after : instr_at P pc ≡ Some j
  pub first : destination i (half_in a) ≡ first_of j → first_of j ≡ 0
  pub second : destination i (half_in a) ≡ second_of j → second_of j ≡ 0
  pub outcome : outcome_of j (second_half a i) pc (value_in a (first_of j)) (value_in a (second_of j)) (length P.bytes) ≡ o
  pub word : NextIsWord o

-- This was executed before the one in front of it
pub record IsSecondOf (P : Program) (a : ArchitecturalState) (s : Second) : Type 0 where
  pub oldest : Instr
  pub is : IsSecond P a oldest s.pc s.instr s.outcome
  pub inside : AddressIsInside s.outcome (width s.instr.op) (length P.bytes)

-- The unit with i and then j let, i with the next pc `pc`, j with what it computes; j is by now as `since` has it
abbrev pub with_oldest : ArchitecturalState → Program → Sizes → UpdateUnit → Instr → (k pc : ℕ) → UpdateUnit
with_oldest a P C below i k pc = with_let below (let_in a P C below i k pc)

abbrev pub second_goes : ArchitecturalState → Instr → ℕ → Instr → Outcome → ℕ
second_goes a i pc j o = next_by (behind_by (is_first_half j.op (second_half a i)) pc) o

abbrev pub two_in_flight : ArchitecturalState → Program → Sizes → UpdateUnit → Instr → (k pc : ℕ) → Instr → ℕ → Outcome → (Tenant → Tenant) → UpdateUnit
two_in_flight a P C below i k pc j n o since =
    with_let (with_oldest a P C below i k pc)
    (since (let_in a P C (with_oldest a P C below i k pc) j n (second_goes a i pc j o)))

-- In the unit U two are live: i as it is let, and after it j, which is by now as `since` has it
pub record TwoFly (P : Program) (C : Sizes) (a : ArchitecturalState) (i : Instr) (pc : ℕ) (j : Instr) (o : Outcome)
    (since : Tenant → Tenant) (U : UpdateUnit) : Type 0 where
  pub below : UpdateUnit
  pub settled : Settled P a below.tenants
  pub second : IsSecond P a i pc j o
  pub k : ℕ
  pub oldest_at : IsAt P a.committed.pc k i
  pub n : ℕ
  pub second_at : IsAt P pc n j
  pub is : U ≡ two_in_flight a P C below i k pc j n o since

-- A model that has one more in flight, or none, stands for these units: with none all have left
abbrev pub StandsBy : {X : Type 0} → (X → UpdateUnit → Type 0) → Option X → Program → ArchitecturalState → UpdateUnit → Type 0
StandsBy Flies None P a U = Settled P a U.tenants
StandsBy Flies (Some x) P a U = Flies x U

-- The state of such a model after a turn: the oldest has retired, and what comes of the other
abbrev pub after_turn : {X : Type 0} → (X → ArchitecturalState → ArchitecturalState) → Option X → ArchitecturalState → ArchitecturalState
after_turn rest None a = a
after_turn rest (Some x) a = rest x a
