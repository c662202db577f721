-- Multiplications and divisions, computed by the definitions alone: in the in-order machine, and as two tenants of a unit.
use Rattle.std.proofs.Common.{◌≡◌, List, [], ◌∷◌, replicate, ◌++◌, Some, refl}
use Rattle.instructions.specs.declared.end.Ending.TheVariants.{Stop as ByStop, Limit as ByLimit}
use Rattle.instructions.specs.declared.op.Half.TheVariants.{High}
use Rattle.instructions.specs.declared.op.Op.TheVariants.{Addiu, Break, Div, Divu, Mfhi, Mflo, Mult, Multu}
use Rattle.instructions.specs.declared.stop.Stop.TheVariants.{Break as BreakStop}
use Rattle.instructions.specs.Operations.{computed_by}
use Rattle.instructions.specs.Programs.{Program, instr_at}
use Rattle.inorder.specs.declared.history.Act.TheVariants.{Claim, Finish, Retire}
use Rattle.inorder.specs.declared.history.Step.TheVariants.{Let, On}
use Rattle.inorder.specs.declared.history.Supply.TheVariants.{Known}
use Rattle.inorder.specs.Committed.{ahead, committed}
use Rattle.inorder.specs.Legal.{AreAllowed, Taken, reached}
use Rattle.inorder.specs.Runs.{after, end_of}
use Rattle.inorder.specs.Unit.{front_half, front_pc}
use Rattle.inorder.proofs.Runs.Decided.{given}
use Rattle.inorder.proofs.Runs.DecidedSteps.{are_allowed}
use Rattle.inorder.proofs.Runs.Examples.{four_stations, instr, program, taken}

-- ---- in order

-- addiu $1,$0,-6 / addiu $2,$0,4 / mult $1,$2 / mflo $3 / mfhi $4 / break
abbrev product_of_signs : Program
product_of_signs =
    program (instr Addiu 1 0 0 0xfffffffa ∷ instr Addiu 2 0 0 4 ∷ instr Mult 0 1 2 0
    ∷ instr Mflo 3 32 0 0 ∷ instr Mfhi 4 33 0 0 ∷ instr Break 0 0 0 0 ∷ [])

product_of_signs_ends : end_of product_of_signs 100 ≡ (
  ByStop BreakStop,
  record {
    registers = 0 ∷ 0xfffffffa ∷ 4 ∷ 0xffffffe8 ∷ 0xffffffff ∷ (replicate 27 0 ++ (0xffffffe8 ∷ 0xffffffff ∷ []));
    memory = [];
    pc = 0x00400014;
    count = 5;
  },
)
unfolding instr_at computed_by
product_of_signs_ends = refl

-- addiu $1,$0,-7 / addiu $2,$0,2 / div $1,$2 / break
quotient_towards_zero : end_of (program (instr Addiu 1 0 0 0xfffffff9 ∷ instr Addiu 2 0 0 2 ∷ instr Div 0 1 2 0
    ∷ instr Break 0 0 0 0 ∷ [])) 100 ≡ (
      ByStop BreakStop,
      record {
        registers = 0 ∷ 0xfffffff9 ∷ 2 ∷ (replicate 29 0 ++ (0xfffffffd ∷ 0xffffffff ∷ []));
        memory = [];
        pc = 0x0040000c;
        count = 3;
      },
    )
unfolding instr_at computed_by
quotient_towards_zero = refl

-- addiu $1,$0,9 / divu $1,$0 / break
zero_divisor : end_of (program (instr Addiu 1 0 0 9 ∷ instr Divu 0 1 0 0 ∷ instr Break 0 0 0 0 ∷ [])) 100
    ≡ (
      ByStop BreakStop,
      record {
        registers = 0 ∷ 9 ∷ (replicate 30 0 ++ (0 ∷ 9 ∷ []));
        memory = [];
        pc = 0x00400008;
        count = 2;
      },
    )
unfolding instr_at computed_by
zero_divisor = refl

-- addiu $1,$0,-1 / multu $1,$1 / break
abbrev squares : Program
squares = program (instr Addiu 1 0 0 0xffffffff ∷ instr Multu 0 1 1 0 ∷ instr Break 0 0 0 0 ∷ [])

squares_ends : end_of squares 100 ≡ (
  ByStop BreakStop,
  record {
    registers = 0 ∷ 0xffffffff ∷ (replicate 30 0 ++ (1 ∷ 0xfffffffe ∷ []));
    memory = [];
    pc = 0x00400008;
    count = 2;
  },
)
unfolding instr_at computed_by
squares_ends = refl

-- addiu $1,$0,3 / mult $1,$1 / break, with limit 1: the limit is before both halves
limit_before_a_pair : end_of (program (instr Addiu 1 0 0 3 ∷ instr Mult 0 1 1 0 ∷ instr Break 0 0 0 0 ∷ [])) 1
    ≡ (ByLimit, record { registers = 0 ∷ 3 ∷ replicate 32 0; memory = []; pc = 0x00400004; count = 1 })
unfolding instr_at computed_by
limit_before_a_pair = refl

-- ---- in a unit

-- the first instruction has retired, and so has the first half of the second
abbrev first_half_retired : List Taken
first_half_retired =
    taken 1 (On 1 (Retire 0)) ∷ taken 2 (On 1 Finish) ∷ taken 2 (On 1 Claim)
    ∷ taken 0 (Let 1 0x00400004 (Known 0xffffffff) (Known 0xffffffff))
    ∷ taken 1 (On 0 (Retire 0)) ∷ taken 2 (On 0 Finish) ∷ taken 2 (On 0 Claim)
    ∷ taken 0 (Let 0 0x00400004 (Known 0) (Known 0)) ∷ []

first_half_retired_allowed : AreAllowed squares four_stations first_half_retired
unfolding instr_at computed_by
first_half_retired_allowed = given (are_allowed squares four_stations first_half_retired) refl

-- the state before the pair is committed
half_committed : Some (committed squares (reached squares four_stations first_half_retired).tenants) ≡ after squares 1
unfolding instr_at computed_by
half_committed = refl

-- and LO waits ahead of it
half_ahead : (ahead squares (reached squares four_stations first_half_retired).tenants).registers
    ≡ 0 ∷ 0xffffffff ∷ (replicate 30 0 ++ (1 ∷ 0 ∷ []))
unfolding instr_at computed_by
half_ahead = refl

-- the second half comes next, at the same pc
half_front : front_half squares (reached squares four_stations first_half_retired).tenants ≡ High
unfolding instr_at computed_by
half_front = refl

half_front_pc : front_pc (reached squares four_stations first_half_retired).tenants ≡ 0x00400004
unfolding instr_at computed_by
half_front_pc = refl

-- with it the pair is committed
abbrev both_retired : List Taken
both_retired =
    taken 1 (On 2 (Retire 0)) ∷ taken 2 (On 2 Finish) ∷ taken 2 (On 2 Claim)
    ∷ taken 0 (Let 1 0x00400008 (Known 0xffffffff) (Known 0xffffffff)) ∷ first_half_retired

both_retired_allowed : AreAllowed squares four_stations both_retired
unfolding instr_at computed_by
both_retired_allowed = given (are_allowed squares four_stations both_retired) refl

both_committed : Some (committed squares (reached squares four_stations both_retired).tenants) ≡ after squares 2
unfolding instr_at computed_by
both_committed = refl
