-- The turns of the one-thread program on a mispredicted branch, as a whole legal run.
use Rattle.std.proofs.Common.{◌≡◌, List, [], ◌∷◌, replicate, refl}
use Rattle.instructions.specs.Operations.{checked_address, computed_by, jump_target, loaded}
use Rattle.instructions.specs.Programs.{Program, instr_at}
use Rattle.instructions.specs.declared.op.Op.TheVariants.{Beq, Break, Lw}
use Rattle.inorder.specs.declared.history.Act.TheVariants.{Claim, Finish, Mend, Retire, Squash}
use Rattle.inorder.specs.declared.history.Step.TheVariants.{Let, On}
use Rattle.inorder.specs.declared.history.Supply.TheVariants.{Known}
use Rattle.inorder.specs.Committed.{committed}
use Rattle.inorder.specs.Legal.{AreAllowed, Taken, reached}
use Rattle.inorder.proofs.Runs.Decided.{given}
use Rattle.inorder.proofs.Runs.DecidedSteps.{are_allowed}
use Rattle.inorder.proofs.Runs.Examples.{four_stations, instr, program, taken}

-- beq $0,$0,E / lw $1,1($0) / E: break
abbrev skips : Program
skips =
    program (instr Beq 0 0 0 0x400008 ∷ instr Lw 1 0 0 1 ∷ instr Break 0 0 0 0 ∷ [])

-- Let, Let, Let, Ran: the branch is a miss
abbrev four_turns : List Taken
four_turns =
    taken 2 (On 0 Finish) ∷
    taken 2 (On 0 Claim) ∷
    taken 0 (Let 2 0x40000c (Known 0) (Known 0)) ∷
    taken 0 (Let 1 0x400008 (Known 0) (Known 0)) ∷
    taken 0 (Let 0 0x400004 (Known 0) (Known 0)) ∷
    []

four_turns_allowed : AreAllowed skips four_stations four_turns
unfolding instr_at computed_by jump_target checked_address loaded
four_turns_allowed = given (are_allowed skips four_stations four_turns) refl

-- Recovered: the two on the wrong path are squashed, the youngest first, and the branch is mended
abbrev recovery_turn : List Taken
recovery_turn =
    taken 0 (On 0 Mend) ∷
    taken 0 (On 1 Squash) ∷
    taken 0 (On 2 Squash) ∷
    four_turns

recovery_turn_allowed : AreAllowed skips four_stations recovery_turn
unfolding instr_at computed_by jump_target checked_address loaded
recovery_turn_allowed = given (are_allowed skips four_stations recovery_turn) refl

-- Let, Ran, Retired, and the turn that ends the unit
abbrev last_turns : List Taken
last_turns =
    taken 1 (On 3 (Retire 0)) ∷
    taken 1 (On 0 (Retire 0)) ∷
    taken 2 (On 3 Finish) ∷
    taken 2 (On 3 Claim) ∷
    taken 0 (Let 2 0x40000c (Known 0) (Known 0)) ∷
    recovery_turn

last_turns_allowed : AreAllowed skips four_stations last_turns
unfolding instr_at computed_by jump_target checked_address loaded
last_turns_allowed = given (are_allowed skips four_stations last_turns) refl

turns_committed : committed skips (reached skips four_stations last_turns).tenants ≡
    record { registers = replicate 34 0; memory = []; pc = 0x00400008; count = 1 }
unfolding instr_at computed_by jump_target checked_address loaded
turns_committed = refl
