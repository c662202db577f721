-- A fault on the wrong path, squashed by recovery, as a whole legal run.
use Rattle.std.proofs.Common.{◌≡◌, List, [], ◌∷◌, replicate, Some, refl}
use Rattle.instructions.specs.declared.stop.Stop.TheVariants.{Break as BreakStop}
use Rattle.instructions.specs.Operations.{checked_address, computed_by, jump_target, loaded}
use Rattle.instructions.specs.Programs.{Program, instr_at}
use Rattle.instructions.specs.declared.op.Op.TheVariants.{Beq, Break, Lw}
use Rattle.inorder.specs.declared.history.Act.TheVariants.{Claim, Finish, Mend, Retire, Squash}
use Rattle.inorder.specs.declared.history.Step.TheVariants.{Let, On}
use Rattle.inorder.specs.declared.history.Supply.TheVariants.{Known}
use Rattle.inorder.specs.Committed.{committed}
use Rattle.inorder.specs.Legal.{AreAllowed, Taken, reached}
use Rattle.inorder.specs.Runs.{stop}
use Rattle.inorder.proofs.Runs.Decided.{given}
use Rattle.inorder.proofs.Runs.DecidedSteps.{are_allowed}
use Rattle.inorder.proofs.Runs.Examples.{four_stations, instr, program, taken}

-- beq $0,$0,E / lw $1,1($0) / E: break
abbrev pub skips : Program
skips =
    program (instr Beq 0 0 0 0x400008 ∷ instr Lw 1 0 0 1 ∷ instr Break 0 0 0 0 ∷ [])

-- Let, Let, Let: the branch is predicted not taken
abbrev pub all_let : List Taken
all_let =
    taken 0 (Let 2 0x40000c (Known 0) (Known 0)) ∷
    taken 0 (Let 1 0x400008 (Known 0) (Known 0)) ∷
    taken 0 (Let 0 0x400004 (Known 0) (Known 0)) ∷
    []

all_let_allowed : AreAllowed skips four_stations all_let
unfolding instr_at computed_by jump_target checked_address loaded
all_let_allowed = given (are_allowed skips four_stations all_let) refl

-- The load after the branch has stopped, its address being odd, and the branch is a miss
abbrev pub fault_on_the_wrong_path : List Taken
fault_on_the_wrong_path =
    taken 2 (On 0 Finish) ∷
    taken 2 (On 0 Claim) ∷
    taken 2 (On 1 Finish) ∷
    taken 2 (On 1 Claim) ∷
    all_let

fault_on_the_wrong_path_allowed : AreAllowed skips four_stations fault_on_the_wrong_path
unfolding instr_at computed_by jump_target checked_address loaded
fault_on_the_wrong_path_allowed = given (are_allowed skips four_stations fault_on_the_wrong_path) refl

-- Recovered: the younger two are squashed, and the branch is mended
abbrev pub recovered : List Taken
recovered =
    taken 0 (On 0 Mend) ∷
    taken 0 (On 1 Squash) ∷
    taken 0 (On 2 Squash) ∷
    fault_on_the_wrong_path

recovered_allowed : AreAllowed skips four_stations recovered
unfolding instr_at computed_by jump_target checked_address loaded
recovered_allowed = given (are_allowed skips four_stations recovered) refl

-- Let, Ran, Retired
abbrev pub let_again : List Taken
let_again =
    taken 1 (On 0 (Retire 0)) ∷
    taken 2 (On 3 Finish) ∷
    taken 2 (On 3 Claim) ∷
    taken 0 (Let 2 0x40000c (Known 0) (Known 0)) ∷
    recovered

let_again_allowed : AreAllowed skips four_stations let_again
unfolding instr_at computed_by jump_target checked_address loaded
let_again_allowed = given (are_allowed skips four_stations let_again) refl

-- Over: the break on the right path retires
abbrev pub ended : List Taken
ended =
    taken 1 (On 3 (Retire 0)) ∷
    let_again

ended_allowed : AreAllowed skips four_stations ended
unfolding instr_at computed_by jump_target checked_address loaded
ended_allowed = given (are_allowed skips four_stations ended) refl

-- The fault on the wrong path has left nothing: one instruction has committed
skips_committed : committed skips (reached skips four_stations ended).tenants ≡
    record { registers = replicate 34 0; memory = []; pc = 0x00400008; count = 1 }
unfolding instr_at computed_by jump_target checked_address loaded
skips_committed = refl

skips_stops : stop skips 1 ≡ Some BreakStop
unfolding instr_at computed_by jump_target checked_address loaded
skips_stops = refl
