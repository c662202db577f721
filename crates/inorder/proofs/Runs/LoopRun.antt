-- A loop on two stations, with two mispredictions, as a whole legal run.
use Rattle.std.proofs.Common.{◌≡◌, List, [], ◌∷◌, replicate, Some, refl}
use Rattle.instructions.specs.declared.stop.Stop.TheVariants.{Break as BreakStop}
use Rattle.instructions.specs.Operations.{checked_address, computed_by, jump_target, loaded}
use Rattle.instructions.specs.Programs.{Program, instr_at}
use Rattle.instructions.specs.declared.op.Op.TheVariants.{Addiu, Bne, Break}
use Rattle.inorder.specs.declared.history.Act.TheVariants.{Claim, Deliver, Finish, Link, Mend, Retire, Squash}
use Rattle.inorder.specs.declared.history.Source.TheVariants.{First}
use Rattle.inorder.specs.declared.history.Step.TheVariants.{Let, On}
use Rattle.inorder.specs.declared.history.Supply.TheVariants.{From, Known}
use Rattle.inorder.specs.Committed.{committed}
use Rattle.inorder.specs.Legal.{AreAllowed, Taken, reached}
use Rattle.inorder.specs.Runs.{after, stop}
use Rattle.inorder.proofs.Runs.Decided.{given}
use Rattle.inorder.proofs.Runs.DecidedSteps.{are_allowed}
use Rattle.inorder.proofs.Runs.Examples.{instr, program, taken, two_stations}

-- addiu $1,$0,3 / L: addiu $1,$1,-1 / bne $1,$0,L / break
abbrev pub loop : Program
loop =
    program (instr Addiu 1 0 0 3 ∷ instr Addiu 1 1 0 0xffffffff ∷ instr Bne 0 1 0 0x400004
    ∷ instr Break 0 0 0 0 ∷ [])

-- The counter is 3, then 2; the second instruction waited for the first
abbrev pub counted_to_two : List Taken
counted_to_two =
    taken 1 (On 1 (Retire 0)) ∷
    taken 1 (On 0 (Retire 0)) ∷
    taken 2 (On 1 Finish) ∷
    taken 2 (On 1 Claim) ∷
    taken 2 (On 1 (Deliver First)) ∷
    taken 2 (On 0 Finish) ∷
    taken 2 (On 0 Claim) ∷
    taken 0 (On 1 (Link First)) ∷
    taken 0 (Let 1 0x400008 From (Known 0)) ∷
    taken 0 (Let 0 0x400004 (Known 0) (Known 0)) ∷
    []

counted_to_two_allowed : AreAllowed loop two_stations counted_to_two
unfolding instr_at computed_by jump_target checked_address loaded
counted_to_two_allowed = given (are_allowed loop two_stations counted_to_two) refl

-- The branch was predicted not taken, and is mended; the break after it is squashed
abbrev pub taken_once : List Taken
taken_once =
    taken 1 (On 2 (Retire 0)) ∷
    taken 0 (On 2 Mend) ∷
    taken 0 (On 3 Squash) ∷
    taken 2 (On 2 Finish) ∷
    taken 2 (On 2 Claim) ∷
    taken 3 (On 3 Finish) ∷
    taken 3 (On 3 Claim) ∷
    taken 0 (Let 3 0x400010 (Known 0) (Known 0)) ∷
    taken 0 (Let 2 0x40000c (Known 2) (Known 0)) ∷
    counted_to_two

taken_once_allowed : AreAllowed loop two_stations taken_once
unfolding instr_at computed_by jump_target checked_address loaded
taken_once_allowed = given (are_allowed loop two_stations taken_once) refl

-- A second time round, where the branch waits for the counter
abbrev pub counted_to_one : List Taken
counted_to_one =
    taken 1 (On 4 (Retire 0)) ∷
    taken 3 (On 5 Finish) ∷
    taken 3 (On 5 Claim) ∷
    taken 2 (On 5 (Deliver First)) ∷
    taken 2 (On 4 Finish) ∷
    taken 2 (On 4 Claim) ∷
    taken 0 (On 5 (Link First)) ∷
    taken 0 (Let 2 0x40000c From (Known 0)) ∷
    taken 0 (Let 1 0x400008 (Known 2) (Known 0)) ∷
    taken_once

counted_to_one_allowed : AreAllowed loop two_stations counted_to_one
unfolding instr_at computed_by jump_target checked_address loaded
counted_to_one_allowed = given (are_allowed loop two_stations counted_to_one) refl

-- The second misprediction
abbrev pub taken_twice : List Taken
taken_twice =
    taken 1 (On 5 (Retire 0)) ∷
    taken 0 (On 5 Mend) ∷
    taken 0 (On 6 Squash) ∷
    taken 0 (Let 3 0x400010 (Known 0) (Known 0)) ∷
    counted_to_one

taken_twice_allowed : AreAllowed loop two_stations taken_twice
unfolding instr_at computed_by jump_target checked_address loaded
taken_twice_allowed = given (are_allowed loop two_stations taken_twice) refl

-- The branch is not taken, as predicted, and the break retires
abbrev pub left_the_loop : List Taken
left_the_loop =
    taken 1 (On 9 (Retire 0)) ∷
    taken 2 (On 9 Finish) ∷
    taken 2 (On 9 Claim) ∷
    taken 1 (On 8 (Retire 0)) ∷
    taken 0 (Let 3 0x400010 (Known 0) (Known 0)) ∷
    taken 1 (On 7 (Retire 0)) ∷
    taken 2 (On 8 Finish) ∷
    taken 2 (On 8 Claim) ∷
    taken 2 (On 8 (Deliver First)) ∷
    taken 2 (On 7 Finish) ∷
    taken 2 (On 7 Claim) ∷
    taken 0 (On 8 (Link First)) ∷
    taken 0 (Let 2 0x40000c From (Known 0)) ∷
    taken 0 (Let 1 0x400008 (Known 1) (Known 0)) ∷
    taken_twice

left_the_loop_allowed : AreAllowed loop two_stations left_the_loop
unfolding instr_at computed_by jump_target checked_address loaded
left_the_loop_allowed = given (are_allowed loop two_stations left_the_loop) refl

-- Seven instructions have committed, the counter is 0, and the pc is that of the break
loop_committed : committed loop (reached loop two_stations left_the_loop).tenants ≡
    record { registers = replicate 34 0; memory = []; pc = 0x0040000c; count = 7 }
unfolding instr_at computed_by jump_target checked_address loaded
loop_committed = refl

loop_in_order : after loop 7 ≡ Some (committed loop (reached loop two_stations left_the_loop).tenants)
unfolding instr_at computed_by jump_target checked_address loaded
loop_in_order = refl

loop_stops : stop loop 7 ≡ Some BreakStop
unfolding instr_at computed_by jump_target checked_address loaded
loop_stops = refl
