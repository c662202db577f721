-- Speculation, as whole legal runs: a wrong guess is flushed and replayed, a load takes its value past a store of unknown
-- address, all that is live is flushed where nothing is a miss, and a value is guessed before its address.
use Rattle.std.proofs.Common.{◌≡◌, List, [], ◌∷◌, replicate, refl}
use Rattle.instructions.specs.Operations.{checked_address, computed_by, jump_target, loaded}
use Rattle.instructions.specs.Programs.{Program, instr_at}
use Rattle.instructions.specs.declared.op.Op.TheVariants.{Addiu, Addu, Break, Lw, Sw}
use Rattle.inorder.specs.declared.history.Act.TheVariants.{Claim, Deliver, Finish, Link, Load, Retire, Speculate}
use Rattle.inorder.specs.declared.history.Source.TheVariants.{First, Second}
use Rattle.inorder.specs.declared.history.Speculation.TheVariants.{Confirm, Flush, Guess}
use Rattle.inorder.specs.declared.history.Step.TheVariants.{Let, On}
use Rattle.inorder.specs.declared.history.Supply.TheVariants.{From, Known}
use Rattle.inorder.specs.Committed.{committed}
use Rattle.inorder.specs.Legal.{AreAllowed, Taken, reached}
use Rattle.inorder.specs.Unit.{Sizes}
use Rattle.inorder.proofs.Runs.Decided.{given}
use Rattle.inorder.proofs.Runs.DecidedSteps.{are_allowed}
use Rattle.inorder.proofs.Runs.Examples.{four_stations, instr, program, program_with, taken}

-- A wrong guess

-- .space 4 / addiu $1,$0,7 / sw $1,0($0) / lw $2,0($0) / addu $3,$2,$2 / break
abbrev pub doubles : Program
doubles =
    program_with (instr Addiu 1 0 0 7 ∷ instr Sw 0 0 1 0 ∷ instr Lw 2 0 0 0 ∷ instr Addu 3 2 2 0 ∷ instr Break 0 0 0 0 ∷ [])
    (replicate 4 0)

-- The load takes 0 from memory ahead of the store, and the sum is made of it. Then the store has its address and data
abbrev pub guessed_wrong : List Taken
guessed_wrong =
    taken 2 (On 1 Finish) ∷
    taken 2 (On 1 Claim) ∷
    taken 2 (On 1 (Deliver Second)) ∷
    taken 2 (On 0 Finish) ∷
    taken 2 (On 0 Claim) ∷
    taken 2 (On 3 Finish) ∷
    taken 2 (On 3 Claim) ∷
    taken 2 (On 3 (Deliver Second)) ∷
    taken 2 (On 3 (Deliver First)) ∷
    taken 2 (On 2 (Speculate (Guess 0))) ∷
    taken 2 (On 2 Finish) ∷
    taken 2 (On 2 Claim) ∷
    taken 0 (On 3 (Link Second)) ∷
    taken 0 (On 3 (Link First)) ∷
    taken 0 (Let 3 0x400010 From From) ∷
    taken 0 (Let 2 0x40000c (Known 0) (Known 0)) ∷
    taken 0 (On 1 (Link Second)) ∷
    taken 0 (Let 1 0x400008 (Known 0) From) ∷
    taken 0 (Let 0 0x400004 (Known 0) (Known 0)) ∷
    []

guessed_wrong_allowed : AreAllowed doubles four_stations guessed_wrong
unfolding instr_at computed_by jump_target checked_address loaded
guessed_wrong_allowed = given (are_allowed doubles four_stations guessed_wrong) refl

-- The sum and the load are flushed, and let again; now the load reads the store
abbrev pub replayed : List Taken
replayed =
    taken 1 (On 6 (Retire 0)) ∷
    taken 2 (On 6 Finish) ∷
    taken 2 (On 6 Claim) ∷
    taken 1 (On 5 (Retire 0)) ∷
    taken 2 (On 5 Finish) ∷
    taken 2 (On 5 Claim) ∷
    taken 1 (On 4 (Retire 0)) ∷
    taken 2 (On 5 (Deliver Second)) ∷
    taken 2 (On 5 (Deliver First)) ∷
    taken 1 (On 4 Load) ∷
    taken 2 (On 4 Finish) ∷
    taken 2 (On 4 Claim) ∷
    taken 0 (Let 4 0x400014 (Known 0) (Known 0)) ∷
    taken 1 (On 1 (Retire 0)) ∷
    taken 1 (On 0 (Retire 0)) ∷
    taken 0 (On 5 (Link Second)) ∷
    taken 0 (On 5 (Link First)) ∷
    taken 0 (Let 3 0x400010 From From) ∷
    taken 0 (Let 2 0x40000c (Known 0) (Known 0)) ∷
    taken 0 (On 2 (Speculate Flush)) ∷
    taken 0 (On 3 (Speculate Flush)) ∷
    guessed_wrong

replayed_allowed : AreAllowed doubles four_stations replayed
unfolding instr_at computed_by jump_target checked_address loaded
replayed_allowed = given (are_allowed doubles four_stations replayed) refl

doubles_committed : committed doubles (reached doubles four_stations replayed).tenants ≡
    record { registers = 0 ∷ 7 ∷ 7 ∷ 14 ∷ replicate 30 0; memory = 7 ∷ 0 ∷ 0 ∷ 0 ∷ []; pc = 0x00400010; count = 4 }
unfolding instr_at computed_by jump_target checked_address loaded
doubles_committed = refl

-- A load past a store of unknown address

-- .space 8 / addiu $1,$0,4 / addiu $2,$0,7 / sw $2,0($1) / sw $2,0($0) / lw $3,0($0) / break
abbrev pub passes : Program
passes =
    program_with (instr Addiu 1 0 0 4 ∷ instr Addiu 2 0 0 7 ∷ instr Sw 0 1 2 0 ∷ instr Sw 0 0 2 0 ∷ instr Lw 3 0 0 0
    ∷ instr Break 0 0 0 0 ∷ []) (replicate 8 0)

abbrev pub eight_stations : Sizes
eight_stations = record { ring = 8; queue = 4; first_tag = 1 }

-- The younger store has address and data, the older one waits for its address; the load has its own
abbrev pub older_unknown : List Taken
older_unknown =
    taken 2 (On 4 Finish) ∷
    taken 2 (On 4 Claim) ∷
    taken 2 (On 3 Finish) ∷
    taken 2 (On 3 Claim) ∷
    taken 2 (On 3 (Deliver Second)) ∷
    taken 2 (On 2 (Deliver Second)) ∷
    taken 2 (On 1 Finish) ∷
    taken 2 (On 1 Claim) ∷
    taken 0 (Let 4 0x400014 (Known 0) (Known 0)) ∷
    taken 0 (On 3 (Link Second)) ∷
    taken 0 (Let 3 0x400010 (Known 0) From) ∷
    taken 0 (On 2 (Link Second)) ∷
    taken 0 (On 2 (Link First)) ∷
    taken 0 (Let 2 0x40000c From From) ∷
    taken 0 (Let 1 0x400008 (Known 0) (Known 0)) ∷
    taken 0 (Let 0 0x400004 (Known 0) (Known 0)) ∷
    []

older_unknown_allowed : AreAllowed passes eight_stations older_unknown
unfolding instr_at computed_by jump_target checked_address loaded
older_unknown_allowed = given (are_allowed passes eight_stations older_unknown) refl

-- The load is done with the word of the younger store, and all retire in order
abbrev pub passed : List Taken
passed =
    taken 1 (On 5 (Retire 0)) ∷
    taken 2 (On 5 Finish) ∷
    taken 2 (On 5 Claim) ∷
    taken 0 (Let 5 0x400018 (Known 0) (Known 0)) ∷
    taken 1 (On 4 (Retire 0)) ∷
    taken 1 (On 3 (Retire 0)) ∷
    taken 1 (On 2 (Retire 0)) ∷
    taken 2 (On 2 Finish) ∷
    taken 2 (On 2 Claim) ∷
    taken 2 (On 2 (Deliver First)) ∷
    taken 1 (On 1 (Retire 0)) ∷
    taken 1 (On 0 (Retire 0)) ∷
    taken 2 (On 0 Finish) ∷
    taken 2 (On 0 Claim) ∷
    taken 1 (On 4 (Speculate Confirm)) ∷
    taken 1 (On 4 (Speculate (Guess 7))) ∷
    older_unknown

passed_allowed : AreAllowed passes eight_stations passed
unfolding instr_at computed_by jump_target checked_address loaded
passed_allowed = given (are_allowed passes eight_stations passed) refl

passes_committed : committed passes (reached passes eight_stations passed).tenants ≡
    record {
      registers = 0 ∷ 4 ∷ 7 ∷ 7 ∷ replicate 30 0;
      memory = 7 ∷ 0 ∷ 0 ∷ 0 ∷ 7 ∷ 0 ∷ 0 ∷ 0 ∷ [];
      pc = 0x00400014;
      count = 5;
    }
unfolding instr_at computed_by jump_target checked_address loaded
passes_committed = refl

-- A flush at an interrupt

-- addiu $1,$0,1 / addiu $1,$1,1 / break
abbrev pub counts : Program
counts = program (instr Addiu 1 0 0 1 ∷ instr Addiu 1 1 0 1 ∷ instr Break 0 0 0 0 ∷ [])

-- One instruction has retired. The two after it are flushed, though one of them is done, and nobody is live
abbrev pub interrupted : List Taken
interrupted =
    taken 0 (On 1 (Speculate Flush)) ∷
    taken 0 (On 2 (Speculate Flush)) ∷
    taken 1 (On 0 (Retire 0)) ∷
    taken 2 (On 2 Finish) ∷
    taken 2 (On 2 Claim) ∷
    taken 0 (Let 2 0x40000c (Known 0) (Known 0)) ∷
    taken 0 (Let 1 0x400008 (Known 1) (Known 0)) ∷
    taken 2 (On 0 Finish) ∷
    taken 2 (On 0 Claim) ∷
    taken 0 (Let 0 0x400004 (Known 0) (Known 0)) ∷
    []

interrupted_allowed : AreAllowed counts four_stations interrupted
unfolding instr_at computed_by jump_target checked_address loaded
interrupted_allowed = given (are_allowed counts four_stations interrupted) refl

-- What is committed is that of one instruction, and what comes next is the second
interrupted_committed : committed counts (reached counts four_stations interrupted).tenants ≡
    record { registers = 0 ∷ 1 ∷ replicate 32 0; memory = []; pc = 0x00400004; count = 1 }
unfolding instr_at computed_by jump_target checked_address loaded
interrupted_committed = refl

-- It goes on from there
abbrev pub went_on : List Taken
went_on =
    taken 1 (On 4 (Retire 0)) ∷
    taken 2 (On 4 Finish) ∷
    taken 2 (On 4 Claim) ∷
    taken 1 (On 3 (Retire 0)) ∷
    taken 2 (On 3 Finish) ∷
    taken 2 (On 3 Claim) ∷
    taken 0 (Let 2 0x40000c (Known 0) (Known 0)) ∷
    taken 0 (Let 1 0x400008 (Known 1) (Known 0)) ∷
    interrupted

went_on_allowed : AreAllowed counts four_stations went_on
unfolding instr_at computed_by jump_target checked_address loaded
went_on_allowed = given (are_allowed counts four_stations went_on) refl

counts_committed : committed counts (reached counts four_stations went_on).tenants ≡
    record { registers = 0 ∷ 2 ∷ replicate 32 0; memory = []; pc = 0x00400008; count = 2 }
unfolding instr_at computed_by jump_target checked_address loaded
counts_committed = refl

-- A guess before the address

-- .space 4 / addiu $1,$0,0 / lw $2,0($1) / addu $3,$2,$2 / break
abbrev pub waits : Program
waits =
    program_with (instr Addiu 1 0 0 0 ∷ instr Lw 2 1 0 0 ∷ instr Addu 3 2 2 0 ∷ instr Break 0 0 0 0 ∷ [])
    (replicate 4 0)

-- The load guesses 0 while its base waits, and the sum is made of it
abbrev pub foreseen : List Taken
foreseen =
    taken 2 (On 2 Finish) ∷
    taken 2 (On 2 Claim) ∷
    taken 2 (On 2 (Deliver Second)) ∷
    taken 2 (On 2 (Deliver First)) ∷
    taken 2 (On 1 (Speculate (Guess 0))) ∷
    taken 0 (On 2 (Link Second)) ∷
    taken 0 (On 2 (Link First)) ∷
    taken 0 (Let 2 0x40000c From From) ∷
    taken 0 (On 1 (Link First)) ∷
    taken 0 (Let 1 0x400008 From (Known 0)) ∷
    taken 0 (Let 0 0x400004 (Known 0) (Known 0)) ∷
    []

foreseen_allowed : AreAllowed waits four_stations foreseen
unfolding instr_at computed_by jump_target checked_address loaded
foreseen_allowed = given (are_allowed waits four_stations foreseen) refl

-- The base is made and delivered: the guess is the word at the address, and all retire in order
abbrev pub came_true : List Taken
came_true =
    taken 1 (On 2 (Retire 0)) ∷
    taken 1 (On 1 (Retire 0)) ∷
    taken 1 (On 0 (Retire 0)) ∷
    taken 1 (On 1 (Speculate Confirm)) ∷
    taken 2 (On 1 (Deliver First)) ∷
    taken 2 (On 0 Finish) ∷
    taken 2 (On 0 Claim) ∷
    foreseen

came_true_allowed : AreAllowed waits four_stations came_true
unfolding instr_at computed_by jump_target checked_address loaded
came_true_allowed = given (are_allowed waits four_stations came_true) refl

waits_committed : committed waits (reached waits four_stations came_true).tenants ≡
    record { registers = replicate 34 0; memory = replicate 4 0; pc = 0x0040000c; count = 3 }
unfolding instr_at computed_by jump_target checked_address loaded
waits_committed = refl
