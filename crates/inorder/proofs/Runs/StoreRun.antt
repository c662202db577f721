-- Loads over live stores, as whole legal runs.
use Rattle.std.proofs.Common.{◌≡◌, List, [], ◌∷◌, replicate, refl}
use Rattle.instructions.specs.Operations.{checked_address, computed_by, jump_target, loaded}
use Rattle.instructions.specs.Programs.{Program, instr_at}
use Rattle.instructions.specs.declared.op.Op.TheVariants.{Addiu, Break, Lw, Sb, Sw}
use Rattle.inorder.specs.declared.history.Act.TheVariants.{Claim, Deliver, Finish, Link, Load, Retire}
use Rattle.inorder.specs.declared.history.Source.TheVariants.{Second}
use Rattle.inorder.specs.declared.history.Step.TheVariants.{Let, On}
use Rattle.inorder.specs.declared.history.Supply.TheVariants.{From, Known}
use Rattle.inorder.specs.Committed.{committed}
use Rattle.inorder.specs.Legal.{AreAllowed, Taken, reached}
use Rattle.inorder.proofs.Runs.Decided.{given}
use Rattle.inorder.proofs.Runs.DecidedSteps.{are_allowed}
use Rattle.inorder.proofs.Runs.Examples.{four_entries, four_stations, instr, program_with, taken}

-- .space 4 / addiu $1,$0,-1 / sw $1,0($0) / sb $0,1($0) / lw $2,0($0) / break
abbrev pub bytes_and_words : Program
bytes_and_words =
    program_with (instr Addiu 1 0 0 0xffffffff ∷ instr Sw 0 0 1 0 ∷ instr Sb 0 0 0 1 ∷ instr Lw 2 0 0 0
    ∷ instr Break 0 0 0 0 ∷ []) (replicate 4 0)

-- Load and stores have their addresses; the word store still waits for its data
abbrev pub stores_have_addresses : List Taken
stores_have_addresses =
    taken 3 (On 2 Finish) ∷
    taken 3 (On 2 Claim) ∷
    taken 2 (On 1 Finish) ∷
    taken 2 (On 1 Claim) ∷
    taken 2 (On 3 Finish) ∷
    taken 2 (On 3 Claim) ∷
    taken 0 (Let 3 0x400010 (Known 0) (Known 0)) ∷
    taken 0 (Let 2 0x40000c (Known 0) (Known 0)) ∷
    taken 0 (On 1 (Link Second)) ∷
    taken 0 (Let 1 0x400008 (Known 0) From) ∷
    taken 0 (Let 0 0x400004 (Known 0) (Known 0)) ∷
    []

stores_have_addresses_allowed : AreAllowed bytes_and_words four_entries stores_have_addresses
unfolding instr_at computed_by jump_target checked_address loaded
stores_have_addresses_allowed = given (are_allowed bytes_and_words four_entries stores_have_addresses) refl

-- The load takes three bytes of the word store and one of the byte store
abbrev pub word_read : List Taken
word_read =
    taken 1 (On 3 Load) ∷
    taken 2 (On 1 (Deliver Second)) ∷
    taken 2 (On 0 Finish) ∷
    taken 2 (On 0 Claim) ∷
    stores_have_addresses

word_read_allowed : AreAllowed bytes_and_words four_entries word_read
unfolding instr_at computed_by jump_target checked_address loaded
word_read_allowed = given (are_allowed bytes_and_words four_entries word_read) refl

-- All retire in order
abbrev pub bytes_ended : List Taken
bytes_ended =
    taken 1 (On 4 (Retire 0)) ∷
    taken 2 (On 4 Finish) ∷
    taken 2 (On 4 Claim) ∷
    taken 1 (On 3 (Retire 0)) ∷
    taken 1 (On 2 (Retire 0)) ∷
    taken 1 (On 1 (Retire 0)) ∷
    taken 0 (Let 4 0x400014 (Known 0) (Known 0)) ∷
    taken 1 (On 0 (Retire 0)) ∷
    word_read

bytes_ended_allowed : AreAllowed bytes_and_words four_entries bytes_ended
unfolding instr_at computed_by jump_target checked_address loaded
bytes_ended_allowed = given (are_allowed bytes_and_words four_entries bytes_ended) refl

-- The byte store is seen in the word that was loaded, and in memory
bytes_committed : committed bytes_and_words (reached bytes_and_words four_entries bytes_ended).tenants ≡
    record {
      registers = 0 ∷ 0xffffffff ∷ 0xffff00ff ∷ replicate 31 0;
      memory = 255 ∷ 0 ∷ 255 ∷ 255 ∷ [];
      pc = 0x00400010;
      count = 4;
    }
unfolding instr_at computed_by jump_target checked_address loaded
bytes_committed = refl

-- .space 4 / addiu $1,$0,7 / sw $1,0($0) / lw $2,0($0) / break
abbrev pub forwards : Program
forwards =
    program_with (instr Addiu 1 0 0 7 ∷ instr Sw 0 0 1 0 ∷ instr Lw 2 0 0 0 ∷ instr Break 0 0 0 0 ∷ []) (replicate 4 0)

-- The load has its address before the older store has one
abbrev pub load_has_address : List Taken
load_has_address =
    taken 2 (On 2 Finish) ∷
    taken 2 (On 2 Claim) ∷
    taken 0 (Let 3 0x400010 (Known 0) (Known 0)) ∷
    taken 0 (Let 2 0x40000c (Known 0) (Known 0)) ∷
    taken 0 (On 1 (Link Second)) ∷
    taken 0 (Let 1 0x400008 (Known 0) From) ∷
    taken 0 (Let 0 0x400004 (Known 0) (Known 0)) ∷
    []

load_has_address_allowed : AreAllowed forwards four_stations load_has_address
unfolding instr_at computed_by jump_target checked_address loaded
load_has_address_allowed = given (are_allowed forwards four_stations load_has_address) refl

-- The store has address and data, and the load takes its word while the store is live
abbrev pub word_forwarded : List Taken
word_forwarded =
    taken 1 (On 2 Load) ∷
    taken 2 (On 1 (Deliver Second)) ∷
    taken 2 (On 0 Finish) ∷
    taken 2 (On 0 Claim) ∷
    taken 2 (On 1 Finish) ∷
    taken 2 (On 1 Claim) ∷
    load_has_address

word_forwarded_allowed : AreAllowed forwards four_stations word_forwarded
unfolding instr_at computed_by jump_target checked_address loaded
word_forwarded_allowed = given (are_allowed forwards four_stations word_forwarded) refl

-- All retire in order
abbrev pub forward_ended : List Taken
forward_ended =
    taken 1 (On 3 (Retire 0)) ∷
    taken 3 (On 3 Finish) ∷
    taken 3 (On 3 Claim) ∷
    taken 1 (On 2 (Retire 0)) ∷
    taken 1 (On 1 (Retire 0)) ∷
    taken 1 (On 0 (Retire 0)) ∷
    word_forwarded

forward_ended_allowed : AreAllowed forwards four_stations forward_ended
unfolding instr_at computed_by jump_target checked_address loaded
forward_ended_allowed = given (are_allowed forwards four_stations forward_ended) refl

forward_committed : committed forwards (reached forwards four_stations forward_ended).tenants ≡
    record { registers = 0 ∷ 7 ∷ 7 ∷ replicate 31 0; memory = 7 ∷ 0 ∷ 0 ∷ 0 ∷ []; pc = 0x0040000c; count = 3 }
unfolding instr_at computed_by jump_target checked_address loaded
forward_committed = refl
