-- A station let again while a job of its old tenant is out, as a whole legal run.
use Rattle.std.proofs.Common.{◌≡◌, List, [], ◌∷◌, replicate, refl}
use Rattle.instructions.specs.Operations.{checked_address, computed_by, jump_target, loaded}
use Rattle.instructions.specs.Programs.{Program, instr_at}
use Rattle.instructions.specs.declared.op.Op.TheVariants.{Addiu, Beq, Break}
use Rattle.inorder.specs.declared.history.Act.TheVariants.{Claim, Finish, Mend, Retire, Squash}
use Rattle.inorder.specs.declared.history.Step.TheVariants.{Let, On}
use Rattle.inorder.specs.declared.history.Supply.TheVariants.{Known}
use Rattle.inorder.specs.Committed.{committed}
use Rattle.inorder.specs.Legal.{AreAllowed, Taken, reached}
use Rattle.inorder.specs.StationWords.{live_word, station_word}
use Rattle.inorder.specs.Tenants.{Open}
use Rattle.inorder.specs.Unit.{recent}
use Rattle.inorder.proofs.Runs.Decided.{given}
use Rattle.inorder.proofs.Runs.DecidedSteps.{are_allowed}
use Rattle.inorder.proofs.Runs.Examples.{four_entries, instr, program, taken}

-- beq $0,$0,E / addiu $1,$0,1 / E: addiu $2,$0,2 / break
abbrev pub relets : Program
relets =
    program (instr Beq 0 0 0 0x400008 ∷ instr Addiu 1 0 0 1 ∷ instr Addiu 2 0 0 2 ∷ instr Break 0 0 0 0 ∷ [])

-- Caller 2 holds a job on the wrong path when the branch is found to be a miss
abbrev pub job_on_the_wrong_path : List Taken
job_on_the_wrong_path =
    taken 3 (On 0 Finish) ∷
    taken 3 (On 0 Claim) ∷
    taken 2 (On 1 Claim) ∷
    taken 0 (Let 2 0x40000c (Known 0) (Known 0)) ∷
    taken 0 (Let 1 0x400008 (Known 0) (Known 0)) ∷
    taken 0 (Let 0 0x400004 (Known 0) (Known 0)) ∷
    []

job_on_the_wrong_path_allowed : AreAllowed relets four_entries job_on_the_wrong_path
unfolding instr_at computed_by jump_target checked_address loaded
job_on_the_wrong_path_allowed = given (are_allowed relets four_entries job_on_the_wrong_path) refl

-- Its station is let again, under the next tag
abbrev pub relet : List Taken
relet =
    taken 0 (Let 2 0x40000c (Known 0) (Known 0)) ∷
    taken 0 (On 0 Mend) ∷
    taken 0 (On 1 Squash) ∷
    taken 0 (On 2 Squash) ∷
    job_on_the_wrong_path

relet_allowed : AreAllowed relets four_entries relet
unfolding instr_at computed_by jump_target checked_address loaded
relet_allowed = given (are_allowed relets four_entries relet) refl

-- All retire in order; the old job is never finished
abbrev pub relet_ended : List Taken
relet_ended =
    taken 1 (On 4 (Retire 0)) ∷
    taken 3 (On 4 Finish) ∷
    taken 3 (On 4 Claim) ∷
    taken 0 (Let 3 0x400010 (Known 0) (Known 0)) ∷
    taken 1 (On 3 (Retire 0)) ∷
    taken 1 (On 0 (Retire 0)) ∷
    taken 3 (On 3 Finish) ∷
    taken 3 (On 3 Claim) ∷
    relet

relet_ended_allowed : AreAllowed relets four_entries relet_ended
unfolding instr_at computed_by jump_target checked_address loaded
relet_ended_allowed = given (are_allowed relets four_entries relet_ended) refl

-- Station 1 shows the new tenant, open, with tag 2
relet_word : station_word four_entries (recent (reached relets four_entries relet)) 1 ≡ live_word 2 Open
unfolding instr_at computed_by jump_target checked_address loaded
relet_word = refl

relet_committed : committed relets (reached relets four_entries relet_ended).tenants ≡
    record { registers = 0 ∷ 0 ∷ 2 ∷ replicate 31 0; memory = []; pc = 0x0040000c; count = 2 }
unfolding instr_at computed_by jump_target checked_address loaded
relet_committed = refl
