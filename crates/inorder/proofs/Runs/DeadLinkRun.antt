-- A link that died with its tenant, as a whole legal run.
use Rattle.std.proofs.Common.{◌≡◌, List, [], ◌∷◌, replicate, Some, None, refl}
use Rattle.instructions.specs.Operations.{checked_address, computed_by, jump_target, loaded}
use Rattle.instructions.specs.Programs.{Program, instr_at}
use Rattle.instructions.specs.declared.op.Op.TheVariants.{Addiu, Addu, Beq, Break}
use Rattle.inorder.specs.declared.history.Act.TheVariants.{Claim, Deliver, Finish, Link, Mend, Retire, Squash}
use Rattle.inorder.specs.declared.history.Source.TheVariants.{First, Second}
use Rattle.inorder.specs.declared.history.Step.TheVariants.{Let, On}
use Rattle.inorder.specs.declared.history.Supply.TheVariants.{From, Known}
use Rattle.inorder.specs.Committed.{committed}
use Rattle.inorder.specs.Legal.{AreAllowed, Taken, reached}
use Rattle.inorder.specs.OperandWords.{operand_word}
use Rattle.inorder.specs.StationWords.{IsFree, live_word, station_word}
use Rattle.inorder.specs.Tenants.{Busy, Done, Open, Tenant}
use Rattle.inorder.specs.Unit.{creator, recent}
use Rattle.inorder.proofs.Runs.Decided.{given}
use Rattle.inorder.proofs.Runs.DecidedSteps.{are_allowed}
use Rattle.inorder.proofs.Runs.Examples.{four_entries, instr, program, taken}

-- addiu $1,$0,1 / addiu $3,$0,3 / beq $0,$0,E / addu $2,$1,$1 / E: addu $4,$3,$3 / break
abbrev pub dead_link : Program
dead_link =
    program (instr Addiu 1 0 0 1 ∷ instr Addiu 3 0 0 3 ∷ instr Beq 0 0 0 0x400010 ∷ instr Addu 2 1 1 0
    ∷ instr Addu 4 3 3 0 ∷ instr Break 0 0 0 0 ∷ [])

-- A tenant on the wrong path is linked to the first instruction, which is at work
abbrev pub linked_on_the_wrong_path : List Taken
linked_on_the_wrong_path =
    taken 3 (On 2 Finish) ∷
    taken 3 (On 2 Claim) ∷
    taken 2 (On 0 Claim) ∷
    taken 0 (On 3 (Link Second)) ∷
    taken 0 (On 3 (Link First)) ∷
    taken 0 (Let 3 0x400010 From From) ∷
    taken 0 (Let 2 0x40000c (Known 0) (Known 0)) ∷
    taken 0 (Let 1 0x400008 (Known 0) (Known 0)) ∷
    taken 0 (Let 0 0x400004 (Known 0) (Known 0)) ∷
    []

linked_on_the_wrong_path_allowed : AreAllowed dead_link four_entries linked_on_the_wrong_path
unfolding instr_at computed_by jump_target checked_address loaded
linked_on_the_wrong_path_allowed = given (are_allowed dead_link four_entries linked_on_the_wrong_path) refl

-- Its station is let again, and the new tenant is linked to another creator
abbrev pub linked_elsewhere : List Taken
linked_elsewhere =
    taken 0 (On 4 (Link Second)) ∷
    taken 0 (On 4 (Link First)) ∷
    taken 0 (Let 4 0x400014 From From) ∷
    taken 0 (On 2 Mend) ∷
    taken 0 (On 3 Squash) ∷
    linked_on_the_wrong_path

linked_elsewhere_allowed : AreAllowed dead_link four_entries linked_elsewhere
unfolding instr_at computed_by jump_target checked_address loaded
linked_elsewhere_allowed = given (are_allowed dead_link four_entries linked_elsewhere) refl

-- The old links are served, and give the new tenant nothing
abbrev pub old_link_served : List Taken
old_link_served =
    taken 2 (On 3 (Deliver Second)) ∷
    taken 2 (On 3 (Deliver First)) ∷
    taken 2 (On 0 Finish) ∷
    linked_elsewhere

old_link_served_allowed : AreAllowed dead_link four_entries old_link_served
unfolding instr_at computed_by jump_target checked_address loaded
old_link_served_allowed = given (are_allowed dead_link four_entries old_link_served) refl

-- The first instruction has retired, and the second is at work
abbrev pub as_in_the_picture : List Taken
as_in_the_picture =
    taken 3 (On 1 Claim) ∷
    taken 1 (On 0 (Retire 0)) ∷
    old_link_served

as_in_the_picture_allowed : AreAllowed dead_link four_entries as_in_the_picture
unfolding instr_at computed_by jump_target checked_address loaded
as_in_the_picture_allowed = given (are_allowed dead_link four_entries as_in_the_picture) refl

-- The new tenant gets its own sources, and all retire in order
abbrev pub links_ended : List Taken
links_ended =
    taken 1 (On 5 (Retire 0)) ∷
    taken 2 (On 5 Finish) ∷
    taken 2 (On 5 Claim) ∷
    taken 0 (Let 5 0x400018 (Known 0) (Known 0)) ∷
    taken 1 (On 4 (Retire 0)) ∷
    taken 1 (On 2 (Retire 0)) ∷
    taken 1 (On 1 (Retire 0)) ∷
    taken 3 (On 4 Finish) ∷
    taken 3 (On 4 Claim) ∷
    taken 3 (On 4 (Deliver Second)) ∷
    taken 3 (On 4 (Deliver First)) ∷
    taken 3 (On 1 Finish) ∷
    as_in_the_picture

links_ended_allowed : AreAllowed dead_link four_entries links_ended
unfolding instr_at computed_by jump_target checked_address loaded
links_ended_allowed = given (are_allowed dead_link four_entries links_ended) refl

-- The operands of station 3 are those of its new tenant, and still wait
still_waits : (operand_word (recent (reached dead_link four_entries old_link_served)) 3 First ≡ Some
    (record { tag = 2; value = None })) × (operand_word (recent
    (reached dead_link four_entries old_link_served)) 3 Second ≡ Some (record { tag = 2; value = None }))
unfolding instr_at computed_by jump_target checked_address loaded
still_waits = (refl, refl)

abbrev pub picture : List Tenant
picture = (reached dead_link four_entries as_in_the_picture).tenants

-- What the ring shows then
ring_then :
    (station_word four_entries picture 0 ≡ record { tag = 2; state = IsFree; value = Some 1 }) ×
    (station_word four_entries picture 1 ≡ live_word 1 (Busy 3)) ×
    (station_word four_entries picture 2 ≡ live_word 1 (Done 0x00400010)) ×
    (station_word four_entries picture 3 ≡ live_word 2 Open)
unfolding instr_at computed_by jump_target checked_address loaded
ring_then = (refl, refl, refl, refl)

-- And the create vector: the wrong path creates nothing
creators_then :
    (creator dead_link picture 1 ≡ Some 0) × (creator dead_link picture 2 ≡ None) ×
    (creator dead_link picture 3 ≡ Some 1) × (creator dead_link picture 4 ≡ Some 4)
unfolding instr_at computed_by jump_target checked_address loaded
creators_then = (refl, refl, refl, refl)

links_committed : committed dead_link (reached dead_link four_entries links_ended).tenants ≡
    record { registers = 0 ∷ 1 ∷ 0 ∷ 3 ∷ 6 ∷ replicate 29 0; memory = []; pc = 0x00400014; count = 4 }
unfolding instr_at computed_by jump_target checked_address loaded
links_committed = refl
