-- Three instructions on two stations, with a front, a back and two units, as a legal history.
use Rattle.std.proofs.Common.{◌≡◌, List, [], ◌∷◌, replicate, Some, refl}
use Rattle.instructions.specs.Operations.{checked_address, computed_by, jump_target, loaded}
use Rattle.instructions.specs.Programs.{Program, instr_at}
use Rattle.instructions.specs.declared.op.Op.TheVariants.{Addiu, Addu, Break}
use Rattle.instructions.specs.declared.stop.Stop.TheVariants.{Break as BreakStop}
use Rattle.inorder.specs.declared.history.Act.TheVariants.{Claim, Deliver, Finish, Link, Retire}
use Rattle.inorder.specs.declared.history.Entry.{Entry}
use Rattle.inorder.specs.declared.history.Mark.TheVariants.{Asked, Walked}
use Rattle.inorder.specs.declared.history.Refusal.TheVariants.{Empty, Moved, NotDone, NotOpen, Over, Waiting}
use Rattle.inorder.specs.declared.history.Source.TheVariants.{First, Second}
use Rattle.inorder.specs.declared.history.Step.TheVariants.{Let, On}
use Rattle.inorder.specs.declared.history.Supply.TheVariants.{From, Known}
use Rattle.inorder.specs.Committed.{committed}
use Rattle.inorder.specs.History.{IsLegal, back, front, unit_of}
use Rattle.inorder.specs.Replies.{HasNoInstr, IsFull}
use Rattle.inorder.specs.Runs.{after, stop}
use Rattle.inorder.proofs.Runs.Decided.{given}
use Rattle.inorder.proofs.Runs.DecidedHistory.{is_legal}
use Rattle.inorder.proofs.Runs.Examples.{does, instr, marks, program, refused, two_stations}

-- addiu $1,$0,5 / addu $2,$1,$1 / break
abbrev pub adds : Program
adds =
    program (instr Addiu 1 0 0 5 ∷ instr Addu 2 1 1 0 ∷ instr Break 0 0 0 0 ∷ [])

-- Nobody is live at first. The front lets two tenants, and asks the first for both sources of the second
abbrev pub asked : List Entry
asked =
    marks front (Asked 1 Second) ∷
    does front (On 1 (Link Second)) ∷
    marks front (Asked 1 First) ∷
    does front (On 1 (Link First)) ∷
    does front (Let 1 0x400008 From From) ∷
    does front (Let 0 0x400004 (Known 0) (Known 0)) ∷
    refused back Empty ∷
    []

-- One unit claims the first tenant. The other and the back are refused
abbrev pub claimed : List Entry
claimed =
    refused back NotDone ∷
    refused 3 (Moved 0) ∷
    refused 3 (NotOpen 0) ∷
    does 2 (On 0 Claim) ∷
    refused 3 (Waiting 1 First) ∷
    asked

-- It finishes the tenant, delivers the value to both sources, and has then gone along all links
abbrev pub made : List Entry
made =
    does 2 (On 0 Finish) ∷
    claimed

abbrev pub walked : List Entry
walked =
    marks 2 (Walked 0) ∷
    does 2 (On 1 (Deliver Second)) ∷
    does 2 (On 1 (Deliver First)) ∷
    made

-- The first tenant retires, and its station is let again
abbrev pub relet : List Entry
relet =
    marks 3 (Walked 1) ∷
    does 3 (On 1 Finish) ∷
    does front (Let 2 0x40000c (Known 0) (Known 0)) ∷
    does back (On 0 (Retire 0)) ∷
    does 3 (On 1 Claim) ∷
    walked

-- The rest retires, the stop last, and the back is told that the unit has ended
abbrev pub over : List Entry
over =
    refused back Over ∷
    does back (On 2 (Retire 0)) ∷
    does 2 (On 2 Finish) ∷
    does 2 (On 2 Claim) ∷
    does back (On 1 (Retire 0)) ∷
    relet

pub over_legal : IsLegal adds two_stations over
unfolding instr_at computed_by jump_target checked_address loaded
over_legal = given (is_legal adds two_stations over) refl

-- Two instructions have committed: $1 is 5 and $2 is 10, as in order, and the stop is that machine's
shared_committed : committed adds (unit_of adds two_stations over).tenants ≡
    record { registers = 0 ∷ 5 ∷ 10 ∷ replicate 31 0; memory = []; pc = 0x00400008; count = 2 }
unfolding instr_at computed_by jump_target checked_address loaded
shared_committed = refl

shared_in_order : after adds 2 ≡ Some (committed adds (unit_of adds two_stations over).tenants)
unfolding instr_at computed_by jump_target checked_address loaded
shared_in_order = refl

shared_stops : stop adds 2 ≡ Some BreakStop
unfolding instr_at computed_by jump_target checked_address loaded
shared_stops = refl

-- What the front may be told on the way: the ring is full, and after the break there is no instruction
front_full : IsFull two_stations (unit_of adds two_stations asked)
unfolding instr_at computed_by jump_target checked_address loaded
front_full = refl

front_has_no_instr : HasNoInstr adds (unit_of adds two_stations relet)
unfolding instr_at computed_by jump_target checked_address loaded
front_has_no_instr = refl
