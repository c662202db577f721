use Rattle.std.proofs.Common.{ℕ, List, Option, Bor, Result, Err, ◌∙◌, sym, ap, arith}
use Rattle.std.specs.Option.{option_map}
use Rattle.std.proofs.lemmas.Result.{err_from_is_err_and}
use Rattle.lexical.specs.Operand.{operands_left}
use Rattle.isa.specs.declared.listing.fault.FaultKind.{FaultKind}
use Rattle.isa.specs.declared.listing.slot.Slot.TheVariants.{Into}
use Rattle.isa.specs.Statement.{Parsed, draft_view}
use Rattle.isa.proofs.Slots.{filled_done, filled_none, filled_more, filled_fault, kind_is}
use Rattle.isa.proofs.listing.instruction.fill_all.Goals as goal

abbrev left_of : Option (Bor (List ℕ)) → List (List ℕ)
left_of rest = operands_left (option_map (λ t. t.now) rest)

abbrev refused : FaultKind → Result Parsed FaultKind
refused k = Err k

pub returns-in_err-text-clause-err : goal.returns-in_err-text-clause-err
returns-in_err-text-clause-err c =
    let p = err_from_is_err_and c.from_residual.result c.from_residual.ensures.1 in
    let told = c.in_err-text.ensures in
    rw (p.1, p.2)
    (filled_none c.args.slots.now c.loop-slot.slot-index (left_of c.loop-slot.rest) (draft_view c.loop-slot.draft) _ c.loop-slot.invariant Into (omega arith)
    (ap left_of told.ok_part)
    ∙ ap refused (sym (kind_is c.loop-slot.rest _ _ told.value told.ok_part)))

pub returns-in_err-fill-clause-err : goal.returns-in_err-fill-clause-err
returns-in_err-fill-clause-err c =
    let p = err_from_is_err_and c.from_residual-in_err-fill.result c.from_residual-in_err-fill.ensures.1 in
    rw (p.1, p.2)
    (filled_fault c.args.slots.now c.loop-slot.slot-index (left_of c.loop-slot.rest) (draft_view c.loop-slot.draft) _ c.loop-slot.invariant _ (omega arith)
    c.next_operand.result.0.now (left_of c.next_operand.result.1) (ap left_of c.in_ok-text.ensures.ok_part ∙ c.next_operand.ensures.operands) _
    c.in_err-fill.ensures.err)

pub loop-slot-preserved : goal.loop-slot-preserved
loop-slot-preserved c =
    filled_more c.args.slots.now c.loop-slot.slot-index (left_of c.loop-slot.rest) (draft_view c.loop-slot.draft) _ c.loop-slot.invariant _ (omega arith)
    c.next_operand.result.0.now (left_of c.next_operand.result.1) (ap left_of c.in_ok-text.ensures.ok_part ∙ c.next_operand.ensures.operands)
    (draft_view c.fill.new.draft) c.in_ok-fill.ensures.ok

pub returns-clause-ok : goal.returns-clause-ok
returns-clause-ok c =
    filled_done c.args.slots.now c.loop-slot.slot-index (left_of c.loop-slot.rest) (draft_view c.loop-slot.draft) _ c.loop-slot.invariant (omega arith)
