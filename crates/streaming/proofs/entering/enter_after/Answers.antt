-- An instruction that is no half comes after a whole one.
use Rattle.std.proofs.Common.{◌≡◌, Option, Some, refl, sym, subst}
use Rattle.instructions.specs.declared.op.Half.TheVariants.{Low}
use Rattle.instructions.specs.declared.op.Kind.{Kind}
use Rattle.instructions.specs.declared.op.Kind.TheVariants.{Computes, Jumps, Loads, Stores}
use Rattle.streaming.specs.Known.{IsKnownThere}
use Rattle.streaming.specs.Flow.{IsPlaced}
use Rattle.streaming.specs.declared.flow.Flow.{Flow}
use Rattle.one_thread.specs.declared.pipeline.Pipeline.{Pipeline}
use Rattle.streaming.proofs.WholeNext.{whole_next}
use Rattle.streaming.proofs.entering.enter_after.Goals as goal

-- what the next instruction does is known
abbrev NextIs : Pipeline → Flow → Option Kind → Type 0
NextIs b flow known = IsKnownThere b.code.items flow.future.pc known

first : (b : Pipeline) (flow : Flow) (kind : Kind) → IsPlaced b flow → NextIs b flow (Some kind) → Low ≡ flow.half
first b flow kind placed known = sym (whole_next b flow placed (λ P i decoded is. (known P i decoded is).whole))

pub run_next-requires-clause-half : goal.run_next-requires-clause-half
run_next-requires-clause-half g c =
    let is : c.known_next.result ≡ Some Computes = cc c.in-Some-Computes.is in
    first c.args.unit.now c.args.flow.now _ c.requires.placed (subst (NextIs c.args.unit.now c.args.flow.now) is c.known_next.ensures)

pub run_next-requires-in-Some-Loads-clause-kind : goal.run_next-requires-in-Some-Loads-clause-kind
run_next-requires-in-Some-Loads-clause-kind g c =
    let is : c.known_next.result ≡ Some Loads = cc c.in-Some-Loads.is in
    subst (NextIs c.args.unit.now c.args.flow.now) is c.known_next.ensures

pub run_next-requires-in-Some-Loads-clause-half : goal.run_next-requires-in-Some-Loads-clause-half
run_next-requires-in-Some-Loads-clause-half g c =
    let is : c.known_next.result ≡ Some Loads = cc c.in-Some-Loads.is in
    first c.args.unit.now c.args.flow.now _ c.requires.placed (subst (NextIs c.args.unit.now c.args.flow.now) is c.known_next.ensures)

pub run_next-requires-in-Some-Stores-clause-kind : goal.run_next-requires-in-Some-Stores-clause-kind
run_next-requires-in-Some-Stores-clause-kind g c =
    let is : c.known_next.result ≡ Some Stores = cc c.in-Some-Stores.is in
    subst (NextIs c.args.unit.now c.args.flow.now) is c.known_next.ensures

pub run_next-requires-in-Some-Stores-clause-half : goal.run_next-requires-in-Some-Stores-clause-half
run_next-requires-in-Some-Stores-clause-half g c =
    let is : c.known_next.result ≡ Some Stores = cc c.in-Some-Stores.is in
    first c.args.unit.now c.args.flow.now _ c.requires.placed (subst (NextIs c.args.unit.now c.args.flow.now) is c.known_next.ensures)

pub run_next-requires-in-Some-Jumps-clause-kind : goal.run_next-requires-in-Some-Jumps-clause-kind
run_next-requires-in-Some-Jumps-clause-kind g c =
    let is : c.known_next.result ≡ Some Jumps = cc c.in-Some-Jumps.is in
    subst (NextIs c.args.unit.now c.args.flow.now) is c.known_next.ensures

pub run_next-requires-in-Some-Jumps-clause-half : goal.run_next-requires-in-Some-Jumps-clause-half
run_next-requires-in-Some-Jumps-clause-half g c =
    let is : c.known_next.result ≡ Some Jumps = cc c.in-Some-Jumps.is in
    first c.args.unit.now c.args.flow.now _ c.requires.placed (subst (NextIs c.args.unit.now c.args.flow.now) is c.known_next.ensures)

pub run_next-requires-in_default-2-clause-half : goal.run_next-requires-in_default-2-clause-half
run_next-requires-in_default-2-clause-half g c = sym (whole_next c.args.unit.now c.args.flow.now c.requires.placed (c.if-is_half.ensures refl))
