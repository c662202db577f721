use Rattle.std.proofs.lemmas.Grind.{common_steps}
use Rattle.std.proofs.Common.{◌≡◌, ◌≤◌, ◌+◌, ℕ, ◌∷◌, [], length, length-append, Some, inl, inr, refl, sym, ap, subst, arith}
use Rattle.instructions.specs.Guesses.{Guesses}
use Rattle.instructions.specs.Instruction.{fixed_next, width}
use Rattle.instructions.specs.declared.stop.Outcome.TheVariants.{Address}
use Rattle.streaming.specs.Astray.{FindsOperands, IsUpcoming}
use Rattle.streaming.specs.Known.{KnownAs}
use Rattle.streaming.specs.Flow.{HasJoined, CanRestore, Completes, IsLeftOpen, Reopens, completed_as, enters_as, in_order, outcome_in}
use Rattle.streaming.specs.Kept.{kept_with}
use Rattle.streaming.specs.declared.flow.Flow.{Flow}
use Rattle.one_thread.specs.declared.pipeline.Pipeline.{Pipeline}
use Rattle.one_thread.proofs.BenchTurns.{guess_fixed}
use Rattle.streaming.proofs.FlowEnters.{Joins, joins_flow, joins_open, joins_order}
use Rattle.streaming.proofs.FlowIn.{entered_inside, entered_room, entered_stays, enters, place_decoded}
use Rattle.streaming.proofs.FlowStays.{all_closed}
use Rattle.streaming.proofs.StoresKnown.{stores_known}
use Rattle.streaming.proofs.entering.run_next.Given.{Over}
use Rattle.streaming.proofs.entering.run_next.Goals.{After-closed, After-fetch_known-instr, After-operands-operands}
use Rattle.streaming.proofs.entering.run_next.Goals as goal

-- The next instruction, as it was fetched, predicted and read

abbrev next : (g : Over) (c : After-operands-operands g) → IsUpcoming c.args.unit.now c.args.flow.now c.guess_behind-predicted.result
next g c =
    let flow = c.args.flow.now in
    let i = c.fetch_known-instr.result.now in
    let p = c.guess_behind-predicted.result in
    let place = c.requires.place.placed in
    let decoded = place_decoded c.args.unit.now flow c.as_slice.result.now place c.as_slice.ensures.value in
    let old = c.args.predictor.now in
    let new = c.guess_behind-predicted.new.predictor in
    let guess : Guesses g.P.Predictor.Predicts g.P.Predictor.Learns c.args.left i flow.half flow.future.pc p old new =
    subst (λ k. Guesses g.P.Predictor.Predicts g.P.Predictor.Learns c.args.left i k flow.future.pc p old new) c.requires.half
    c.guess_behind-predicted.ensures in
    record {
      placed = place;
      instr = i;
      is = c.fetch_known-instr.ensures place.before.program.now decoded;
      small = c.guess_behind-predicted.type_inv;
      fixed = guess_fixed g.P.Predictor.Predicts g.P.Predictor.Learns (fixed_next i flow.half flow.future.pc) flow.future.pc i p guess.middle new guess.asked;
    }

finds : (g : Over) (c : After-operands-operands g) → FindsOperands c.args.flow.now c.fetch_known-instr.result.now c.operands-operands.result
finds g c = grind (arith, common_steps)

-- The kind that is known of the next instruction

known : (g : Over) (c : After-fetch_known-instr g) → KnownAs c.args.known c.fetch_known-instr.result.now
known g c = grind (arith, common_steps, place_decoded)

pub joins-requires-clause-kind : goal.joins-requires-clause-kind
joins-requires-clause-kind g c = known g (goal.at.joins-requires-clause-kind g c).After-fetch_known-instr

-- It is left as it was let

stays : (g : Over) (c : After-operands-operands g) → let flow = c.args.flow.now in
    let left : Flow = record flow { last = Some (enters_as flow c.fetch_known-instr.result.now c.guess_behind-predicted.result) } in
    CanRestore (in_order c.args.unit.now left) left c.args.from
stays g c =
    let flow = c.args.flow.now in
    let left : Flow = record flow { last = Some (enters_as flow c.fetch_known-instr.result.now c.guess_behind-predicted.result) } in
    subst (CanRestore (in_order c.args.unit.now left) left) c.requires.place.same
    (entered_stays _ _ _ _ _ _ (enters c.args.unit.now flow c.guess_behind-predicted.result (next g c)))

-- It has joined

abbrev joins : (g : Over) (c : After-closed g) → Joins c.args.unit.now c.args.flow.now c.joins.new.self c.guess_behind-predicted.result c.in-Some.done
joins g c =
    let flow = c.args.flow.now in
    let i = c.fetch_known-instr.result.now in
    let p = c.guess_behind-predicted.result in
    let o = c.operands-operands.result in
    let on = c.joins.ensures in
    let completed = c.completed-completed in
    let early = (goal.at.returns-clause-entered g c).After-operands-operands in
    record {
      next = next g early;
      operands = o;
      finds = finds g early;
      completes = subst (λ (q : Pipeline). Completes q flow i p o (Some c.in-Some.done)) c.requires.place.placed.rest c.in-Some.ensures;
      leaves = completed.result.leaves;
      leaves_as = completed.ensures.leaves;
      joined = subst (λ k. HasJoined flow c.joins.new.self i (completed_as flow p c.in-Some.done completed.result.leaves (kept_with i k o.b flow.future.values)) o.b) c.requires.half
          (subst (λ y. HasJoined flow c.joins.new.self i y o.b) completed.ensures.is
          c.joins.ensures);
    }

pub completes-requires-clause-inside : goal.completes-requires-clause-inside
completes-requires-clause-inside g c =
    let flow = c.args.flow.now in
    let i = c.fetch_known-instr.result.now in
    let o = c.operands-operands.result in
    let early = (goal.at.completes-requires-clause-inside g c).After-operands-operands in
    subst (λ (q : Pipeline). (a : ℕ) → outcome_in q flow i o ≡ Address a → a + width i.op ≤ length q.committed.memory) (sym c.requires.place.placed.rest)
    (entered_inside _ _ flow i _ _ (enters _ flow _ (next g early)) o (finds g early))

pub completes-requires-clause-known : goal.completes-requires-clause-known
completes-requires-clause-known g c = grind (arith, common_steps, stores_known)

pub returns-in_default-clause-entered : goal.returns-in_default-clause-entered
returns-in_default-clause-entered g c =
    subst (λ f. IsLeftOpen c.args.unit.now c.args.flow.now f c.args.from) (sym c.stays.ensures)
    (record { restores = stays g (goal.at.returns-in_default-clause-entered g c).After-operands-operands; same = refl })

pub mend-requires : goal.mend-requires
mend-requires g c =
    let early = (goal.at.mend-requires g c).After-operands-operands in
    record {
      next = next g early;
      operands = c.operands-operands.result;
      finds = finds g early;
      reads = refl;
      completes = subst (λ (q : Pipeline). Completes q c.args.flow.now c.fetch_known-instr.result.now c.guess_behind-predicted.result c.operands-operands.result (Some c.in-Some.done))
          c.requires.place.placed.rest c.in-Some.ensures;
      misses = c.if-done-predicted.true;
    }

pub joins-requires-clause-room : goal.joins-requires-clause-room
joins-requires-clause-room g c =
    let room = (entered_room _ _ _ _ _ _ (enters _ _ _ (next g (goal.at.joins-requires-clause-room g c).After-operands-operands))).0 in
    omega (arith, room, c.requires.place.placed.flows.size)

pub joins-requires-clause-few : goal.joins-requires-clause-few
joins-requires-clause-few g c = (entered_room _ _ _ _ _ _ (enters _ _ _ (next g (goal.at.joins-requires-clause-few g c).After-operands-operands))).1

pub joins-requires-clause-accesses : goal.joins-requires-clause-accesses
joins-requires-clause-accesses g c = (entered_room _ _ _ _ _ _ (enters _ _ _ (next g (goal.at.joins-requires-clause-accesses g c).After-operands-operands))).2

pub returns-clause-order : goal.returns-clause-order
returns-clause-order g c = joins_order _ _ _ _ _ (joins g c) c.args.unit.now refl

pub returns-then-has_load_behind-clause-entered : goal.returns-then-has_load_behind-clause-entered
returns-then-has_load_behind-clause-entered g c =
    subst (λ f. IsLeftOpen c.args.unit.now c.args.flow.now f c.args.from) (sym c.stays-then-has_load_behind.ensures)
    (record { restores = stays g (goal.at.returns-then-has_load_behind-clause-entered g c).After-operands-operands; same = refl })

pub returns-then-not-is_alone-clause-entered : goal.returns-then-not-is_alone-clause-entered
returns-then-not-is_alone-clause-entered g c =
    let on = c.mend.ensures in
    record {
      flows = on.flows;
      reopens = all_closed (in_order c.mend.new.unit c.mend.new.flow) c.mend.new.flow _ on.flows.flows c.len.ensures.value;
      longer = on.longer;
    }

pub returns-clause-entered : goal.returns-clause-entered
returns-clause-entered g c =
    let on = joins g c in
    let flow = c.joins.new.self in
    let x = in_order c.args.unit.now flow in
    let flows = joins_flow _ _ _ _ _ on in
    record {
      flows = flows;
      reopens = elim c.closed.ensures [
        | inl hit ↦ subst (Reopens x flow) (sym hit.1) (subst (Reopens x flow) c.requires.place.same (joins_open _ _ _ _ _ on hit.0))
        | inr all ↦ all_closed x flow _ flows.flows all
      ];
      longer = omega (arith, ap length c.joins.ensures.completed, length-append c.args.flow.now.ring.completed (c.completed-completed.result ∷ []));
    }
