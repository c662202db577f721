-- The claim of an open tenant: what is known when it begins, with the first source, and with both.
use Rattle.std.proofs.Common.{◌≡◌, true, Some, refl, sym, subst, arith, rules}
use Rattle.inorder.specs.StationWords.{IsBusy}
use Rattle.ruu_words.specs.Content.{IsStation}
use Rattle.station.proofs.Calls.{legal_at, program_at}
use Rattle.station.proofs.ClaimFacts.{HasBoth, HasFirst}
use Rattle.station.proofs.ClaimSteps.{IsBegun, IsReading, claim_begins, has_both, has_claimed, has_first, is_ready, moved_at_exchange, next_is_second, refused_source}
use Rattle.station.proofs.claims.Call+UnitPart.claim_open.Goals.{After-core, In-Ok, In-Ok-read_needed}
use Rattle.station.proofs.claims.Call+UnitPart.claim_open.Goals as goal

begun : (c : After-core) → IsBegun c.args.self.now c.args.station c.args.tag c.args.info.half c.args.info.index c.args.info.predicted c.core.inside.program
begun c = claim_begins (legal_at c.self.invariant c.self.view_is) (program_at c.core.inside.table.shared.key c.core.invariant.program c.core.view_is c.self.view_is)
    c.requires

pub instr-requires : goal.instr-requires
instr-requires c = (begun (goal.at.instr-requires c).After-core).index

pub returns-in-Err : goal.returns-in-Err
returns-in-Err c = refused_source true (begun (goal.at.returns-in-Err c).After-core).way c.read_needed.ensures.same c.in-Err.ensures.answer

first : (c : In-Ok) → IsReading c.args.self.now c.read_needed.new.self c.args.station c.args.tag c.args.info.index c.needs_second-both.result
    (HasFirst c.args.info.half c.args.info.index c.args.info.predicted c.in-Ok.value)
first c = has_first (begun (goal.at.In-Ok c).After-core) c.instr.ensures c.op.ensures c.kind-kind.ensures c.needs_second-both.ensures
    c.read_needed.ensures.same c.in-Ok.ensures.answer

pub read_needed-requires-2-clause-seen : goal.read_needed-requires-2-clause-seen
read_needed-requires-2-clause-seen c = next_is_second (first (goal.at.read_needed-requires-2-clause-seen c).In-Ok)

pub returns-in-Err-read_needed : goal.returns-in-Err-read_needed
returns-in-Err-read_needed c =
    let r = first (goal.at.returns-in-Err-read_needed c).In-Ok in
    refused_source c.needs_second-both.result r.way c.read_needed-2.ensures.same c.in-Err-read_needed.ensures.answer

pub open_word-open-requires : goal.open_word-open-requires
open_word-open-requires c = omega (arith, (begun (goal.at.open_word-open-requires c).After-core).tag)

both : (c : In-Ok-read_needed) → IsReading c.args.self.now c.read_needed-2.new.self c.args.station c.args.tag c.args.info.index c.needs_second-both.result
    (HasBoth c.args.info.half c.args.info.index c.args.info.predicted c.in-Ok.value c.needs_second-both.result c.in-Ok-read_needed.value)
both c = has_both (first (goal.at.In-Ok-read_needed c).In-Ok) c.read_needed-2.ensures.same c.in-Ok-read_needed.ensures.answer

pub claim_tenant-found-requires : goal.claim_tenant-found-requires
claim_tenant-found-requires c = record {
  words = record {
    old_is = record { tag = refl; state = c.open_word-open.ensures.state; value = c.open_word-open.ensures.value };
    new_is = subst (λ z. IsStation (record { tag = z; state = IsBusy; value = Some 0 }) c.busy_word-busy.result) (sym c.open_word-open.ensures.tag) (c.busy_word-busy.ensures 0);
  };
  seen = is_ready (both (goal.at.claim_tenant-found-requires c).In-Ok-read_needed) c.open_word-open.ensures.tag;
}

pub returns-then-found-open : goal.returns-then-found-open
returns-then-found-open c = moved_at_exchange (both (goal.at.returns-then-found-open c).In-Ok-read_needed) c.open_word-open.ensures.tag c.claim_tenant-found.ensures c.if-found-open.true

pub pc_of-pc-requires : goal.pc_of-pc-requires
pc_of-pc-requires c = omega (arith, (begun (goal.at.pc_of-pc-requires c).After-core).index, c.core.invariant.small)

pub returns : goal.returns
returns c =
    let hit : c.claim_tenant-found.result ≡ c.open_word-open.result = search rules in
    has_claimed (both (goal.at.returns c).In-Ok-read_needed) c.open_word-open.ensures.tag c.claim_tenant-found.ensures hit c.pc_of-pc.result c.pc_of-pc.ensures
