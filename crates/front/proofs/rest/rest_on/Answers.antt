-- A rest.
use Rattle.std.proofs.Common.{◌<◌, ◌-◌, [], length, refl, sym, ap, ◌∙◌, subst, arith}
use Rattle.inorder.specs.History.{front, unit_of}
use Rattle.inorder.specs.OneHistory.{Adds}
use Rattle.front.specs.declared.path.Path.{Path}
use Rattle.station.specs.Renewals.{HasNobody}
use Rattle.front.proofs.Folding.{folding_begins, knows_rested}
use Rattle.front.proofs.Fronts.{forgotten}
use Rattle.front.proofs.Idling.{HasSeen, rested_adds, rested_nobody, rested_tells, rested_told, rests_empty, rests_free}
use Rattle.front.proofs.Moments.{at_end}
use Rattle.front.proofs.Named.{all_get, stations_inside}
use Rattle.front.proofs.Resting.{somebody}
use Rattle.front.proofs.Stays.{still_knows}
use Rattle.front.proofs.TableStays.{still_has_table}
use Rattle.front.proofs.rest.rest_on.Given.{Over}
use Rattle.front.proofs.rest.rest_on.Goals.{After-keep_front, in-Some+in-Free, in_default}
use Rattle.front.proofs.rest.rest_on.Goals as goal

pub look-seen-requires-clause-station : goal.look-seen-requires-clause-station
look-seen-requires-clause-station g c =
    let C = c.args.core.now.sizes in
    let records = c.args.path.now.records in
    all_get (λ x. x.station < C.ring) records (stations_inside c.args.seat.now.seen c.requires.legal c.requires.knows refl (omega (arith, c.ring-ring.ensures.value, c.ring-ring.ensures.least)))
    (length records - 1) c.in-Some.youngest (sym c.last.ensures ∙ c.in-Some.is)

pub keep_front-requires-clause-inside : goal.keep_front-requires-clause-inside
keep_front-requires-clause-inside g c = stations_inside c.args.seat.now.seen c.requires.legal c.requires.knows c.ring-ring.ensures.value c.ring-ring.ensures.least

pub returns-in_default-state : goal.returns-in_default-state
returns-in_default-state g c =
    let P = c.args.core.now.program in
    let C = c.args.core.now.sizes in
    let old = c.args.seat.now.seen in
    let new = c.look-seen.new.seat.seen in
    let records = c.args.path.now.records in
    let base = c.args.path.now.base in
    let T = c.args.creators.now.counted.table in
    let mine : Adds P C front old new [] = subst (λ i. Adds P C i old new []) c.requires.by c.look-seen.ensures.history in
    record {
      kept = c.look-seen.ensures.kept;
      reply = record {
        adds = mine;
        live = at_end P C (λ U. ¬ HasNobody U) old new [] mine (somebody P C new mine.legal c.in-Some.youngest.station c.look-seen.result c.look-seen.ensures.reply c.in_default-state.not-Free);
        predictor = refl;
      };
      trained_upto = refl;
      records = refl;
      knows = still_knows mine c.requires.knows;
      table = still_has_table mine c.requires.table;
      touched = refl;
    }

-- The front has seen that nobody is in flight, by the look at its last tenant, or since there is none
has_seen : (g : Over) (c : After-keep_front g) → HasSeen c.args.core.now c.args.path.now c.args.seat.now c.match-last.seat
has_seen g c = elim c.match-last.branch [
  | in-Some+in-Free w ↦ rests_free c.requires.by c.requires.knows c.last.ensures w.look-seen.ensures.kept w.look-seen.ensures.history w.in-Some.is w.look-seen.result
      w.look-seen.ensures.reply w.in-Free.is w.seat-is
  | in_default w ↦ rests_empty c.requires.by c.requires.knows c.last.ensures c.requires.legal w.in_default.is w.seat-is
]

pub fold_all-requires-clause-folding : goal.fold_all-requires-clause-folding
fold_all-requires-clause-folding g c =
    let seen = has_seen g (goal.at.fold_all-requires-clause-folding g c).After-keep_front in
    folding_begins c.args.core.now c.match-last.seat.seen seen.adds.legal c.args.path.now seen.knows c.ring-ring.result c.ring-ring.ensures.value
    (omega (arith, c.ring-ring.ensures.value, c.ring-ring.ensures.least)) c.keep_front.new.self c.keep_front.ensures.records c.keep_front.ensures.base

pub fold_all-requires-clause-nobody : goal.fold_all-requires-clause-nobody
fold_all-requires-clause-nobody g c =
    let seen = has_seen g (goal.at.fold_all-requires-clause-nobody g c).After-keep_front in
    seen.nobody

pub returns-clause-reply : goal.returns-clause-reply
returns-clause-reply g c =
    let seen = has_seen g (goal.at.returns-clause-reply g c).After-keep_front in
    record {
      adds = rested_adds seen c.fold_all.new.seat c.fold_all.ensures.history;
      nobody = rested_nobody seen c.fold_all.new.seat c.fold_all.ensures.history;
      tells = rested_tells seen c.fold_all.new.seat c.fold_all.ensures.history g.P.Predictor.Learns c.args.predictor.now c.fold_all.new.predictor
          c.keep_front.ensures.records c.fold_all.ensures.tells;
    }

pub returns-clause-knows : goal.returns-clause-knows
returns-clause-knows g c =
    let seen = has_seen g (goal.at.returns-clause-knows g c).After-keep_front in
    let new : Path = record { records = c.fold_all.new.path.records; base = record c.fold_all.new.path.base { rested = c.of.result } } in
    let told = rested_told seen c.fold_all.new.seat c.fold_all.ensures.history c.of.ensures c.requires.core c.fold_all.ensures.kept.core in
    knows_rested c.args.core.now c.fold_all.new.seat.seen c.fold_all.new.path new c.fold_all.ensures.folding c.fold_all.ensures.none refl told refl refl refl refl

pub returns-clause-table : goal.returns-clause-table
returns-clause-table g c =
    let seen = has_seen g (goal.at.returns-clause-table g c).After-keep_front in
    let d = c.args.core.now in
    let told = rested_told seen c.fold_all.new.seat c.fold_all.ensures.history c.of.ensures c.requires.core c.fold_all.ensures.kept.core in
    forgotten d.program (unit_of d.program d.sizes c.fold_all.new.seat.seen) _ c.forget.new.self.counted.table told c.forget.ensures.entries
    (ap (λ z. length z) c.forget.ensures.latest ∙ c.requires.table.deep)
