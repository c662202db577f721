-- A recovery.
use Rattle.std.proofs.Common.{◌∙◌, refl, subst}
use Rattle.inorder.specs.History.{front}
use Rattle.station.specs.Recovery.{IsMended}
use Rattle.front.proofs.FirstMiss.{recovered}
use Rattle.front.proofs.Misses.{no_miss}
use Rattle.front.proofs.Stays.{still_knows}
use Rattle.front.proofs.Recovered.{Mended, mend_allowed, mend_table_done}
use Rattle.front.proofs.TableStays.{still_has_table}
use Rattle.front.proofs.Touches.{touched_none}
use Rattle.front.proofs.recovery.recover_on.Goals.{After-redirect}
use Rattle.front.proofs.recovery.recover_on.Goals as goal

pub returns-in_default-clause-reply : goal.returns-in_default-clause-reply
returns-in_default-clause-reply c = (
  c.find_miss.ensures.history,
  no_miss c.args.core.now.program c.args.core.now.sizes c.args.seat.now.seen c.requires.legal c.args.path.now.records
      c.args.path.now.base c.requires.knows c.in_default.ensures.reply,
)

pub returns-in_default-clause-knows : goal.returns-in_default-clause-knows
returns-in_default-clause-knows c = still_knows c.find_miss.ensures.history c.requires.knows

pub squash_behind-squashed-requires-clause-knows : goal.squash_behind-squashed-requires-clause-knows
squash_behind-squashed-requires-clause-knows c = still_knows c.find_miss.ensures.history c.requires.knows

pub mend-requires-clause-miss : goal.mend-requires-clause-miss
mend-requires-clause-miss c =
    let s = c.squash_behind-squashed in
    mend_allowed c.args.core.now.program c.args.core.now.sizes s.new.seat.seen s.ensures.history.adds.legal s.new.path.records s.new.path.base s.ensures.knows c.in-Some.missed s.ensures.miss
    s.ensures.last

-- The mending, as a step of the front's, and the whole recovery
mended : (c : After-redirect) → IsMended c.args.core.now.program c.args.core.now.sizes front c.in-Some.missed.station c.squash_behind-squashed.new.seat.seen c.mend.new.seat.seen
mended c =
    let s = c.squash_behind-squashed in
    subst (λ i. IsMended c.args.core.now.program c.args.core.now.sizes i c.in-Some.missed.station s.new.seat.seen c.mend.new.seat.seen)
    (s.ensures.kept.by ∙ (c.find_miss.ensures.kept.by ∙ c.requires.by)) c.mend.ensures.history

whole : (c : After-redirect) → Mended c.args.core.now.program c.args.core.now.sizes c.args.seat.now.seen c.mend.new.seat.seen c.squash_behind-squashed.new.path.records
    c.squash_behind-squashed.new.path.base c.in-Some.missed c.squash_behind-squashed.result
whole c =
    let s = c.squash_behind-squashed in
    recovered c.args.core.now.program c.args.core.now.sizes c.args.seat.now.seen c.find_miss.new.seat.seen s.new.seat.seen c.mend.new.seat.seen c.requires.legal c.args.path.now.records
    c.args.path.now.base c.requires.knows c.in-Some.missed c.in-Some.ensures.reply.first c.find_miss.ensures.history s.new.path.records s.new.path.base s.ensures.records s.ensures.knows
    s.ensures.miss s.ensures.last s.result s.ensures.history (mended c)

pub returns-clause-reply : goal.returns-clause-reply
returns-clause-reply c = (whole c).is

pub returns-clause-knows : goal.returns-clause-knows
returns-clause-knows c = (whole c).knows c.redirect.new.self c.redirect.ensures

pub returns-in_default-clause-table : goal.returns-in_default-clause-table
returns-in_default-clause-table c = still_has_table c.find_miss.ensures.history c.requires.table

pub returns-in_default-clause-touched : goal.returns-in_default-clause-touched
returns-in_default-clause-touched c = touched_none _ _ _ refl

pub squash_behind-squashed-requires-clause-table : goal.squash_behind-squashed-requires-clause-table
squash_behind-squashed-requires-clause-table c = still_has_table c.find_miss.ensures.history c.requires.table

pub returns-clause-table : goal.returns-clause-table
returns-clause-table c =
    let s = c.squash_behind-squashed in
    mend_table_done c.args.core.now.program c.args.core.now.sizes s.new.seat.seen c.mend.new.seat.seen s.new.path.records s.new.path.base s.ensures.knows c.in-Some.missed s.ensures.miss
    s.ensures.last (mended c) s.new.creators.table s.ensures.table
