use Rattle.std.proofs.Common.{◌≡◌, ◌≤◌, ◌+◌, [], length, sym, ap, ◌∙◌, subst}
use Rattle.instructions.specs.Instruction.{width}
use Rattle.instructions.specs.Programs.{Program}
use Rattle.inorder.specs.History.{back}
use Rattle.inorder.specs.OneHistory.{Adds}
use Rattle.back.specs.Trials.{NoLoadWaits, SomeWaits, load_of_index}
use Rattle.back.proofs.Searching.{if_none, if_some}
use Rattle.back.proofs.Seeing.{two_looks}
use Rattle.back.proofs.ReadLoads.{load_says}
use Rattle.back.proofs.Trying.{none_read, some_waits}
use Rattle.back.proofs.AtStation.{none_shown}
use Rattle.back.proofs.port.find_waiting.Goals.{After-load_at}
use Rattle.back.proofs.port.find_waiting.Goals as goal

pub returns-in_default-clause-none : goal.returns-in_default-clause-none
returns-in_default-clause-none c =
    let d = c.args.core.now in
    let old = c.args.seat.now in
    let mid = c.look-seen.new.seat in
    let seen = c.look-seen.result in
    let a = subst (λ x. Adds d.program d.sizes x old.seen mid.seen []) c.requires.by c.look-seen.ensures.history in
    none_shown d.program d.sizes old.seen mid.seen a c.args.station seen.tag seen.state seen.value c.look-seen.ensures.reply (sym c.address.ensures ∙ c.in_default.is)

pub returns-clause-history : goal.returns-clause-history
returns-clause-history c =
    let d = c.args.core.now in
    two_looks d.program d.sizes c.args.seat.now.by c.look-seen.new.seat.by c.args.seat.now.seen c.look-seen.new.seat.seen c.info-index.new.seat.seen c.look-seen.ensures.kept.by
    c.look-seen.ensures.history c.info-index.ensures.history

-- The look at the station's word, and that at its info word
first_look : (c : After-load_at) → Adds c.args.core.now.program c.args.core.now.sizes back c.args.seat.now.seen c.look-seen.new.seat.seen []
first_look c = subst (λ x. Adds c.args.core.now.program c.args.core.now.sizes x c.args.seat.now.seen c.look-seen.new.seat.seen []) c.requires.by c.look-seen.ensures.history

second_look : (c : After-load_at) → Adds c.args.core.now.program c.args.core.now.sizes back c.look-seen.new.seat.seen c.info-index.new.seat.seen []
second_look c = subst (λ x. Adds c.args.core.now.program c.args.core.now.sizes x c.look-seen.new.seat.seen c.info-index.new.seat.seen [])
    (c.look-seen.ensures.kept.by ∙ c.requires.by) c.info-index.ensures.history

load_is : (c : After-load_at) → c.load_at.result ≡ load_of_index c.args.core.now.program c.info-index.result.0 c.look-seen.result.tag c.in-Some.address
load_is c = c.load_at.ensures ∙ ap (λ (Q : Program). load_of_index Q c.info-index.result.0 c.look-seen.result.tag c.in-Some.address) c.program.ensures

pub returns-clause-none : goal.returns-clause-none
returns-clause-none c =
    let o = (goal.at.returns-clause-none c).After-load_at in
    let d = c.args.core.now in
    let seen = c.look-seen.result in
    if_none c.load_at.result (NoLoadWaits d.program d.sizes c.args.seat.now.seen c.info-index.new.seat.seen c.args.station)
    (λ e. none_read d.program d.sizes _ _ _ (first_look o) (second_look o) c.args.station seen.tag seen.state seen.value c.look-seen.ensures.reply c.in-Some.address
    (sym c.address.ensures ∙ c.in-Some.is) c.info-index.result.0 (λ q t at_q st live. (c.info-index.ensures.reply.its q t at_q st live).0) (sym (load_is o) ∙ e))

pub returns-clause-some : goal.returns-clause-some
returns-clause-some c =
    let o = (goal.at.returns-clause-some c).After-load_at in
    let d = c.args.core.now in
    let seen = c.look-seen.result in
    if_some c.load_at.result (λ l. SomeWaits d.program d.sizes c.args.seat.now.seen c.info-index.new.seat.seen c.args.station l)
    (λ l e. some_waits d.program d.sizes _ _ _ (first_look o) (second_look o) c.args.station seen.tag seen.state seen.value c.look-seen.ensures.reply c.in-Some.address
    (sym c.address.ensures ∙ c.in-Some.is) c.info-index.result.0 (λ q t at_q st live. (c.info-index.ensures.reply.its q t at_q st live).0) l (sym (load_is o) ∙ e))

pub returns-clause-inside : goal.returns-clause-inside
returns-clause-inside c =
    let o = (goal.at.returns-clause-inside c).After-load_at in
    let d = c.args.core.now in
    if_some c.load_at.result (λ l. l.address + width l.op ≤ length d.program.bytes)
    (λ l e. (load_says d.program c.info-index.result.0 c.look-seen.result.tag c.in-Some.address l (sym (load_is o) ∙ e)).inside)
