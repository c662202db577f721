use Rattle.std.proofs.Common.{[], true≢false, sym, ap, ◌∙◌, subst, eq-eqb}
use Rattle.std.specs.Prelude.{is_some}
use Rattle.inorder.specs.OneHistory.{Adds}
use Rattle.back.proofs.Searching.{some_of}
use Rattle.back.proofs.Trying.{not_there, still_there}
use Rattle.back.proofs.port.is_still.Goals as goal

pub returns-then-seen-load-clause-still : goal.returns-then-seen-load-clause-still
returns-then-seen-load-clause-still c shows p named asked =
    let d = c.args.core.now in
    let seen = c.look-seen.result in
    let a = subst (λ x. Adds d.program d.sizes x c.args.seat.now.seen c.look-seen.new.seat.seen []) c.requires.by c.look-seen.ensures.history in
    let there = some_of c.address.result (sym c.is_some.ensures ∙ shows) in
    still_there d.program d.sizes c.args.seat.now.seen c.look-seen.new.seat.seen a c.args.station seen.tag seen.state seen.value c.look-seen.ensures.reply c.args.load.now p named asked
    c.if-seen-load.true there.0 (sym c.address.ensures ∙ there.1)

pub returns-then-seen-load-clause-gone : goal.returns-then-seen-load-clause-gone
returns-then-seen-load-clause-gone c never p asked =
    let d = c.args.core.now in
    let seen = c.look-seen.result in
    let a = subst (λ x. Adds d.program d.sizes x c.args.seat.now.seen c.look-seen.new.seat.seen []) c.requires.by c.look-seen.ensures.history in
    not_there d.program d.sizes c.args.seat.now.seen c.look-seen.new.seat.seen a c.args.station seen.tag seen.state seen.value c.look-seen.ensures.reply c.args.load.now p asked
    (λ same there. true≢false (sym (c.is_some.ensures ∙ ap is_some (c.address.ensures ∙ there)) ∙ never))

pub returns-else-seen-load-clause-gone : goal.returns-else-seen-load-clause-gone
returns-else-seen-load-clause-gone c other p asked =
    let d = c.args.core.now in
    let seen = c.look-seen.result in
    let a = subst (λ x. Adds d.program d.sizes x c.args.seat.now.seen c.look-seen.new.seat.seen []) c.requires.by c.look-seen.ensures.history in
    not_there d.program d.sizes c.args.seat.now.seen c.look-seen.new.seat.seen a c.args.station seen.tag seen.state seen.value c.look-seen.ensures.reply c.args.load.now p asked
    (λ same there. true≢false (sym (eq-eqb seen.tag c.args.load.now.tag same) ∙ other))
