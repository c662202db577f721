use Rattle.std.proofs.Common.{[], length, ap, ◌∙◌, subst, arith}
use Rattle.instructions.specs.Programs.{Program, instr_of}
use Rattle.inorder.specs.OneHistory.{Adds}
use Rattle.back.specs.Port.{seen_as}
use Rattle.back.proofs.Seeing.{sees_entry, two_looks}
use Rattle.back.proofs.port.look.Goals as goal

pub returns-then-index-len-clause-history : goal.returns-then-index-len-clause-history
returns-then-index-len-clause-history c =
    let d = c.args.core.now in
    two_looks d.program d.sizes c.args.seat.now.by c.info-index.new.seat.by c.args.seat.now.seen c.info-index.new.seat.seen c.look-seen.new.seat.seen c.info-index.ensures.kept.by
    c.info-index.ensures.history c.look-seen.ensures.history

pub returns-then-index-len-clause-shows : goal.returns-then-index-len-clause-shows
returns-then-index-len-clause-shows c =
    let d = c.args.core.now in
    let seen = c.look-seen.result in
    let mid = c.info-index.new.seat in
    let a = subst (λ x. Adds d.program d.sizes x c.args.seat.now.seen mid.seen []) c.requires.by c.info-index.ensures.history in
    let b = subst (λ x. Adds d.program d.sizes x mid.seen c.look-seen.new.seat.seen []) (c.info-index.ensures.kept.by ∙ c.requires.by) c.look-seen.ensures.history in
    sees_entry d.program d.sizes c.args.seat.now.seen mid.seen c.look-seen.new.seat.seen a b c.args.station c.info-index.result.0 (λ q t is st live. (c.info-index.ensures.reply.its q t is st live).0)
    seen.tag seen.state seen.value c.look-seen.ensures.reply
    c.entry.result (λ l. c.entry.ensures ∙ ap (λ i. seen_as i seen.state seen.value) (c.instr.ensures ∙ ap (λ (Q : Program). instr_of Q c.info-index.result.0) c.program-program.ensures))

pub returns-else-index-len-clause-history : goal.returns-else-index-len-clause-history
returns-else-index-len-clause-history c =
    let d = c.args.core.now in
    two_looks d.program d.sizes c.args.seat.now.by c.info-index.new.seat.by c.args.seat.now.seen c.info-index.new.seat.seen c.look-seen.new.seat.seen c.info-index.ensures.kept.by
    c.info-index.ensures.history c.look-seen.ensures.history

pub returns-else-index-len-clause-shows : goal.returns-else-index-len-clause-shows
returns-else-index-len-clause-shows c =
    let d = c.args.core.now in
    let seen = c.look-seen.result in
    let mid = c.info-index.new.seat in
    let a = subst (λ x. Adds d.program d.sizes x c.args.seat.now.seen mid.seen []) c.requires.by c.info-index.ensures.history in
    let b = subst (λ x. Adds d.program d.sizes x mid.seen c.look-seen.new.seat.seen []) (c.info-index.ensures.kept.by ∙ c.requires.by) c.look-seen.ensures.history in
    let few = c.if-index-len.false in
    let len = c.len.ensures.value in
    let same = ap (λ (Q : Program). length Q.code) c.program-program.ensures in
    sees_entry d.program d.sizes c.args.seat.now.seen mid.seen c.look-seen.new.seat.seen a b c.args.station c.info-index.result.0 (λ q t is st live. (c.info-index.ensures.reply.its q t is st live).0)
    seen.tag seen.state seen.value c.look-seen.ensures.reply
    c.default.result (λ l. absurd (omega (arith, few, len, same, l)))
