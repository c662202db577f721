use Rattle.std.proofs.Common.{string_bytes}
use Rattle.session.proofs.Tries.{tried_none, tried_on, tried_one}
use Rattle.session.proofs.turns.go.Goals as goal

pub loop-at-init : goal.loop-at-init
loop-at-init g c = tried_none c.args.number c.args.session.now (string_bytes c.args.out.now)

pub loop-at-preserved : goal.loop-at-preserved
loop-at-preserved g c =
    let at = c.loop-at in
    let next = c.tried.new in
    tried_on c.args.number c.args.session.now at.session next.session (string_bytes c.args.out.now) (string_bytes at.out) (string_bytes next.out) at.invariant
    (tried_one c.args.number at.session next.session _ (string_bytes at.out) (string_bytes next.out) c.in_ok-progress.ensures)

pub returns-then-not-is_over : goal.returns-then-not-is_over
returns-then-not-is_over g c =
    let at = c.loop-at in
    let next = c.tried.new in
    tried_on c.args.number c.args.session.now at.session next.session (string_bytes c.args.out.now) (string_bytes at.out) (string_bytes next.out) at.invariant
    (tried_one c.args.number at.session next.session _ (string_bytes at.out) (string_bytes next.out) c.in_ok-progress.ensures)
