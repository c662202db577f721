use Rattle.std.proofs.Common.{[], rules, string_bytes, arith}
use Rattle.session.proofs.Tries.{tried_on, tried_start}
use Rattle.session.proofs.turns.turns.Goals.{in-Moved, in-Retired}
use Rattle.session.proofs.turns.turns.Goals as goal

pub loop-taken-init : goal.loop-taken-init
loop-taken-init g c = record { tried = tried_start c.args.number c.args.session.now _ (search rules); few = omega arith }

pub loop-taken-preserved : goal.loop-taken-preserved
loop-taken-preserved g c =
    let at = c.loop-taken in
    let one = c.advance.new in
    record {
      tried = tried_on c.args.number c.args.session.now at.session one.session [] (string_bytes at.out) (string_bytes one.out) at.invariant.tried c.in_ok-advance.ensures;
      few = elim c.match-branch-2.branch [
        | in-Moved w ↦ omega (arith, w.retired-is, at.invariant.few)
        | in-Retired w ↦ omega (arith, w.retired-is, at.invariant.few)
      ];
    }

pub returns-in-Met : goal.returns-in-Met
returns-in-Met g c =
    let at = c.loop-taken in
    let one = c.advance.new in
    tried_on c.args.number c.args.session.now at.session one.session [] (string_bytes at.out) (string_bytes one.out) at.invariant.tried c.in_ok-advance.ensures

pub returns-in-Over : goal.returns-in-Over
returns-in-Over g c =
    let at = c.loop-taken in
    let one = c.advance.new in
    tried_on c.args.number c.args.session.now at.session one.session [] (string_bytes at.out) (string_bytes one.out) at.invariant.tried c.in_ok-advance.ensures
