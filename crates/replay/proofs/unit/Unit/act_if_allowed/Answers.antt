use Rattle.replay.proofs.Due.{not_tried}
use Rattle.replay.proofs.unit.Unit.act_if_allowed.Goals as goal

pub returns-in-Err : goal.returns-in-Err
returns-in-Err c =
    not_tried c.args.self.now c.act.new.self c.args.who c.args.deed c.in-Err.field-0 c.in-Err.ensures.err c.in-Err.ensures.same
