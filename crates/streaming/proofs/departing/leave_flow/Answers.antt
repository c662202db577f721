use Rattle.streaming.proofs.FlowOut.{has_room}
use Rattle.streaming.proofs.departing.leave_flow.Goals as goal

pub returns-clause-room : goal.returns-clause-room
returns-clause-room c = has_room c.args.unit.now c.depart-told.new.unit c.args.flow.now c.depart-told.new.flow c.depart-told.result c.requires.flow c.depart-told.ensures.departed
