use Rattle.station.proofs.Waking.{with_bit}
use Rattle.station.proofs.walk.with_station.Goals as goal

pub returns-then-wakes : goal.returns-then-wakes
returns-then-wakes c = with_bit c.args.woken c.args.station c.args.wakes c.requires c.if-wakes.true
