use Rattle.lsq.proofs.LoadsRight.{forward_is, memory_is, blocked_is_right}
use Rattle.lsq.proofs.law.loads_read_the_last_stores.Goals as goal

pub returns-clause-forward : goal.returns-clause-forward
returns-clause-forward c = forward_is

pub returns-clause-memory : goal.returns-clause-memory
returns-clause-memory c = memory_is

pub returns-clause-blocked : goal.returns-clause-blocked
returns-clause-blocked c = blocked_is_right
