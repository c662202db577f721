use Rattle.std.proofs.Common.{◌≡◌, ◌≤◌}
use Rattle.arrayvec.specs.ArrayVec.{array_vec_len}
use Rattle.one_thread.specs.Loads.{entries}
use Rattle.one_thread.proofs.forwarding.answer_at.Given as goal

abbrev pub invariant-loop-at : goal.invariant-loop-at
invariant-loop-at l = record { few : array_vec_len l.older ≤ l.at; are : l.older.items ≡ entries l.fn.ahead.registers l.fn.window l.at }
