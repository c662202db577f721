use Rattle.std.proofs.Common.{◌≡◌, ◌<◌, ℕ, None, vec_len}
use Rattle.session.specs.Workers.{AreAtWork, worker_at}
use Rattle.session.proofs.units.forget_units.Given as goal

-- all units so far are forgotten, and the others hold their jobs
abbrev pub invariant-loop-at : goal.invariant-loop-at
invariant-loop-at l = (vec_len l.units ≡ vec_len l.fn.units) × ((k : ℕ) → k < l.at → worker_at l.units.items k ≡ None) × AreAtWork l.units.items
