use Rattle.std.proofs.Common.{◌≡◌, ◌≤◌, vec_len, vec_capacity}
use Rattle.session.specs.Workers.{HasNone}
use Rattle.session.proofs.units.no_units.Given as goal

abbrev pub invariant-loop : goal.invariant-loop
invariant-loop l = (vec_len l.units ≡ l.counter) × HasNone l.units.items × (64 ≤ vec_capacity l.units)
