use Rattle.std.proofs.Common.{rules}
use Rattle.session.proofs.Workers.{none_works}
use Rattle.session.proofs.session.Session.new.Goals as goal

-- src/session.rt:72:36
pub invariant_of-result : goal.invariant_of-result
invariant_of-result g c = record {
  named = search rules;
  program_is = search rules;
  all_core = search rules;
  front_is = search rules;
  rests = search rules;
  back_core = search rules;
  back_by = search rules;
  workers = none_works c.in_ok-core.core c.in_ok-units.units.items c.in_ok-units.ensures.none;
  places = search rules;
  legal = search rules;
}
