use Rattle.isa.proofs.Whole.{listing_long}
use Rattle.isa.proofs.FaultOrder.{line_named, unknown_named, none_left}
use Rattle.isa.proofs.listing.law.the_first_fault_is_named.Goals as goal

pub returns-clause-whole : goal.returns-clause-whole
returns-clause-whole c = listing_long

pub returns-clause-line : goal.returns-clause-line
returns-clause-line c = line_named

pub returns-clause-unknown : goal.returns-clause-unknown
returns-clause-unknown c = unknown_named

pub returns-clause-none : goal.returns-clause-none
returns-clause-none c = none_left
