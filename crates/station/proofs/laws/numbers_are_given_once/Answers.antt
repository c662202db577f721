use Rattle.station.proofs.Numbers.{splits_share, units_are_numbered}
use Rattle.station.proofs.laws.numbers_are_given_once.Goals as goal

pub returns-clause-all : goal.returns-clause-all
returns-clause-all c = units_are_numbered

pub returns-clause-split : goal.returns-clause-split
returns-clause-split c = splits_share
