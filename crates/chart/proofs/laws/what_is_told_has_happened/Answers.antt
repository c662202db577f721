use Rattle.chart.proofs.Happening.{all_happened}
use Rattle.chart.proofs.laws.what_is_told_has_happened.Goals as goal

pub returns : goal.returns
returns c = λ s p sizes turns t. all_happened s p sizes turns t
