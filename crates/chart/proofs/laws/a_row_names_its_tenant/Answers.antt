use Rattle.chart.proofs.RowsNamed.{rows_are_named}
use Rattle.chart.proofs.laws.a_row_names_its_tenant.Goals as goal

pub returns : goal.returns
returns c = λ s p sizes turns. rows_are_named s p sizes turns
