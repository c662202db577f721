-- The exit status where there is no log.
use Rattle.std.specs.Prelude.{ℕ}
use Rattle.chart.specs.declared.log_file.NoLog.{NoLog}
use Rattle.chart.specs.declared.log_file.NoLog.TheVariants.{IsListing, Unopened}

-- 3 for a mistake on the command line, 5 where the file did not open
abbrev pub status_without_log : NoLog → ℕ
status_without_log IsListing = 3
status_without_log (Unopened reason) = 5
