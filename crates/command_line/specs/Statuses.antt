-- The exit statuses of a program that does nothing but print a text, and that text.
use Rattle.std.specs.Prelude.{ℕ, List, codes, string_bytes}
use Rattle.command_line.specs.declared.no_run.NoRun.{NoRun}
use Rattle.command_line.specs.declared.no_run.NoRun.TheVariants.{Help, Usage, Ring, Memory}

-- of a program that does nothing but print a text
abbrev pub status_of : NoRun → ℕ
status_of (Help _) = 0
status_of (Usage _) = 3
status_of Ring = 3
status_of Memory = 5

-- the text; that of a ring size and of want of memory has no line feed
abbrev pub no_run_text : NoRun → List ℕ
no_run_text (Help text) = string_bytes text
no_run_text (Usage text) = string_bytes text
no_run_text Ring = codes "ruu: ruu-size must be 2, 4, 8, 16 or 32"
no_run_text Memory = codes "ruu: memory"
