-- What a line tells of a refusal.
use Rattle.std.specs.Prelude.{⊤}
use Rattle.command_line.specs.declared.exit.Line.{Line}
use Rattle.command_line.specs.declared.exit.Line.TheVariants.{Nothing, Tally, Refused}
use Rattle.command_line.specs.declared.exit.Refusal.{Refusal}

-- P of the refusal that a line tells, if it tells one
abbrev pub IfRefused : Line → (Refusal → Type 0) → Type 0
IfRefused Nothing P = ⊤
IfRefused (Tally totals) P = ⊤
IfRefused (Refused refusal) P = P refusal
