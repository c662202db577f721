use Rattle.std.proofs.Common.{drop}
use Rattle.clap.specs.Words.{app_of}
use Rattle.command_line.proofs.Building.{IsBuilt}
use Rattle.command_line.proofs.arguments.with_arguments.Given as goal

abbrev pub invariant-loop-argument : goal.invariant-loop-argument
invariant-loop-argument l = IsBuilt (app_of l.initial.built) l.arguments (drop l.argument-index l.arguments) l.built
