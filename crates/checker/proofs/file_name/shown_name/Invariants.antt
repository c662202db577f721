use Rattle.std.proofs.Common.{◌≡◌}
use Rattle.std.specs.Prelude.{flat_map}
use Rattle.checker.specs.Names.{shown_character}
use Rattle.checker.proofs.file_name.shown_name.Given as goal

abbrev pub invariant-loop-character : goal.invariant-loop-character
invariant-loop-character l = l.text.items ≡ flat_map shown_character l.yielded
