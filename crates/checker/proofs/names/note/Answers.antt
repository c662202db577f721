use Rattle.std.proofs.Common.{◌∙◌, ap}
use Rattle.std.specs.Prelude.{is_some}
use Rattle.std.specs.Str.{bytes_eq}
use Rattle.std.proofs.lemmas.Map.Text.{btree_map_updates_str}
use Rattle.checker.proofs.Keys.{some_or}
use Rattle.checker.proofs.names.note.Goals as goal

pub returns : goal.returns
returns c = λ other.
    ap is_some (btree_map_updates_str c.args.name.now c.args.names.now c.insert.new.self _ c.in_ok-insert.ensures.updates other)
    ∙ some_or (bytes_eq c.args.name.now other) _ _
