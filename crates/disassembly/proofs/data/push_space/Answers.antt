use Rattle.std.proofs.Common.{◌≡◌, ◌++◌, string_bytes}
use Rattle.std.specs.Prelude.{codes}
use Rattle.std.specs.Fmt.{decimal}
use Rattle.disassembly.specs.Writing.{unlines, space_lines}
use Rattle.disassembly.proofs.Names.{on_ok}
use Rattle.disassembly.proofs.DataSteps.{space_added}
use Rattle.disassembly.proofs.data.push_space.Goals as goal

pub returns : goal.returns
returns c =
    on_ok c.write.result
    (string_bytes c.write.new.self ≡ string_bytes c.args.out.now ++ (codes "        .space " ++ (decimal c.args.count ++ codes "\n")))
    (string_bytes c.write.new.self ≡ string_bytes c.args.out.now ++ unlines (space_lines c.args.count))
    (space_added (string_bytes c.args.out.now) (string_bytes c.write.new.self) c.args.count c.if-count-eq0.false)
    c.write.ensures.bytes
