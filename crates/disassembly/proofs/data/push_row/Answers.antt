use Rattle.std.proofs.Common.{◌≡◌, ◌++◌, string_bytes}
use Rattle.std.specs.Prelude.{codes}
use Rattle.isa.specs.Report.{hexadecimal}
use Rattle.disassembly.specs.Writing.{as_line, row_line}
use Rattle.disassembly.proofs.Names.{on_ok}
use Rattle.disassembly.proofs.DataSteps.{row_added}
use Rattle.disassembly.proofs.data.push_row.Goals as goal

pub returns : goal.returns
returns c =
    let a = hexadecimal c.word_at.result in
    let b = hexadecimal c.word_at-2.result in
    let d = hexadecimal c.word_at-3.result in
    let e = hexadecimal c.word_at-4.result in
    on_ok c.write.result
    (string_bytes c.write.new.self ≡ string_bytes c.args.out.now ++ (codes "        .word " ++ (a ++ (codes "," ++ (b ++ (codes "," ++ (d ++ (codes "," ++ (e ++ (codes " # " ++
    (hexadecimal c.args.at ++ codes "\n")))))))))))
    (string_bytes c.write.new.self ≡ string_bytes c.args.out.now ++ as_line (row_line c.args.at c.args.row.now))
    (row_added (string_bytes c.args.out.now) (string_bytes c.write.new.self) c.args.row.now c.args.at c.word_at.result c.word_at-2.result c.word_at-3.result c.word_at-4.result
    c.word_at.ensures c.word_at-2.ensures c.word_at-3.ensures c.word_at-4.ensures)
    c.write.ensures.bytes
